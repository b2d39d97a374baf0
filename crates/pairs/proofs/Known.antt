-- Known sources: every byte of Z is 1 and every bit of P is set, so that an outer product brings one number to every element of
-- its tile, whatever its registers, halves, predicates and signs. Assumes nothing.
use mathlib.Core.Path.{◌≡◌, refl, ap, ap₂, ◌∙◌}
use mathlib.Core.Bool.{Bool, true, false}
use mathlib.Core.List.{List}
use Prim.Native.Nat.{ℕ, zero, suc, ◌+◌, ◌*◌, ◌/◌, ◌<◌}
use native.Mathlib.Omega.{arith}
use lib.IntN.{ℤ, pos, ◌+ℤ◌, ◌*ℤ◌}
use lib.ListN.{length}
use Rattle.storage.specs.Bytes.{at, word, bit_at}
use Rattle.storage.proofs.Bytes.{word_ext}
use Rattle.outer.specs.declared.Predication.{Predication}
use Rattle.outer.specs.declared.Predication.TheVariants.{Unpredicated, By}
use Rattle.outer.specs.declared.OuterProduct.{OuterProduct}
use Rattle.outer.specs.Products.{interpret, register_at, source_element, active, product, sum, directed, dot, Shaped, GoodPredication, Ready}
use Rattle.outer.specs.Walks.{ByteOrHalf, byte, half}
use Rattle.outer.proofs.Sizes.{byte_place}
use Rattle.outer.proofs.Shapes.{shape, register_lt, spot, numbered}
use Rattle.machine.proofs.Masks.{all_rows}

-- a number of E bytes that are all y
abbrev pub filled : ℕ → ℕ → ℕ
filled E y = word E (λ q. y) 0

pub word-filled : (E y p : ℕ) (l : List ℕ) → ((k : ℕ) → k < E → at l (p + k) ≡ y) → word E (at l) p ≡ filled E y
word-filled E y p l h = word_ext E (at l) (λ q. y) p 0 h

-- what K products of source elements 1 or 257 come to, negated where they are subtracted
abbrev one : ℕ → ℤ
one B = pos (filled B 1)

abbrev pub known_sum : ℕ → ℕ → Bool → ℤ
known_sum E K subtract = sum (λ k. directed subtract (one (E / K) *ℤ one (E / K))) K

sum_alike : (f : ℕ → ℤ) (x : ℤ) (n : ℕ) → ((k : ℕ) → k < n → f k ≡ x) → sum f n ≡ sum (λ k. x) n
sum_alike f x zero h = refl
sum_alike f x (suc n) h = ap₂ ◌+ℤ◌ (sum_alike f x n (λ k l. h k (omega arith))) (h n (omega arith))

-- such an element is the same number signed and unsigned
read_one : {B : ℕ} → ByteOrHalf B → (unsigned : Bool) → interpret B unsigned (filled B 1) ≡ one B
unfolding word
read_one byte true = refl
read_one byte false = refl
read_one half true = refl
read_one half false = refl

module _ {E K vb : ℕ} (sh : Shaped E K) (o : OuterProduct) (z p : List ℕ) (ready : Ready E vb o z p)
    (ones : (q : ℕ) → q < length z → at z q ≡ 1) (set : (q : ℕ) → q < length p → at p q ≡ 255) where
  -- element K * c + j, for product j of row or column c
  module _ (c j : ℕ) (hc : c < vb / E) (hj : j < K) where
    source_one : (register : ℕ) (unsigned : Bool) → register < 32
        → interpret (E / K) unsigned (source_element (E / K) vb z register (K * c + j)) ≡ one (E / K)
    source_one register unsigned h =
        let s = spot {register = register} ready.length_legal h (shape sh).source (numbered sh ready.length_legal hc hj).inside in
        ap (interpret (E / K) unsigned)
        (word-filled (E / K) 1 _ z (λ k l. ones _ (omega (arith, s.inside, ready.z_sized))))
        ∙ read_one (shape sh).source unsigned

    all_active : (by : Predication) → GoodPredication by → active (E / K) vb p by (K * c + j) ≡ true
    unfolding bit_at
    all_active Unpredicated g = refl
    all_active (By q) g =
        let n = numbered sh ready.length_legal hc hj in
        let b = byte_place {count = 16} {vb = vb} {r = q.0} {e = (K * c + j) * (E / K)} ready.length_legal g (omega (arith, n.inside, n.wide)) in
        let i = q.0 * vb + (K * c + j) * (E / K) in
        rw (set (i / 8) (omega (arith, b.inside, ready.p_sized))) (all_rows i)

  module _ (row col : ℕ) (hr : row < vb / E) (hc : col < vb / E) where
    product_known : (k : ℕ) → k < K → product E K vb o z p row col k ≡ one (E / K) *ℤ one (E / K)
    unfolding product
    product_known k h =
        rw (all_active row k hr h o.first.predication ready.first.predication, all_active col k hc h o.second.predication ready.second.predication)
        (ap₂ ◌*ℤ◌
        (source_one row k hr h (register_at o.first (vb / E) col) o.first.unsigned (register_lt o.first (vb / E) col ready.first))
        (source_one col k hc h (register_at o.second (vb / E) row) o.second.unsigned (register_lt o.second (vb / E) row ready.second)))

    pub sum-known : dot E K vb o z p row col ≡ known_sum E K o.subtract
    unfolding dot
    sum-known = sum_alike _ _ K (λ k h. ap (directed o.subtract) (product_known k h))
