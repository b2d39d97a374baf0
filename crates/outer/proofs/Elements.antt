-- Source elements that count as 0 where they are not active: their products are an outer product's. Assumes nothing.
use Rattle.std.proofs.Common.{◌≡◌, ℕ, ◌+◌, ◌*◌, ◌/◌, ◌^◌, ◌<◌, ◌≤◌, Bool, true, false, cond, ◌&&◌, List, ℤ, pos, ◌-ℤ◌, ◌*ℤ◌, neg_ℤ, sym, refl, ap, ◌∙◌, ap₂, mul-one, arith, w32, to_z, of_z}
use lib.IntN.{zero-*ℤ, *ℤ-zero}
use lib.Signed.{mag}
use Rattle.storage.specs.Bytes.{Store, at, word}
use Rattle.storage.specs.Modulo.{plus}
use Rattle.storage.proofs.Modulo.{pow_pos, plus_nil}
use Rattle.outer.specs.declared.Predication.{Predication}
use Rattle.outer.specs.declared.Predication.TheVariants.{Unpredicated, By}
use Rattle.outer.specs.declared.Operand.{Operand}
use Rattle.outer.specs.declared.OuterProduct.{OuterProduct}
use Rattle.outer.specs.Products.{interpret, register_at, active, product, sum, directed, directed_product}
use Rattle.outer.specs.Walks.{ByteOrHalf, value_of, Valued, ValuedIn, Turned}
use Rattle.outer.proofs.Progress.{sum_turn}
use Rattle.outer.proofs.Signed.{half_small, read_back, x32, mag_neg, negation_is, *ℤ-directed}

pub word_one : {B : ℕ} (m : Store) (i : ℕ) → B ≡ 1 → m i ≡ word B m i
unfolding word
word_one m i e = rw e (omega arith)

-- a number that was read, in an i32
abbrev pub Reads : ℕ → Bool → ℕ → ℤ → Type 0
Reads B u v x = (x ≡ interpret B u v) × (mag x < 256 ^ B)

pub reads_back : {B v w : ℕ} (u : Bool) (x : ℤ) → ByteOrHalf B → v ≡ w → Reads B u v x → Reads B u w (to_z w32 (of_z w32 x))
reads_back u x s e r = rw (← e, read_back x (omega (arith, r.1, half_small s))) r

-- ---- one element, from what the code finds: it starts at a byte of its register
module _ (B vb : ℕ) (z p : List ℕ) (o : Operand) (register e : ℕ) where
  -- activity is asked for by that byte
  active_byte : (by : Predication) → active 1 vb p by (e * B) ≡ active B vb p by e
  active_byte Unpredicated = refl
  active_byte (By q) = rw mul-one

  pub valued_off : {a : Bool} → a ≡ active 1 vb p o.predication (e * B) → a ≡ false → Valued B vb z p o register e (pos 0)
  unfolding value_of
  valued_off {a} q t = record { value = rw (← active_byte o.predication, ← q, t); small = pow_pos B }

  pub valued_on : {a : Bool} {x : ℤ} → a ≡ active 1 vb p o.predication (e * B) → a ≡ true
      → Reads B o.unsigned (word B (at z) (register * vb + e * B)) x → Valued B vb z p o register e x
  unfolding value_of
  valued_on {a} q t r = record { value = rw (← active_byte o.predication, ← q, t) r.0; small = r.1 }

pub valued_back : {B vb : ℕ} {z p : List ℕ} {o : Operand} {register e : ℕ} {x : ℤ} → ByteOrHalf B → Valued B vb z p o register e x
    → Valued B vb z p o register e (to_z w32 (of_z w32 x))
valued_back {x = x} u v = rw (read_back x (omega (arith, v.small, half_small u))) v

-- and for the planes, as it stands or negated, in the bits of an i32
module _ {vb : ℕ} {o : OuterProduct} {z p : List ℕ} {register e : ℕ} {v : ℤ} (u : ByteOrHalf (o.element / o.products))
    (w : ValuedIn vb o z p o.second register e v) {bits : ℕ} where
  pub turned_added : o.subtract ≡ false → bits ≡ of_z w32 v → Turned vb o z p register e (to_z w32 bits)
  turned_added s b =
      let is : to_z w32 bits ≡ v = ap (to_z w32) b ∙ read_back v (omega (arith, w.small, half_small u)) in
      record { value = rw s (is ∙ w.value); small = rw is (omega (arith, w.small)) }

  pub turned_taken : o.subtract ≡ true → bits ≡ of_z w32 (pos 0 -ℤ x32 v) → Turned vb o z p register e (to_z w32 bits)
  turned_taken s b =
      let is : to_z w32 bits ≡ neg_ℤ v = ap (to_z w32) b ∙ negation_is w32 v (omega (arith, w.small, half_small u)) in
      record { value = rw s (is ∙ ap neg_ℤ w.value); small = rw is (omega (arith, w.small, mag_neg v)) }

-- by the element's size, and by the register's number
pub valued_as : {b B vb : ℕ} {z p : List ℕ} {o : Operand} {register e : ℕ} {x : ℤ} → b ≡ B → Valued b vb z p o register e x → Valued B vb z p o register e x
valued_as e v = rw e at v

pub valued_at : {B vb : ℕ} {z p : List ℕ} {o : Operand} {register r e : ℕ} {x : ℤ} → register ≡ r → Valued B vb z p o register e x → Valued B vb z p o r e x
valued_at e v = rw e at v

-- ---- products of such elements
both : (a b : Bool) (x y : ℤ) → cond a x (pos 0) *ℤ cond b y (pos 0) ≡ cond (a && b) (x *ℤ y) (pos 0)
both true true x y = refl
both true false x y = *ℤ-zero x
both false b x y = zero-*ℤ (cond b y (pos 0))

module _ (E K vb : ℕ) (o : OuterProduct) (z p : List ℕ) (row col k : ℕ) where
  -- product k at (row, col), of elements that are 0 where they are not active
  abbrev FirstIs : ℤ → Type 0
  FirstIs x = Valued (E / K) vb z p o.first (register_at o.first (vb / E) col) (K * row + k) x

  abbrev SecondIs : ℤ → Type 0
  SecondIs y = Valued (E / K) vb z p o.second (register_at o.second (vb / E) row) (K * col + k) y

  abbrev x₀ : ℤ
  x₀ = value_of (E / K) vb z p o.first (register_at o.first (vb / E) col) (K * row + k)

  abbrev y₀ : ℤ
  y₀ = value_of (E / K) vb z p o.second (register_at o.second (vb / E) row) (K * col + k)

  product_is : x₀ *ℤ y₀ ≡ product E K vb o z p row col k
  unfolding product value_of
  product_is = both (active (E / K) vb p o.first.predication (K * row + k)) (active (E / K) vb p o.second.predication (K * col + k)) _ _

  -- of a second element that is negated where o subtracts, the product is too
  pub product_turned : (x y : ℤ) → FirstIs x → y ≡ directed o.subtract y₀ → x *ℤ y ≡ directed_product E K vb o z p row col k
  product_turned x y u v = ap₂ ◌*ℤ◌ u.value v ∙ *ℤ-directed o.subtract x₀ y₀ ∙ ap (directed o.subtract) product_is

  -- sum and product k make r
  abbrev pub Makes : ℕ → ℕ → Type 0
  Makes sum r = r ≡ plus E sum (directed_product E K vb o z p row col k)

  pub counted : {x y : ℤ} (sum r : ℕ) → FirstIs x → SecondIs y → r ≡ plus E sum (directed o.subtract (x *ℤ y)) → Makes sum r
  counted sum r u v q = q ∙ ap (λ (d : ℤ). plus E sum (directed o.subtract d)) (ap₂ ◌*ℤ◌ u.value v.value ∙ product_is)

  -- a product that does not count
  skipped : (sum : ℕ) → sum < 256 ^ E → product E K vb o z p row col k ≡ pos 0 → Makes sum sum
  skipped sum l e = sym (rw e (nothing o.subtract))
    where
      nothing : (t : Bool) → plus E sum (directed t (pos 0)) ≡ sum
      nothing true = plus_nil E sum l
      nothing false = plus_nil E sum l

  pub first_off : (sum : ℕ) → sum < 256 ^ E → FirstIs (pos 0) → Makes sum sum
  first_off sum l u = skipped sum l (sym product_is ∙ ap (λ (d : ℤ). d *ℤ y₀) (sym u.value) ∙ zero-*ℤ y₀)

  pub second_off : (sum : ℕ) → sum < 256 ^ E → SecondIs (pos 0) → Makes sum sum
  second_off sum l v = skipped sum l (sym product_is ∙ ap (λ (d : ℤ). x₀ *ℤ d) (sym v.value) ∙ *ℤ-zero x₀)

-- ---- one more product of an element, of numbers read back from the two arrays
pub sum_more : {N : ℕ} (E s₀ s r j : ℕ) (m x y : ℤ) (f : ℕ → ℤ) → N ≤ 65536 → mag x ≤ N → mag y ≤ N → s ≡ plus E s₀ (sum f j)
    → m ≡ x32 x *ℤ x32 y → x *ℤ y ≡ f j → r ≡ plus E s m → r ≡ plus E s₀ (sum f (j + 1))
sum_more E s₀ s r j m x y f l h k e p q d =
    let m_is = p ∙ ap₂ ◌*ℤ◌ (read_back x (omega arith)) (read_back y (omega arith)) ∙ q in
    sum_turn E s₀ s r j f e (d ∙ ap (plus E s) m_is)
