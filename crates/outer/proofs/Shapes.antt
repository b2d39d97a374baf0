-- What a shape gives: elements of its size fill a row, its products fill an element, and source elements lie in their
-- registers. Assumes nothing.
use Rattle.std.proofs.Common.{◌≡◌, sym, ℕ, zero, suc, ◌%◌, le-ltb, lt-ltb, ◌+◌, ◌-◌, ◌*◌, ◌/◌, ◌^◌, ◌<◌, ◌≤◌, Bool, true, false, cond, ltb, List, ℤ, refl, mul-le-mul_right, mul-le-mul_left, le-div_iff_mul-le, arith, lit<, lit≤}
use native.Mathlib.Nat.{div_self}
use Rattle.storage.specs.Modulo.{plus}
use Rattle.storage.specs.Sizes.{legal}
use Rattle.storage.proofs.Sizes.{Length, legal-length}
use Rattle.outer.specs.declared.Operand.{Operand}
use Rattle.outer.specs.declared.OuterProduct.{OuterProduct}
use Rattle.outer.specs.declared.task.Task.{Task}
use Rattle.outer.specs.Products.{register_at, Shaped, bytes32, halves64, halves32, GoodOperand, Ready}
use Rattle.outer.specs.Walks.{FourOrEight, four, eight, ByteOrHalf, byte, half, SameUntil}
use Rattle.outer.proofs.Progress.{Tiled}

-- ---- sizes
pub is_four : {E : ℕ} → FourOrEight E → (E ≡ 8 → ⊥) → E ≡ 4
is_four four d = refl
is_four eight d = absurd (d refl)

pub is_half : {B : ℕ} → ByteOrHalf B → (B ≡ 1 → ⊥) → B ≡ 2
is_half byte d = absurd (d refl)
is_half half d = refl

-- a number below a power, and a sum modulo it, by one of the sizes
pub below_as : {E F n : ℕ} → E ≡ F → n < 256 ^ E → n < 256 ^ F
below_as e h = rw e at h

pub plus_as : {E F r : ℕ} (sum : ℕ) (z : ℤ) → E ≡ F → r ≡ plus F sum z → r ≡ plus E sum z
plus_as sum z e q = rw e q

half_some : {B : ℕ} → ByteOrHalf B → 0 < B
half_some byte = lit< tt
half_some half = lit< tt

-- ---- the shapes
pub record OfShape (E K : ℕ) : Type 0 where
  pub element : FourOrEight E
  pub source : ByteOrHalf (E / K)
  pub whole : K * (E / K) ≡ E
  pub some : 0 < K
  pub few : K ≤ 4

pub shape : {E K : ℕ} → Shaped E K → OfShape E K
shape bytes32 = record { element = four; source = byte; whole = refl; some = lit< tt; few = lit≤ tt }
shape halves64 = record { element = eight; source = half; whole = refl; some = lit< tt; few = lit≤ tt }
shape halves32 = record { element = four; source = half; whole = refl; some = lit< tt; few = lit≤ tt }

-- whether there are as many products as bytes tells the source elements apart
pub are_bytes : {E K : ℕ} → Shaped E K → E ≡ K → E / K ≡ 1
are_bytes sh e = rw e (div_self (shape sh).some)

pub are_halves : {E K : ℕ} → Shaped E K → (E ≡ K → ⊥) → E / K ≡ 2
are_halves sh d = let s = shape sh in is_half s.source (λ e. let w = rw e at s.whole in d (omega arith))

-- an element of 8 bytes, or two products, tell the shapes apart
pub of_eight : {E K : ℕ} → Shaped E K → E ≡ 8 → (E ≡ 8) × (K ≡ 4)
of_eight bytes32 e = absurd (let q : 4 ≡ 8 = e in omega arith)
of_eight halves64 e = (refl, refl)
of_eight halves32 e = absurd (let q : 4 ≡ 8 = e in omega arith)

pub of_two : {E K : ℕ} → Shaped E K → K ≡ 2 → (E ≡ 4) × (K ≡ 2)
of_two bytes32 e = absurd (let q : 4 ≡ 2 = e in omega arith)
of_two halves64 e = absurd (let q : 4 ≡ 2 = e in omega arith)
of_two halves32 e = (refl, refl)

pub of_neither : {E K : ℕ} → Shaped E K → (E ≡ 8 → ⊥) → (K ≡ 2 → ⊥) → (E ≡ 4) × (K ≡ 4)
of_neither bytes32 d t = (refl, refl)
of_neither halves64 d t = absurd (d refl)
of_neither halves32 d t = absurd (t refl)

-- as many products, of source elements of so many bytes
pub of_sizes : {E K : ℕ} (e k : ℕ) → (E ≡ e) × (K ≡ k) → (K ≡ k) × (e / k ≡ E / K)
of_sizes e k (p, q) = (q, rw (p, q))

pub tiled : {E K : ℕ} → Shaped E K → {vb tile : ℕ} → legal vb ≡ true → tile < E → Tiled E vb tile
tiled sh {vb} {tile} l h = go (shape sh).element (legal-length vb l) h
  where
    go : {E : ℕ} → FourOrEight E → Length vb → tile < E → Tiled E vb tile
    go four n h = record { size = n; positive = omega arith; wide = omega arith; narrow = omega arith; whole = omega arith; tile_in = h }
    go eight n h = record { size = n; positive = omega arith; wide = omega arith; narrow = omega arith; whole = omega arith; tile_in = h }

pub on_tile : {vb : ℕ} {o : OuterProduct} {z p : List ℕ} → Shaped o.element o.products → Ready o.element vb o z p
    → Tiled o.element vb o.tile.0
on_tile sh r = tiled sh r.length_legal r.tile

-- ---- where source elements lie
pub register_lt : (o : Operand) (n i : ℕ) → GoodOperand o → register_at o n i < 32
register_lt o n i g = go (ltb i (n / 2))
  where
    go : (b : Bool) → cond b o.low.0 o.high.0 < 32
    go true = g.low
    go false = g.high

-- element i, of B bytes, of a register
pub record Spot (vb register i B : ℕ) : Type 0 where
  pub some : 0 < B
  pub inside : register * vb + i * B + B ≤ 32 * vb
  pub small : 32 * vb ≤ 8192

pub spot : {vb register i B : ℕ} → legal vb ≡ true → register < 32 → ByteOrHalf B → i * B + B ≤ vb → Spot vb register i B
spot {vb} l h u e =
    let n = legal-length vb l in
    record { some = half_some u; inside = omega (arith, mul-le-mul_right vb h); small = omega arith }

-- element K * c + j of a register, for product j of row or column c
pub record Numbered (E K vb c j : ℕ) : Type 0 where
  pub inside : (K * c + j) * (E / K) + E / K ≤ vb
  pub number : K * c + j < vb
  pub small : vb ≤ 256
  pub column : c < 64
  pub product : j < 4
  pub some : 0 < K
  pub wide : 0 < E / K

-- the last byte of element K * i + k, of B bytes, lies in its register
last_byte : (vb K B i k : ℕ) → 0 < B → i < vb / (K * B) → k < K → (K * i + k) * B + (B - 1) < vb
last_byte vb K B i k s h l =
    let w : 1 * B ≤ K * B = mul-le-mul_right B (omega arith) in
    let r : suc i * (K * B) ≤ vb = (le-div_iff_mul-le {k = K * B} {x = suc i} {y = vb} (omega arith)).0 h in
    let m : (K * i + k + 1) * B ≤ (K * i + K) * B = mul-le-mul_right B (omega arith) in
    omega arith

few_columns : {E : ℕ} → FourOrEight E → (vb : ℕ) → Length vb → vb / E ≤ 64
few_columns four vb n = omega arith
few_columns eight vb n = omega arith

pub numbered : {E K : ℕ} → Shaped E K → {vb c j : ℕ} → legal vb ≡ true → c < vb / E → j < K → Numbered E K vb c j
numbered {E} {K} sh {vb} {c} {j} l h k =
    let s = shape sh in
    let n = legal-length vb l in
    let b : 0 < E / K = half_some s.source in
    let i = last_byte vb K (E / K) c j b (rw s.whole h) k in
    let m : (K * c + j) * 1 ≤ (K * c + j) * (E / K) = mul-le-mul_left (K * c + j) b in
    record {
      inside = omega arith;
      number = omega arith;
      small = n.most;
      column = omega (arith, few_columns s.element vb n);
      product = omega (arith, s.few);
      some = s.some;
      wide = b;
    }

-- of a task
pub few_products : (t : Task) → t.o.products ≤ 4
few_products t = (shape t.shaped).few

pub few_columns_of : (t : Task) → t.vb / t.o.element ≤ 64
few_columns_of t = few_columns (shape t.shaped).element t.vb (legal-length t.vb t.ready.length_legal)

pub element_inside : (t : Task) (c j : ℕ) → c < t.vb / t.o.element → j < t.o.products
    → (t.o.products * c + j) * (t.o.element / t.o.products) + t.o.element / t.o.products ≤ t.vb
element_inside t c j h k = (numbered t.shaped t.ready.length_legal h k).inside

pub number_lt : (t : Task) (c j : ℕ) → c < t.vb / t.o.element → j < t.o.products → t.o.products * c + j < 256
number_lt t c j h k =
    let n = numbered t.shaped t.ready.length_legal h k in
    omega arith

-- whose source elements have B bytes
module _ (t : Task) {B : ℕ} (e : B ≡ t.o.element / t.o.products) where
  pub element_in : {c j : ℕ} → c < t.vb / t.o.element → j < t.o.products
      → ((t.o.products * c + j) * B + B ≤ t.vb) × (t.o.products * c + j < t.vb) × (t.vb ≤ 256) × (0 < B)
  element_in h k = let n = numbered t.shaped t.ready.length_legal h k in rw e (n.inside, n.number, n.small, n.wide)

  pub spot_in : {register i : ℕ} → register < 32 → i * B + B ≤ t.vb → Spot t.vb register i B
  spot_in h i = spot t.ready.length_legal h (rw e (shape t.shaped).source) i

-- ---- runs of columns for which a source is one register
pub one_run : (o : Operand) (n : ℕ) → 0 < n → o.low.0 ≡ o.high.0 → (run : ℕ) → run < 1 → SameUntil o n (run * n) ((run + 1) * n)
one_run o n h e run l =
    let q : run ≡ 0 = omega arith in
    rw q (record { more = omega arith; inside = omega arith; same = λ i a b. alike (ltb i (n / 2)) (ltb (0 * n) (n / 2)) })
  where
    alike : (s t : Bool) → cond s o.low.0 o.high.0 ≡ cond t o.low.0 o.high.0
    alike true true = refl
    alike true false = e
    alike false true = sym e
    alike false false = refl

pub two_runs : (o : Operand) (n : ℕ) → 0 < n → n % 2 ≡ 0 → (run : ℕ) → run < 2 → SameUntil o n (run * (n / 2)) ((run + 1) * (n / 2))
two_runs o n h e zero l = record { more = omega arith; inside = omega arith; same = λ i a b. rw (lt-ltb i (n / 2) (omega arith), lt-ltb (0 * (n / 2)) (n / 2) (omega arith)) }
two_runs o n h e (suc zero) l = record { more = omega arith; inside = omega arith; same = λ i a b. rw (le-ltb i (n / 2) (omega arith), le-ltb (1 * (n / 2)) (n / 2) (omega arith)) }
two_runs o n h e (suc (suc run)) l = absurd (omega arith)

-- a tile has an even number of columns
pub even_columns : (t : Task) → (0 < t.vb / t.o.element) × ((t.vb / t.o.element) % 2 ≡ 0)
even_columns t = go (shape t.shaped).element (legal-length t.vb t.ready.length_legal)
  where
    go : {E : ℕ} → FourOrEight E → Length t.vb → (0 < t.vb / E) × ((t.vb / E) % 2 ≡ 0)
    go four n = omega (arith, n.sixteens, n.least)
    go eight n = omega (arith, n.sixteens, n.least)
