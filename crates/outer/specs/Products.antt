-- What an outer product adds to each element of its tile (document 01, "Execution"; Arm's pseudocode of SUMOPS and
-- USMOP4S, and of the 2-way forms). Over the size E of a tile element in bytes and the number K of products, as parameters of
-- the definitions and their laws; a source element has E / K bytes. `sums` reads both off an outer product.
use Rattle.std.specs.Prelude.{◌≡◌, ℕ, zero, suc, ◌+◌, ◌-◌, ◌*◌, ◌/◌, ◌^◌, ◌<◌, Bool, true, cond, ◌&&◌, List, length, ℤ, pos, negsuc, ◌+ℤ◌, ◌*ℤ◌, neg_ℤ, ◌≤ℤ◌, nat_lt}
use Rattle.storage.specs.Sizes.{legal, z_size, p_size}
use Rattle.storage.specs.Bytes.{at, word, bit_at}
use Rattle.outer.specs.declared.Predication.{Predication}
use Rattle.outer.specs.declared.Predication.TheVariants.{Unpredicated, By}
use Rattle.outer.specs.declared.Operand.{Operand}
use Rattle.outer.specs.declared.OuterProduct.{OuterProduct}

-- a number of B bytes as a whole number: as it is, or in two's complement
abbrev pub interpret : ℕ → Bool → ℕ → ℤ
interpret B unsigned n = cond unsigned (pos n) (cond (nat_lt n (256 ^ B / 2)) (pos n) (negsuc (256 ^ B - suc n)))

-- the register that an operand has for the i-th of n rows or columns: by the half that i is in
abbrev pub register_at : Operand → ℕ → ℕ → ℕ
register_at o n i = cond (nat_lt i (n / 2)) o.low.0 o.high.0

-- element e of a register, of B bytes
abbrev pub source_element : ℕ → ℕ → List ℕ → ℕ → ℕ → ℕ
source_element B vb z register e = word B (at z) (register * vb + e * B)

-- element e counts where bit e·B of the governing predicate is set; without a predicate every element does
abbrev pub active : ℕ → ℕ → List ℕ → Predication → ℕ → Bool
active B vb p Unpredicated e = true
active B vb p (By q) e = bit_at p (q.0 * vb + e * B)

module _ (E K vb : ℕ) (o : OuterProduct) (z p : List ℕ) (row col k : ℕ) where
  -- the two elements of product k at (row, col): the first source's register by the column's half, the second's by the row's
  abbrev pub first_element : ℤ
  first_element = interpret (E / K) o.first.unsigned (source_element (E / K) vb z (register_at o.first (vb / E) col) (K * row + k))

  abbrev pub second_element : ℤ
  second_element = interpret (E / K) o.second.unsigned (source_element (E / K) vb z (register_at o.second (vb / E) row) (K * col + k))

  abbrev pub counts : Bool
  counts = active (E / K) vb p o.first.predication (K * row + k) && active (E / K) vb p o.second.predication (K * col + k)

  -- product k, 0 where it does not count
  unfoldable pub product : ℤ
  product = cond counts (first_element *ℤ second_element) (pos 0)

-- f 0 + f 1 + .. + f (k - 1)
abbrev pub sum : (ℕ → ℤ) → ℕ → ℤ
sum f zero = pos 0
sum f (suc k) = sum f k +ℤ f k

-- negated where the instruction subtracts
abbrev pub directed : Bool → ℤ → ℤ
directed subtract x = cond subtract (neg_ℤ x) x

abbrev pub directed_product : ℕ → ℕ → ℕ → OuterProduct → List ℕ → List ℕ → ℕ → ℕ → ℕ → ℤ
directed_product E K vb o z p row col k = directed o.subtract (product E K vb o z p row col k)

-- all K products of element (row, col)
unfoldable pub dot : ℕ → ℕ → ℕ → OuterProduct → List ℕ → List ℕ → ℕ → ℕ → ℤ
dot E K vb o z p row col = sum (directed_product E K vb o z p row col) K

-- what an outer product adds to each element (row, col) of its tile: of its own element size and number of products
abbrev pub sums : ℕ → OuterProduct → List ℕ → List ℕ → ℕ → ℕ → ℤ
sums vb o z p = dot o.element o.products vb o z p

-- ---- what the products of an element come to together

-- the shapes that there are: bytes of a tile element, and how many products come to it
pub data Shaped : ℕ → ℕ → Type 0 where
  bytes32 : Shaped 4 4
  halves64 : Shaped 8 4
  halves32 : Shaped 4 2

-- bounds of what they come to, for any signs: document 01's figures for four products, and half of the halfwords' for two
abbrev pub least : {E K : ℕ} → Shaped E K → ℤ
least bytes32 = neg_ℤ (pos 130560)
least halves64 = neg_ℤ (pos 8589803520)
least halves32 = neg_ℤ (pos 4294901760)

abbrev pub most : {E K : ℕ} → Shaped E K → ℤ
most bytes32 = pos 260100
most halves64 = pos 17179344900
most halves32 = pos 8589672450

-- low ≤ z ≤ high
pub record Between (low high z : ℤ) : Type 0 where
  pub above : low ≤ℤ z
  pub below : z ≤ℤ high

-- ---- what a caller has seen to before an update

-- a governing predicate is one of the sixteen
abbrev pub GoodPredication : Predication → Type 0
GoodPredication Unpredicated = Unit {0}
GoodPredication (By q) = q.0 < 16

pub record GoodOperand (o : Operand) : Type 0 where
  pub low : o.low.0 < 32
  pub high : o.high.0 < 32
  pub predication : GoodPredication o.predication

pub record Ready (E vb : ℕ) (o : OuterProduct) (z p : List ℕ) : Type 0 where
  pub length_legal : legal vb ≡ true
  pub z_sized : length z ≡ z_size vb
  pub p_sized : length p ≡ p_size vb
  pub tile : o.tile.0 < E
  pub first : GoodOperand o.first
  pub second : GoodOperand o.second
