-- The words of the walks' own contracts: sizes, what the fast walk's two arrays hold, and elements of a tile counted row by
-- row. Over the size E of a tile element in bytes and the number K of products, or over an outer product, which has both.
use Rattle.std.specs.Prelude.{◌≡◌, refl, ℕ, ◌+◌, ◌*◌, ◌/◌, ◌^◌, ◌<◌, ◌≤◌, cond, ◌&&◌, List, length, ℤ, pos, nat_le, nat_lt, slice_index_or}
use Rattle.std.specs.Int.Signed.{mag}
use Rattle.storage.specs.Tile.{add_to}
use Rattle.outer.specs.declared.Operand.{Operand}
use Rattle.outer.specs.declared.OuterProduct.{OuterProduct}
use Rattle.std.specs.Coded.{Unit-prop, le_prop}
use Rattle.outer.specs.declared.Predication.{Predication}
use Rattle.outer.specs.declared.Predication.TheVariants.{Unpredicated, By}
use Rattle.outer.specs.Products.{Shaped, bytes32, halves64, halves32, interpret, register_at, source_element, active, directed, sums, GoodPredication}

-- the bytes of a tile element, and of a source element
pub data FourOrEight : ℕ → Type 0 where
  four : FourOrEight 4
  eight : FourOrEight 8

pub data ByteOrHalf : ℕ → Type 0 where
  byte : ByteOrHalf 1
  half : ByteOrHalf 2

-- ---- source elements

-- element e, of B bytes, of an operand's register; 0 where it is not active
unfoldable pub value_of : ℕ → ℕ → List ℕ → List ℕ → Operand → ℕ → ℕ → ℤ
value_of B vb z p o register e = cond (active B vb p o.predication e) (interpret B o.unsigned (source_element B vb z register e)) (pos 0)

-- x is that number
pub record Valued (B vb : ℕ) (z p : List ℕ) (o : Operand) (register e : ℕ) (x : ℤ) : Type 0 where
  pub value : x ≡ value_of B vb z p o register e
  pub small : mag x < 256 ^ B

-- element e of an operand of o, of o's source elements
abbrev pub ValuedIn : ℕ → OuterProduct → List ℕ → List ℕ → Operand → ℕ → ℕ → ℤ → Type 0
ValuedIn vb o z p s register e x = Valued (o.element / o.products) vb z p s register e x

abbrev pub signed_at : List ℤ → ℕ → ℤ
signed_at xs i = slice_index_or xs i (pos 0)

-- the first source's elements for a row, two places apart
pub record Fetched (vb : ℕ) (o : OuterProduct) (z p : List ℕ) (register row : ℕ) (xs : List ℤ) : Type 0 where
  pub long : length xs ≡ 8
  pub each : (j : ℕ) → j < o.products → ValuedIn vb o z p o.first register (o.products * row + j) (signed_at xs (2 * j))

-- y is element e of the second source, negated where o subtracts
pub record Turned (vb : ℕ) (o : OuterProduct) (z p : List ℕ) (register e : ℕ) (y : ℤ) : Type 0 where
  pub value : y ≡ directed o.subtract (value_of (o.element / o.products) vb z p o.second register e)
  pub small : mag y ≤ 256 ^ (o.element / o.products)

-- the second source in planes: its element for product j of column c at 64 * j + c
pub record Planes (vb : ℕ) (o : OuterProduct) (z p : List ℕ) (register : ℕ) (ys : List ℤ) : Type 0 where
  pub long : length ys ≡ 256
  pub each : (c j : ℕ) → c < vb / o.element → j < o.products → Turned vb o z p register (o.products * c + j) (signed_at ys (64 * j + c))

-- ---- elements of a tile, counted row by row

-- f at elements a, a + 1, .. b - 1; 0 at all others
unfoldable pub between : ℕ → ℕ → ℕ → (ℕ → ℕ → ℤ) → ℕ → ℕ → ℤ
between cols a b f r c = cond (nat_le a (r * cols + c) && nat_lt (r * cols + c) b) (f r c) (pos 0)

-- f is added to them
abbrev pub AddedTo : ℕ → ℕ → ℕ → (ℕ → ℕ → ℤ) → ℕ → ℕ → List ℕ → List ℕ → Type 0
AddedTo E vb tile f a b before after = after ≡ add_to E vb tile (between (vb / E) a b f) before

-- what an outer product brings is added to columns `from` to `to` of a row
abbrev pub Added : ℕ → OuterProduct → List ℕ → List ℕ → ℕ → ℕ → ℕ → List ℕ → List ℕ → Type 0
Added vb o z p row from to before after =
    let cols = vb / o.element in AddedTo o.element vb o.tile.0 (sums vb o z p) (row * cols + from) (row * cols + to) before after

-- rows or columns `from` to `to`, of n, for which an operand is one register
pub record SameUntil (o : Operand) (n from to : ℕ) : Type 0 where
  pub more : from < to
  pub inside : to ≤ n
  pub same : (i : ℕ) → from ≤ i → i < to → register_at o n i ≡ register_at o n from

-- ---- of each, at most one proof

pub Shaped-prop : {E K : ℕ} → IsProp (Shaped E K)
Shaped-prop bytes32 bytes32 = refl
Shaped-prop halves64 halves64 = refl
Shaped-prop halves32 halves32 = refl

pub GoodPredication-prop : (p : Predication) → IsProp (GoodPredication p)
GoodPredication-prop Unpredicated = Unit-prop
GoodPredication-prop (By q) = le_prop
