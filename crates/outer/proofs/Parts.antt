-- The products of the two arrays are the outer product's. Assumes nothing.
use Rattle.std.proofs.Common.{◌≡◌, ℕ, ◌+◌, ◌*◌, ◌/◌, ◌^◌, ◌<◌, ◌≤◌, List, ℤ, ◌*ℤ◌, sym, arith}
use lib.Signed.{mag}
use Rattle.storage.proofs.Sizes.{ElementPlace}
use Rattle.outer.specs.declared.task.Task.{Task}
use Rattle.outer.specs.Products.{register_at, directed_product, Shaped}
use Rattle.outer.specs.Walks.{signed_at, Fetched, Planes, SameUntil, FourOrEight}
use Rattle.outer.proofs.Progress.{Tiled, placed}
use Rattle.outer.proofs.Shapes.{shape, tiled, few_products, few_columns_of}
use Rattle.outer.proofs.Signed.{half_small, read_back, x32}
use Rattle.outer.proofs.Elements.{valued_at, product_turned}

-- a task's tile, of elements whose size is a constant of the walk over columns
module _ (t : Task) {E : ℕ} (e : t.o.element ≡ E) where
  pub of_size : FourOrEight E
  of_size = rw (← e) (shape t.shaped).element

  pub tile_of : Tiled E t.vb t.o.tile.0
  tile_of = rw (← e) (tiled t.shaped t.ready.length_legal t.ready.tile)

  pub place_of : {row from to : ℕ} (col : ℕ) → row < t.vb / t.o.element → SameUntil t.o.first (t.vb / t.o.element) from to → col < to
      → ElementPlace E t.vb t.o.tile.0 row col
  place_of col h u l = placed tile_of (rw e at h) (rw (← e) (omega (arith, l, u.inside)))

  pub shape_of : {K : ℕ} → t.o.products ≡ K → Shaped E K
  shape_of k = rw (← e, ← k) t.shaped

-- products of a column lie in the arrays
pub product_in : (t : Task) {K from to c j : ℕ} → t.o.products ≡ K → SameUntil t.o.first (t.vb / t.o.element) from to → c < to → j < K
    → (j < 4) × (c < 64)
product_in t e u a b = (omega (arith, few_products t), omega (arith, few_columns_of t, u.inside))

-- a number of a source element, as an i32, by the constants
pub small_as : (t : Task) {E K : ℕ} → (t.o.element ≡ E) × (t.o.products ≡ K) → (x : ℤ) → mag x ≤ 256 ^ (t.o.element / t.o.products)
    → mag (x32 x) ≤ 256 ^ (E / K)
small_as t e x h = rw (← e.0, ← e.1, read_back x (omega (arith, h, half_small (shape t.shaped).source))) h

-- columns `from` to `to` of a row, for which the first source is one register
module _ (t : Task) {row from to : ℕ} {xs ys : List ℤ} (u : SameUntil t.o.first (t.vb / t.o.element) from to)
    (x : Fetched t.vb t.o t.z.now t.p.now (register_at t.o.first (t.vb / t.o.element) from) row xs)
    (y : Planes t.vb t.o t.z.now t.p.now (register_at t.o.second (t.vb / t.o.element) row) ys)
    {c j : ℕ} (a : from ≤ c) (b : c < to) (l : j < t.o.products) where
  pub row_product : signed_at xs (2 * j) *ℤ signed_at ys (64 * j + c) ≡ directed_product t.o.element t.o.products t.vb t.o t.z.now t.p.now row c j
  row_product =
      product_turned t.o.element t.o.products t.vb t.o t.z.now t.p.now row c j (signed_at xs (2 * j)) (signed_at ys (64 * j + c))
      (valued_at (sym (u.same c a b)) (x.each j l)) (y.each c j (omega (arith, u.inside)) l).value

  pub first_small : mag (signed_at xs (2 * j)) ≤ 256 ^ (t.o.element / t.o.products)
  first_small = omega (arith, (x.each j l).small)

  pub second_small : mag (signed_at ys (64 * j + c)) ≤ 256 ^ (t.o.element / t.o.products)
  second_small = (y.each c j (omega (arith, u.inside)) l).small
