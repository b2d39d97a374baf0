-- `walks::cases::outer_product` meets its contract: the tile is a remainder. Assumes nothing.
use Rattle.std.proofs.Common.{ℕ, ◌<◌, ◌≤◌, refl, mod-lt, arith}
use Rattle.outer.specs.Products.{Shaped}
use Rattle.outer.specs.Walks.{FourOrEight, four, eight}
use Rattle.outer.proofs.Shapes.{shape}
use Rattle.walks.proofs.cases.outer_product.Goals as goal

sizes : {E K : ℕ} → Shaped E K → (0 < E) × (E ≤ 8)
sizes sh = go (shape sh).element
  where
    go : {E : ℕ} → FourOrEight E → (0 < E) × (E ≤ 8)
    go four = omega arith
    go eight = omega arith

pub nonzero_rem-tile : goal.nonzero_rem-tile
nonzero_rem-tile c = omega (arith, sizes c.requires)

pub overflow_cast-result : goal.overflow_cast-result
overflow_cast-result c = let s = sizes c.requires in omega (arith, mod-lt c.high_bits.result s.0)

pub returns : goal.returns
returns c =
    record {
      element = refl;
      products = refl;
      tile = mod-lt _ (sizes c.requires).0;
      first = c.source.ensures;
      second = c.source-2.ensures;
    }
