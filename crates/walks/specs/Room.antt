-- Words of the program's private contracts: kinds of updates, room for them, and what may be updated there.
use Rattle.std.specs.Prelude.{◌≡◌, ℕ, ◌<◌, true, List, length}
use Rattle.storage.specs.Sizes.{legal, z_size, p_size, za_size}
use Rattle.outer.specs.declared.OuterProduct.{OuterProduct}
use Rattle.outer.specs.Products.{Shaped, GoodOperand, Ready}
use Rattle.walks.specs.declared.cases.Kind.{Kind}

-- a kind of updates that there is
pub record GoodKind (kind : Kind) : Type 0 where
  pub length_legal : legal kind.vb ≡ true
  pub shape : Shaped kind.element kind.products

-- Z, P, and ZA three times: for either walk, and as it begins
pub record Room (kind : Kind) (z p za plain start : List ℕ) : Type 0 where
  pub good : GoodKind kind
  pub z_sized : length z ≡ z_size kind.vb
  pub p_sized : length p ≡ p_size kind.vb
  pub za_sized : length za ≡ za_size kind.vb
  pub plain_size : length plain ≡ za_size kind.vb
  pub start_size : length start ≡ za_size kind.vb

-- all that either walk requires
pub record Updatable (vb : ℕ) (o : OuterProduct) (z p za : List ℕ) : Type 0 where
  pub shaped : Shaped o.element o.products
  pub ready : Ready o.element vb o z p
  pub za_sized : length za ≡ za_size vb

-- an outer product of the kind, on a tile and registers that there are
pub record Drawn (kind : Kind) (o : OuterProduct) : Type 0 where
  pub element : o.element ≡ kind.element
  pub products : o.products ≡ kind.products
  pub tile : o.tile.0 < kind.element
  pub first : GoodOperand o.first
  pub second : GoodOperand o.second
