-- What document 02 asks of the lists; proofs/Theorems.antt proves it for every mask.
use Rattle.std.specs.Prelude.{◌≡◌, List, ℕ}
use Rattle.names.specs.declared.TileName.{TileName}
use Rattle.names.specs.Names.{names_of, Shortest}

-- the rule gives the shortest list in order, and there is only one
pub record OneList (mask : ℕ) : Type 0 where
  pub shortest : Shortest mask (names_of mask)
  pub only : (ks : List TileName) → Shortest mask ks → ks ≡ names_of mask
