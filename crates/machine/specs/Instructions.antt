-- What is asked of an instruction, each kind with its own answer; none is a word that is not listed.
use Rattle.std.specs.Prelude.{Bool, true, false, ◌&&◌, ℕ, eqb}
use Rattle.std.proofs.Math.Option.{Option, none, some}
use Rattle.isa.specs.Table.{element_bytes}
use Rattle.isa.specs.declared.Instruction.{Instruction}
use Rattle.isa.specs.declared.Instruction.TheVariants.{Predicated, Quarter, Zero}
use Rattle.machine.specs.declared.Modes.{Modes}
use Rattle.outer.specs.declared.OuterProduct.{OuterProduct}
use Rattle.machine.specs.Operands.{predicated_outer, quarter_outer}

-- the outer product that it is, if it is one
abbrev pub outer_of : Option Instruction → Option OuterProduct
outer_of none = none
outer_of (some (Predicated p)) = some (predicated_outer p)
outer_of (some (Quarter q)) = some (quarter_outer q)
outer_of (some (Zero mask)) = none

-- whether it is one
abbrev pub is_outer : Option Instruction → Bool
is_outer none = false
is_outer (some (Predicated p)) = true
is_outer (some (Quarter q)) = true
is_outer (some (Zero mask)) = false

-- the mask of 64-bit tiles whose rows it clears, if it clears any
abbrev pub mask_of : Option Instruction → Option ℕ
mask_of none = none
mask_of (some (Predicated p)) = none
mask_of (some (Quarter q)) = none
mask_of (some (Zero mask)) = some mask

-- the modes that it needs on
abbrev pub both_modes : Modes
both_modes = record { streaming = true; za = true }

abbrev pub za_alone : Modes
za_alone = record { streaming = false; za = true }

abbrev pub modes_of : Option Instruction → Modes
modes_of none = record { streaming = false; za = false }
modes_of (some (Predicated p)) = both_modes
modes_of (some (Quarter q)) = both_modes
modes_of (some (Zero mask)) = za_alone

-- whether add and subtract can be exchanged in it
abbrev pub has_opposite : Option Instruction → Bool
has_opposite d = is_outer d

-- the tile that it names, by the bytes of an element and its number
pub record TileName : Type 0 where
  pub E : ℕ
  pub tile : ℕ

abbrev pub tile_named : Option Instruction → Option TileName
tile_named none = none
tile_named (some (Predicated p)) = some (record { E = element_bytes p.op; tile = p.tile.0 })
tile_named (some (Quarter q)) = some (record { E = element_bytes q.op; tile = q.tile.0 })
tile_named (some (Zero mask)) = none

abbrev pub is_tile : ℕ → ℕ → Option TileName → Bool
is_tile E t none = false
is_tile E t (some n) = eqb n.E E && eqb n.tile t

-- whether it names tile t of elements of E bytes
abbrev pub names_tile : ℕ → ℕ → Option Instruction → Bool
names_tile E t d = is_tile E t (tile_named d)
