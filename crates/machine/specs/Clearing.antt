-- What a list has cleared so far, and the test that asks for it (document 02, C-17).
use Rattle.std.specs.Prelude.{◌≡◌, Bool, true, false, not, ◌||◌, List, [], ◌∷◌, ℕ}
use Rattle.std.proofs.Math.Option.{Option, none, some}
use Rattle.isa.specs.Row.{every_below}
use Rattle.isa.specs.Refusals.{Test}
use Rattle.isa.specs.Answers.{describe}
use Rattle.isa.specs.declared.Refusal.TheVariants.{NotCleared}
use Rattle.isa.specs.declared.Instruction.{Instruction}
use Rattle.storage.specs.Sizes.{legal}
use Rattle.storage.specs.Tile.{in_tile, masked}
use Rattle.machine.specs.Instructions.{mask_of, TileName, tile_named}

-- row r of ZA is one of a mask's
abbrev pub in_mask : Option ℕ → ℕ → Bool
in_mask none r = false
in_mask (some mask) r = masked mask r

-- the rows that a word clears once it is executed: ZERO those of its mask, any other word none
abbrev pub clears_row : ℕ → ℕ → Bool
clears_row w r = in_mask (mask_of (describe w)) r

-- the rows that executed words have cleared
unfoldable pub cleared_by : List ℕ → ℕ → Bool
cleared_by [] r = false
cleared_by (w ∷ ws) r = clears_row w r || cleared_by ws r

-- every row of the named tile is among these, of ZA's vb rows
abbrev pub tile_cleared : ℕ → (ℕ → Bool) → Option TileName → Bool
tile_cleared vb cleared none = true
tile_cleared vb cleared (some n) = every_below (λ r. not (in_tile n.E n.tile r) || cleared r) vb

-- test 14: the instruction names a tile with a row that is not cleared
abbrev pub cleared_test : ℕ → (ℕ → Bool) → Option Instruction → Test
cleared_test vb cleared d = record { fails = not (tile_cleared vb cleared (tile_named d)); gives = NotCleared }

-- ---- as a byte: bit i of a mask stands for the rows of 64-bit tile i
abbrev pub StandsFor : ℕ → (ℕ → Bool) → Type 0
StandsFor mask rows = (r : ℕ) → masked mask r ≡ rows r

-- an answer about the rows of a mask, right at every legal vector length
abbrev pub TellsCleared : Bool → ℕ → Option TileName → Type 0
TellsCleared answer mask n = (vb : ℕ) → legal vb ≡ true → answer ≡ tile_cleared vb (masked mask) n
