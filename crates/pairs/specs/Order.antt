-- Two outer products, in this order and in the other (document 02, C-23): whether the order matters to any contents of Z, P and
-- ZA, and contents that it matters to.
use Rattle.std.specs.Prelude.{Bool, true, false, not, cond, ◌&&◌, ◌||◌, [], ◌∷◌, ℕ, zero, suc, eqb, replicate, Err, Ok, Result}
use Rattle.std.proofs.Math.Option.{Option, none, some}
use Rattle.isa.specs.Answers.{describe, decode_of}
use Rattle.isa.specs.declared.Instruction.{Instruction}
use Rattle.isa.specs.declared.Refusal.{Refusal}
use Rattle.storage.specs.Sizes.{z_size, p_size, za_size}
use Rattle.storage.specs.Tile.{in_tile}
use Rattle.outer.specs.declared.OuterProduct.{OuterProduct}
use Rattle.machine.specs.declared.Bench.{Bench}
use Rattle.machine.specs.Machine.{Machine, on}
use Rattle.machine.specs.Instructions.{outer_of, TileName, tile_named}
use Rattle.machine.specs.Lists.{played}

-- a word, then another
abbrev pub in_turn : Machine → ℕ → ℕ → Machine
in_turn m a b = played m (a ∷ b ∷ [])

-- ---- whether their order matters

-- row r of ZA is one of the tile's
abbrev pub has_row : TileName → ℕ → Bool
has_row n r = in_tile n.E n.tile r

-- a test holds of some number below n
abbrev pub some_below : (ℕ → Bool) → ℕ → Bool
some_below f zero = false
some_below f (suc n) = f n || some_below f n

-- two tiles share rows: the rows of each come again every eight, so the first eight tell
abbrev pub share_rows : TileName → TileName → Bool
share_rows n k = some_below (λ r. has_row n r && has_row k r) 8

-- and their elements have not the same width
abbrev pub clash : Option TileName → Option TileName → Bool
clash none k = false
clash (some n) none = false
clash (some n) (some k) = not (eqb n.E k.E) && share_rows n k

-- the tile that a decoded word names; a refused one names none
abbrev pub tile_decoded : Result Instruction Refusal → Option TileName
tile_decoded (Ok i) = tile_named (some i)
tile_decoded (Err r) = none

unfoldable pub order_matters : ℕ → ℕ → ℕ → Bool
order_matters flags a b = clash (tile_decoded (decode_of flags a)) (tile_decoded (decode_of flags b))

-- ---- contents that tell the two orders apart: each source element is 1 or 257, and all count, so that a word adds one number
-- to every element of its tile

-- a 32-bit outer product that subtracts
abbrev pub takes_away : Option OuterProduct → Bool
takes_away none = false
takes_away (some o) = eqb o.element 4 && o.subtract

-- every 32-bit element starts just short of the carry, or of the borrow where the 32-bit word subtracts
abbrev pub start_byte : ℕ → ℕ → ℕ
start_byte a b = cond (takes_away (outer_of (describe a)) || takes_away (outer_of (describe b))) 0 255

-- of the sizes that the bench asks for
abbrev pub telling : Bench → ℕ → ℕ → Machine
telling bench a b =
    on bench (replicate (z_size bench.vb) 1) (replicate (p_size bench.vb) 255) (replicate (za_size bench.vb) (start_byte a b))

-- a bench with both modes on
abbrev pub modes_on : ℕ → ℕ → Bench
modes_on flags vb = record { flags = flags; sm = true; za = true; vb = vb }
