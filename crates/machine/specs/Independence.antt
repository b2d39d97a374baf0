-- Two runs of a list, alike in all but the bytes that ZA holds at the start (document 02, C-17).
use Rattle.std.specs.Prelude.{◌≡◌, true, false, List, ℕ, ◌/◌, ◌<◌, length, get_or}
use Rattle.isa.specs.Answers.{describe}
use Rattle.storage.specs.Bytes.{at}
use Rattle.storage.specs.Tile.{in_tile}
use Rattle.machine.specs.Machine.{Machine, with_za}
use Rattle.machine.specs.Instructions.{names_tile}
use Rattle.machine.specs.Clearing.{cleared_by}
use Rattle.machine.specs.Lists.{ran, run_of, run_left}
use Rattle.machine.specs.Claims.{run_count, run_number}

-- another ZA of the same length: with it, a start differs in ZA's bytes alone
abbrev pub OtherZa : Machine → List ℕ → Type 0
OtherZa m zb = length zb ≡ length m.za

-- ---- the claim, where OtherZa m zb
module _ (m : Machine) (zb : List ℕ) (ws : List ℕ) where
  -- byte q of ZA ends the same in both runs
  abbrev pub EndsSame : ℕ → Type 0
  EndsSame q = at (run_left (with_za m zb) ws).za q ≡ at (run_left m ws).za q

  -- and so does every byte of a tile
  abbrev pub TileEndsSame : ℕ → ℕ → Type 0
  TileEndsSame E t = (q : ℕ) → q < length m.za → in_tile E t (q / m.bench.vb) ≡ true → EndsSame q

  pub record Independent : Type 0 where
    -- the same count and the same refusal, after the same words
    pub answer : run_of (with_za m zb) ws ≡ run_of m ws
    pub words : ran (with_za m zb) ws ≡ ran m ws
    -- every row that an executed ZERO cleared ends the same; every other row stays as it was
    pub cleared_rows : (q : ℕ) → q < length m.za → cleared_by (ran m ws) (q / m.bench.vb) ≡ true → EndsSame q
    pub other_rows : (q : ℕ) → q < length m.za → cleared_by (ran m ws) (q / m.bench.vb) ≡ false → at (run_left m ws).za q ≡ at m.za q
    -- so every tile that an executed word names ends the same
    pub executed_tiles : (i E t : ℕ) → i < run_count m ws → names_tile E t (describe (get_or ws i 0)) ≡ true → TileEndsSame E t
    -- and, of a run that ends without refusal, every tile that the list names
    pub named_tiles : run_number m ws ≡ 0 → (i E t : ℕ) → i < length ws → names_tile E t (describe (get_or ws i 0)) ≡ true → TileEndsSame E t
