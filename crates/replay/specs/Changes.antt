-- How many bytes of ZA differ in the rows of a 64-bit tile.
use Rattle.std.specs.Prelude.{cond, not, ◌&&◌, List, ℕ, zero, suc, ◌/◌, get_or}
use Rattle.storage.specs.Tile.{in_tile}
use Rattle.checks.specs.Tally.{sum, has_at}

-- of the first n bytes
abbrev pub changed_in : ℕ → ℕ → ℕ → List ℕ → List ℕ → ℕ
changed_in tile vb zero old new = 0
changed_in tile vb (suc n) old new = sum (changed_in tile vb n old new) (cond (in_tile 8 tile (n / vb) && not (has_at new n (get_or old n 0))) 1 0)
