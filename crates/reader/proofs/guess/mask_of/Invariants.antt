-- `reader::guess::mask_of` meets its contract: what is left of the line, from the mask after its first bytes, leads to the whole line's. Assumes nothing.
use Rattle.reader.specs.Guess.{tiles_from}
use lib.ListN.{drop}
use mathlib.Core.Path.{◌≡◌}
use Rattle.reader.proofs.guess.mask_of.Given as goal

abbrev pub invariant-loop-b : goal.invariant-loop-b
invariant-loop-b l = tiles_from l.mask l.number (drop l.b-index l.line) ≡ tiles_from 0 0 l.line
