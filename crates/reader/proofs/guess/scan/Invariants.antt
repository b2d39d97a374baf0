-- `reader::guess::scan` meets its contract: what is left of the line, from the state after its first bytes, leads to the whole line's state. Assumes nothing.
use Rattle.reader.specs.Guess.{fresh, scanned}
use lib.ListN.{drop}
use mathlib.Core.Path.{◌≡◌}
use Rattle.reader.proofs.guess.scan.Given as goal

abbrev pub invariant-loop-b : goal.invariant-loop-b
invariant-loop-b l = scanned l.s (drop l.b-index l.line) ≡ scanned fresh l.line
