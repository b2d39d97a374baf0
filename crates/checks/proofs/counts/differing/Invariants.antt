-- `checks::counts::differing` meets its contract: after i turns, i places were compared. Assumes nothing.
use Rattle.std.proofs.Common.{◌≡◌}
use Rattle.checks.specs.Tally.{differences}
use Rattle.checks.proofs.counts.differing.Given as goal

abbrev pub invariant-loop-i : goal.invariant-loop-i
invariant-loop-i l = l.n ≡ differences l.i l.a l.b
