-- `replay::changed_in` meets its contract: after i turns, i bytes were compared. Assumes nothing.
use Rattle.std.proofs.Common.{◌≡◌}
use Rattle.replay.specs.Changes.{changed_in}
use Rattle.replay.proofs.changed_in.Given as goal

abbrev pub invariant-loop-i : goal.invariant-loop-i
invariant-loop-i l = l.n ≡ changed_in l.tile l.vb l.i l.old l.new
