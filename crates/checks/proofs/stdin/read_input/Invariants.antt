-- `checks::stdin::read_input` meets its contract: what was read fits the room. Assumes nothing.
use Rattle.std.proofs.Common.{◌+◌, ◌-◌, ◌≤◌, length}
use Rattle.checks.proofs.stdin.read_input.Given as goal

abbrev pub invariant-loop-more : goal.invariant-loop-more
invariant-loop-more l = l.n ≤ length l.room

abbrev pub decreases-loop-more : goal.decreases-loop-more
decreases-loop-more l = length l.room + 1 - l.n
