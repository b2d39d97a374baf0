-- `walks::tally_cases` is safe and ends: the buffers keep their lengths. Assumes nothing.
use Rattle.std.proofs.Common.{◌-◌, ◌≤◌}
use Rattle.walks.specs.Room.{Room}
use Rattle.walks.proofs.tally_cases.Given as goal

abbrev pub invariant-loop-n : goal.invariant-loop-n
invariant-loop-n l = (l.n ≤ 96) × Room l.kind l.z l.p l.za l.plain l.start

abbrev pub decreases-loop-n : goal.decreases-loop-n
decreases-loop-n l = 96 - l.n
