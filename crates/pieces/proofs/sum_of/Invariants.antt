-- `pieces::sum_of` ends: each turn takes a byte at least, or is the last. Assumes nothing.
use Rattle.std.proofs.Common.{length}
use Rattle.pieces.proofs.sum_of.Given as goal

abbrev pub decreases-loop-rest : goal.decreases-loop-rest
decreases-loop-rest l = length l.rest
