-- `executed::checksum_of` is safe: h stays below the modulus. Assumes nothing.
use Rattle.std.proofs.Common.{◌<◌}
use Rattle.executed.proofs.checksum_of.Given as goal

abbrev pub invariant-loop-byte : goal.invariant-loop-byte
invariant-loop-byte l = l.h < 4294967291
