-- `capture::big_endian::take_bytes` meets its contract. Assumes nothing.
use mathlib.Core.Path.{◌≡◌}
use lib.ListN.{take}
use Rattle.capture.specs.Steps.{bytes_at}
use Rattle.capture.proofs.big_endian.take_bytes.Given as goal

abbrev pub invariant-loop-k : goal.invariant-loop-k
invariant-loop-k l = take l.k l.byte-items ≡ bytes_at l.s l.i l.k
