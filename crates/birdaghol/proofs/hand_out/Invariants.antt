-- `birdaghol::hand_out` meets its contract: the numbers are copied where there is place for them. Assumes nothing.
use mathlib.Core.Path.{◌≡◌}
use lib.ListN.{take}
use Rattle.birdaghol.proofs.hand_out.Given as goal

abbrev pub invariant-loop-k : goal.invariant-loop-k
invariant-loop-k l = take l.k l.field-items ≡ take l.k l.numbers
