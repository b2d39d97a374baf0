-- `order::name_fixed_words` meets its contract: after i turns, i words were looked at. Assumes nothing.
use Rattle.std.proofs.Common.{◌≡◌}
use Rattle.order.specs.Pairs.{any_fixed}
use Rattle.order.proofs.name_fixed_words.Given as goal

abbrev pub invariant-loop-i : goal.invariant-loop-i
invariant-loop-i l = l.found ≡ any_fixed l.bytes l.i
