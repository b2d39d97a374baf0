-- `order::name_pairs` meets its contract: after i turns, i words were held against those before them. Assumes nothing.
use Rattle.std.proofs.Common.{◌≡◌}
use Rattle.order.specs.Pairs.{any_pair}
use Rattle.order.proofs.name_pairs.Given as goal

abbrev pub invariant-loop-i : goal.invariant-loop-i
invariant-loop-i l = l.found ≡ any_pair l.bytes l.i
