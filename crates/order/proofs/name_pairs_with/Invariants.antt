-- `order::name_pairs_with` meets its contract: after j turns, j words were held against word i. Assumes nothing.
use Rattle.std.proofs.Common.{◌≡◌}
use Rattle.pairs.specs.Order.{some_below}
use Rattle.order.specs.Pairs.{paired_with}
use Rattle.order.proofs.name_pairs_with.Given as goal

abbrev pub invariant-loop-j : goal.invariant-loop-j
invariant-loop-j l = l.found ≡ some_below (paired_with l.bytes l.i) l.j
