-- `outer::product::take` meets its contract. Assumes nothing.
use Rattle.std.proofs.Common.{arith}
use Rattle.outer.proofs.Shapes.{is_four, below_as, plus_as}
use Rattle.outer.proofs.Signed.{taken}
use Rattle.outer.proofs.product.take.Goals as goal

pub returns-then-e-eq8 : goal.returns-then-e-eq8
returns-then-e-eq8 c = plus_as _ _ c.if-e-eq8.true (taken 8 _ _ _ (omega arith) (omega arith))

pub returns : goal.returns
returns c =
    let e = is_four c.requires.four_or_eight c.if-e-eq8.false in
    plus_as _ _ e (taken 4 _ _ _ (omega arith) (omega (arith, below_as e c.requires.sum_bound)))
