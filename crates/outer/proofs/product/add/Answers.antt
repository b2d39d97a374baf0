-- `outer::product::add` meets its contract. Assumes nothing.
use Rattle.std.proofs.Common.{refl}
use Rattle.outer.proofs.Shapes.{is_four, plus_as}
use Rattle.outer.proofs.Signed.{added, reduced}
use Rattle.outer.proofs.product.add.Goals as goal

pub returns-then-e-eq8 : goal.returns-then-e-eq8
returns-then-e-eq8 c = plus_as _ _ c.if-e-eq8.true (added 8 _ _ _ refl)

pub returns : goal.returns
returns c = plus_as _ _ (is_four c.requires.four_or_eight c.if-e-eq8.false) (added 4 _ _ _ (reduced 4 _ _))
