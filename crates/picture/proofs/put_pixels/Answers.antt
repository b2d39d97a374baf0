-- `picture::put_pixels` meets its contract: after i turns, i pixels stand in the room. Assumes nothing.
use Rattle.std.proofs.Common.{◌∙◌, refl, ap, add-one, arith, length}
use lib.Seq.{length-sets}
use Rattle.picture.specs.Images.{pixels}
use Rattle.picture.proofs.Drawing.{stored_pixel}
use Rattle.picture.proofs.put_pixels.Goals as goal

pub loop-i-init : goal.loop-i-init
unfolding pixels
loop-i-init c = (refl, refl)

pub loop-i-preserved : goal.loop-i-preserved
loop-i-preserved c =
    let l = c.loop-i in
    let a = c.args in
    let put = c.put_pixel.ensures in
    (ap length put ∙ simp length-sets l.invariant.0, put ∙ rw (l.invariant.1, add-one l.i) (stored_pixel a.room.now a.za.now l.i (omega arith)))
