-- `picture::put_pixel` meets its contract: the copy to a part of the room, said of the whole. Assumes nothing.
use Rattle.std.proofs.Common.{◌+◌, ◌*◌, arith}
use Rattle.storage.proofs.Bytes.{part_put}
use Rattle.picture.specs.Images.{pixel}
use Rattle.picture.proofs.put_pixel.Goals as goal

pub returns : goal.returns
returns c =
    let a = c.args in
    let e = rw (c.digit_from-hundreds.ensures, c.digit_from-tens.ensures, c.behind.ensures) at c.copy_from_slice.ensures.after in
    rw e (part_put (15 + 4 * a.place) _ a.room.now (pixel a.place a.v) (omega arith) (omega (arith, c.requires.0)))
