-- `capture::writer::fill` meets its contract. Assumes nothing.
use Rattle.capture.specs.Format.{capture_of}
use Rattle.capture.proofs.Writing.{all_put}
use Rattle.capture.proofs.writer.fill.Goals as goal

pub returns : goal.returns
returns c =
    let a = c.args in
    all_put (capture_of a.bench a.words.now a.z.now a.p.now a.za.now) a.room.now _ _ _ _ _
    c.put_head.ensures
    c.put_word_part.ensures
    c.put_part.ensures
    c.put_part-2.ensures
    c.put_part-3.ensures
