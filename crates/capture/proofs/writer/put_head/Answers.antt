-- `capture::writer::put_head` meets its contract. Assumes nothing.
use mathlib.Core.Path.{◌∙◌}
use Rattle.capture.proofs.Writing.{head_put}
use Rattle.capture.proofs.writer.put_head.Goals as goal

pub returns : goal.returns
returns c =
    let a = c.args in
    c.put_bytes.ensures ∙ rw c.to_be_bytes-vb.ensures (head_put a.room.now a.bench _ c.modes_of-modes.ensures)
