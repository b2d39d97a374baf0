-- `capture::writer::put_part` meets its contract. Assumes nothing.
use mathlib.Core.Path.{refl}
use Rattle.capture.proofs.Writing.{part_put}
use Rattle.capture.proofs.writer.put_part.Goals as goal

pub returns : goal.returns
returns c = part_put _ _ _ _ _ _ refl c.store_u32.ensures c.put_bytes.ensures
