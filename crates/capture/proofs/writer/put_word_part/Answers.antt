-- `capture::writer::put_word_part` meets its contract. Assumes nothing.
use mathlib.Core.Path.{sym}
use Rattle.capture.proofs.Numbers.{length_word_bytes}
use Rattle.capture.proofs.Writing.{part_put}
use Rattle.capture.proofs.writer.put_word_part.Goals as goal

pub returns : goal.returns
returns c = part_put _ _ _ _ _ _ (sym (length_word_bytes _)) c.store_u32.ensures c.put_words.ensures
