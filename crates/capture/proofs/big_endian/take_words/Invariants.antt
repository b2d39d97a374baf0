-- `capture::big_endian::take_words` meets its contract. Assumes nothing.
use mathlib.Core.Path.{◌≡◌}
use lib.ListN.{take}
use Rattle.capture.specs.Steps.{words_at}
use Rattle.capture.proofs.big_endian.take_words.Given as goal

abbrev pub invariant-loop-k : goal.invariant-loop-k
invariant-loop-k l = take l.k l.word-items ≡ words_at l.s l.i l.k
