-- `capture::big_endian::put_words` meets its contract. Assumes nothing.
use mathlib.Core.Path.{◌≡◌}
use lib.ListN.{take}
use lib.Seq.{sets}
use Rattle.capture.specs.Format.{word_bytes}
use Rattle.capture.proofs.big_endian.put_words.Given as goal

abbrev pub invariant-loop-k : goal.invariant-loop-k
invariant-loop-k l = l.room ≡ sets l.initial.room l.i (word_bytes (take l.k l.words))
