-- The examples of reads come out as they say, by computation. Assumes nothing.
use mathlib.Core.Path.{◌≡◌, ◌∙◌, refl}
use mathlib.Core.List.{List, [], ◌∷◌, map}
use Rattle.isa.specs.Answers.{describe, missing, decode_of, encode_of}
use Rattle.names.specs.Names.{names_of}
use Rattle.text.specs.Spelling.{spelling}
use Rattle.text.specs.Printing.{text_of}
use Rattle.reader.specs.Answers.{read_of}
use Rattle.reader.specs.Examples.{Example, examples, outcome}
use Rattle.reader.specs.Guess.{guess_of, scanned, tiles_from}
use Rattle.reader.proofs.Readings.{computed, read_computed}

-- the search is never run: what is computed is the same
same-outcomes : (es : List Example) → map (outcome read_of) es ≡ map (outcome computed) es
same-outcomes [] = refl
same-outcomes (e ∷ es) = rw (read_computed e.flags e.line, same-outcomes es)

computed_hold : map (outcome computed) examples ≡ examples
unfolding guess_of scanned tiles_from encode_of decode_of describe missing names_of text_of spelling
computed_hold = refl

pub examples_hold : map (outcome read_of) examples ≡ examples
examples_hold = same-outcomes examples ∙ computed_hold
