-- The examples come out as they say, by computation. Assumes nothing.
use mathlib.Core.Path.{◌≡◌, ◌∙◌, refl}
use mathlib.Core.List.{List, [], ◌∷◌, map}
use Rattle.isa.specs.Answers.{describe, missing, decode_of, encode_of}
use Rattle.names.specs.Names.{names_of}
use Rattle.text.specs.Spelling.{spelling}
use Rattle.text.specs.Printing.{text_of, print_of}
use Rattle.reader.specs.Guess.{guess_of, scanned, tiles_from}
use Rattle.reader.proofs.Readings.{computed, read_computed}
use Rattle.machine.specs.Execution.{refusal_of, after}
use Rattle.machine.specs.Lists.{played, before, stop, ran, run_of}
use Rattle.birdaghol.specs.Calls.{packed_result, read_call}
use Rattle.birdaghol.specs.Examples.{Example, examples, Read, reads, descriptions, described, expected}

pub examples_hold : map (λ (e : Example). e.call) examples ≡ map (λ (e : Example). e.gives) examples
unfolding decode_of describe missing encode_of names_of spelling text_of print_of refusal_of after played before stop ran run_of
examples_hold = refl

-- a read is computed by the guess, and not by the search through all words
called : (es : List Read) → map (λ (e : Read). read_call e.flags e.line) es ≡ map (λ (e : Read). packed_result (computed e.flags e.line)) es
called [] = refl
called (e ∷ es) = rw (read_computed e.flags e.line, called es)

computed_hold : map (λ (e : Read). packed_result (computed e.flags e.line)) reads ≡ map (λ (e : Read). e.gives) reads
unfolding guess_of scanned tiles_from encode_of decode_of describe missing names_of text_of spelling
computed_hold = refl

pub reads_hold : map (λ (e : Read). read_call e.flags e.line) reads ≡ map (λ (e : Read). e.gives) reads
reads_hold = called reads ∙ computed_hold

pub descriptions_hold : map described descriptions ≡ map expected descriptions
unfolding describe missing
descriptions_hold = refl
