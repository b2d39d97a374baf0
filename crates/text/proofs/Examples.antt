-- The examples of prints come out as they say, by computation. Assumes nothing.
use mathlib.Core.Path.{◌≡◌, refl}
use Rattle.isa.specs.Answers.{describe, missing}
use Rattle.names.specs.Names.{names_of}
use Rattle.text.specs.Spelling.{spelling}
use Rattle.text.specs.Printing.{text_of, print_of, room_after}
use Rattle.text.specs.Examples.{examples, outcomes}

pub examples_hold : outcomes ≡ examples
unfolding print_of room_after text_of describe missing names_of spelling
examples_hold = refl
