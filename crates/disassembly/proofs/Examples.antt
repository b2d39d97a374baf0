-- Each example of specs/Examples.antt comes out as it says, by computation. Assumes nothing.
use Rattle.std.proofs.Common.{◌≡◌, refl}
use Rattle.isa.specs.Answers.{describe, missing, decode_of}
use Rattle.names.specs.Names.{names_of}
use Rattle.storage.specs.Bytes.{word}
use Rattle.text.specs.Spelling.{spelling}
use Rattle.text.specs.Printing.{text_of}
use Rattle.disassembly.specs.Listing.{hexadecimal, said, line, word_lines, end_line, listing}
use Rattle.disassembly.specs.Pieces.{lines_for, place_behind, after}
use Rattle.disassembly.specs.Examples.{texts, listings, last_word, piece, wrapped, behind_wrap}

pub examples_hold : listings ≡ texts
unfolding describe missing decode_of names_of word spelling text_of hexadecimal said line word_lines end_line listing
examples_hold = refl

pub wrap_holds : (lines_for last_word piece ≡ wrapped) × (after last_word piece ≡ behind_wrap)
unfolding describe missing decode_of names_of word spelling text_of hexadecimal said line word_lines place_behind
wrap_holds = (refl, refl)
