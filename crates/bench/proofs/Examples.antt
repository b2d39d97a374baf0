-- The marked examples, and those of the 2-way forms, come out as they say, by computation. Assumes nothing.
use mathlib.Core.Path.{◌≡◌, refl}
use lib.ListN.{length}
use Rattle.isa.specs.Answers.{describe, missing, decode_of}
use Rattle.text.specs.Spelling.{spelling}
use Rattle.text.specs.Printing.{text_of, print_of, room_after}
use Rattle.storage.specs.Bytes.{byte_of, word, bit_at}
use Rattle.storage.specs.Modulo.{mod_z, plus}
use Rattle.storage.specs.Change.{tabulate, change}
use Rattle.storage.specs.Tile.{start, element, add_at, add_to, clear_at, clear}
use Rattle.outer.specs.Products.{product, dot}
use Rattle.machine.specs.Execution.{refusal_of, after}
use Rattle.machine.specs.Lists.{played}
use Rattle.bench.specs.Examples.{examples, two_way_examples, answered}

pub examples_hold : answered examples ≡ examples
unfolding print_of room_after text_of describe missing spelling decode_of start element byte_of word bit_at mod_z plus tabulate change add_at add_to clear_at clear product dot refusal_of after played
examples_hold = refl

pub two_way_examples_hold : answered two_way_examples ≡ two_way_examples
unfolding describe missing start element byte_of word bit_at mod_z plus tabulate change add_at add_to product dot refusal_of after played
two_way_examples_hold = refl

pub twelve : length examples ≡ 12
twelve = refl
