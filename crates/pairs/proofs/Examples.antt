-- The examples of specs/Examples.antt come out as they say, by computation. Assumes nothing.
use mathlib.Core.Path.{◌≡◌, refl}
use mathlib.Core.List.{map}
use Rattle.isa.specs.Answers.{describe, missing, decode_of}
use Rattle.storage.specs.Bytes.{bit_at, byte_of, word}
use Rattle.storage.specs.Modulo.{mod_z, plus}
use Rattle.storage.specs.Change.{tabulate, change}
use Rattle.storage.specs.Tile.{start, element, add_at, add_to}
use Rattle.outer.specs.Products.{product, dot}
use Rattle.machine.specs.Execution.{refusal_of, after}
use Rattle.machine.specs.Lists.{played}
use Rattle.pairs.specs.Order.{order_matters}
use Rattle.pairs.specs.Examples.{examples, answered, ends, both_left}

pub examples_hold : map answered examples ≡ examples
unfolding order_matters decode_of describe missing
examples_hold = refl

pub ends_hold : map both_left ends ≡ ends
unfolding played after refusal_of describe missing dot product add_to add_at change tabulate element start word bit_at byte_of plus mod_z
ends_hold = refl
