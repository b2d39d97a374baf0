-- `outer::plain::accumulate` meets its contract. Assumes nothing.
use Rattle.outer.proofs.Shapes.{shape}
use Rattle.outer.proofs.plain.accumulate.Goals as goal

pub add_signed-requires-clause-four_or_eight : goal.add_signed-requires-clause-four_or_eight
add_signed-requires-clause-four_or_eight c = (shape c.requires.shaped).element

pub add_signed-requires-2-clause-four_or_eight : goal.add_signed-requires-2-clause-four_or_eight
add_signed-requires-2-clause-four_or_eight c = (shape c.requires.shaped).element
