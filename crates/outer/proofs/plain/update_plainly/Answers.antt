-- `outer::plain::update_plainly` meets its contract: the shapes are told apart. Assumes nothing.
use Rattle.outer.proofs.Shapes.{of_eight, of_two, of_neither, of_sizes}
use Rattle.outer.proofs.plain.update_plainly.Goals as goal

pub add_plainly-requires-clause-shape : goal.add_plainly-requires-clause-shape
add_plainly-requires-clause-shape c = of_sizes 8 4 (of_eight c.requires.shaped c.if-o-eq8.true)

pub add_plainly-requires-then-o-eq2-clause-shape : goal.add_plainly-requires-then-o-eq2-clause-shape
add_plainly-requires-then-o-eq2-clause-shape c = of_sizes 4 2 (of_two c.requires.shaped c.if-o-eq2.true)

pub add_plainly-requires-2-clause-shape : goal.add_plainly-requires-2-clause-shape
add_plainly-requires-2-clause-shape c = of_sizes 4 4 (of_neither c.requires.shaped c.if-o-eq8.false c.if-o-eq2.false)
