-- `outer::task::Task::add_part` meets its contract. Assumes nothing.
use Rattle.outer.proofs.Shapes.{of_eight, of_two, of_neither}
use Rattle.outer.proofs.task.Task.add_part.Goals as goal

pub add_columns-requires-clause-shape : goal.add_columns-requires-clause-shape
add_columns-requires-clause-shape c = of_eight c.args.self.now.shaped c.if-self-eq8.true

pub add_columns-requires-then-self-eq2-clause-shape : goal.add_columns-requires-then-self-eq2-clause-shape
add_columns-requires-then-self-eq2-clause-shape c = of_two c.args.self.now.shaped c.if-self-eq2.true

pub add_columns-requires-2-clause-shape : goal.add_columns-requires-2-clause-shape
add_columns-requires-2-clause-shape c = of_neither c.args.self.now.shaped c.if-self-eq8.false c.if-self-eq2.false
