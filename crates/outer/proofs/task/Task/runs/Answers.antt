-- `outer::task::Task::runs` meets its contract. Assumes nothing.
use Rattle.std.proofs.Common.{arith}
use Rattle.outer.proofs.Shapes.{one_run, two_runs, even_columns}
use Rattle.outer.proofs.task.Task.runs.Goals as goal

pub returns-then-self-clause-same : goal.returns-then-self-clause-same
returns-then-self-clause-same c =
    let t = c.args.self.now in
    rw c.columns-n.ensures (one_run t.o.first _ (even_columns t).0 c.if-self.true)

pub returns-else-self-clause-whole : goal.returns-else-self-clause-whole
returns-else-self-clause-whole c = omega (arith, (even_columns c.args.self.now).1, c.columns-n.ensures)

pub returns-else-self-clause-same : goal.returns-else-self-clause-same
returns-else-self-clause-same c =
    let t = c.args.self.now in
    let n = even_columns t in
    rw c.columns-n.ensures (two_runs t.o.first _ n.0 n.1)
