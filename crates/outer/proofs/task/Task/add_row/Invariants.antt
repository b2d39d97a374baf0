-- `outer::task::Task::add_row` meets its contract: the runs before `run` have their products added. Assumes nothing.
use Rattle.std.proofs.Common.{◌+◌, ◌*◌, ◌/◌}
use Rattle.outer.specs.Products.{sums}
use Rattle.outer.proofs.Progress.{Since}
use Rattle.outer.proofs.task.Task.add_row.Given as goal

abbrev pub invariant-loop-run : goal.invariant-loop-run
invariant-loop-run l =
    let t = l.self in
    let cols = t.vb / t.o.element in
    Since t.o.element t.vb t.o.tile.0 (sums t.vb t.o t.z.now t.p.now) (l.row * cols + 0) (l.row * cols + l.run * l.columns) l.initial.za l.za
