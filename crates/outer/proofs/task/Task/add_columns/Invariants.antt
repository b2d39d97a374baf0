-- `outer::task::Task::add_columns` meets its contract: the columns before c have their products added. Assumes nothing.
use Rattle.std.proofs.Common.{◌≡◌, ◌+◌, ◌*◌, ◌/◌}
use Rattle.storage.specs.Modulo.{plus}
use Rattle.outer.specs.Products.{sum, sums, directed_product}
use Rattle.outer.proofs.Progress.{Since}
use Rattle.outer.proofs.task.Task.add_columns.Given as goal

abbrev pub invariant-loop-j : goal.invariant-loop-j
invariant-loop-j g l =
    let t = l.self in
    l.sum ≡ plus g.row.E l.initial.sum (sum (directed_product t.o.element t.o.products t.vb t.o t.z.now t.p.now l.row l.c) l.j)

abbrev pub invariant-loop-c : goal.invariant-loop-c
invariant-loop-c g l =
    let t = l.self in
    let cols = t.vb / g.row.E in
    Since g.row.E t.vb t.o.tile.0 (sums t.vb t.o t.z.now t.p.now) (l.row * cols + l.from) (l.row * cols + l.c) l.initial.za l.za
