-- `outer::task::Task::widen` meets its contract: the columns before c have their elements, and column c has j. Assumes nothing.
use Rattle.std.proofs.Common.{◌+◌, ◌*◌, ◌<◌, refl, arith, w32, to_z}
use Rattle.outer.specs.Walks.{Turned}
use Rattle.outer.proofs.Shapes.{shape, few_products, few_columns_of, number_lt}
use Rattle.outer.proofs.Elements.{turned_taken, turned_added}
use Rattle.outer.proofs.Arrays.{written, filled-before, plane_column, plane_product}
use Rattle.outer.proofs.task.Task.widen.Invariants.{Is}
use Rattle.outer.proofs.task.Task.widen.Goals.{then-task, else-task}
use Rattle.outer.proofs.task.Task.widen.Goals as goal

pub overflow_mul-k : goal.overflow_mul-k
overflow_mul-k c = omega (arith, number_lt c.args.self.now c.loop-c.c c.loop-j.j (rw c.columns-c-end.ensures at c.loop-c-test.true) c.loop-j-test.true)

pub overflow_add-k : goal.overflow_add-k
overflow_add-k c = omega (arith, number_lt c.args.self.now c.loop-c.c c.loop-j.j (rw c.columns-c-end.ensures at c.loop-c-test.true) c.loop-j-test.true)

pub overflow_add-j : goal.overflow_add-j
overflow_add-j c = omega (arith, few_products c.args.self.now, few_columns_of c.args.self.now, c.columns-c-end.ensures)

pub offset_bounds-y-j : goal.offset_bounds-y-j
offset_bounds-y-j c = omega (arith, few_products c.args.self.now, few_columns_of c.args.self.now, c.columns-c-end.ensures)

pub bounds-y-j : goal.bounds-y-j
bounds-y-j c = omega (arith, few_products c.args.self.now, few_columns_of c.args.self.now, c.columns-c-end.ensures, c.loop-j.auto.y, c.requires.register_bound.1)

pub loop-j-preserved : goal.loop-j-preserved
loop-j-preserved c = λ n k f.
    let t = c.args.self.now in
    let l = c.loop-j in
    let place = 64 * l.j + c.loop-c.c in
    let u = (shape t.shaped).source in
    let h : c.loop-c.c < 64 = omega (arith, few_columns_of t, c.loop-c-test.true, c.columns-c-end.ensures) in
    let turned : Turned t.vb t.o t.z.now t.p.now c.args.register (t.o.products * c.loop-c.c + l.j) (to_z w32 c.if-task.y-bits) =
    elim c.if-task.branch [
      | then-task w ↦ rw w.y-is (turned_taken u c.element-v.ensures w.if-task.true refl)
      | else-task w ↦ rw w.y-is (turned_added u c.element-v.ensures w.if-task.false refl)
    ] in
    written (Is t c.args.register n) l.y place n _ (omega (arith, h, few_products t, l.auto.y, c.requires.register_bound.1))
    (λ e. rw (e, plane_column l.j h, plane_product l.j h) turned)
    (λ d. l.invariant n k (filled-before n f d))
