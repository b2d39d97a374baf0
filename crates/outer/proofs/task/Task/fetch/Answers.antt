-- `outer::task::Task::fetch` meets its contract: after j turns x holds j elements. Assumes nothing.
use Rattle.std.proofs.Common.{◌≡◌, ◌+◌, ◌*◌, arith}
use Rattle.outer.specs.Walks.{ValuedIn}
use Rattle.outer.proofs.Shapes.{shape, few_products, number_lt}
use Rattle.outer.proofs.Elements.{valued_back}
use Rattle.outer.proofs.Arrays.{written}
use Rattle.outer.proofs.task.Task.fetch.Goals as goal

pub overflow_mul-k : goal.overflow_mul-k
overflow_mul-k c = omega (arith, number_lt c.args.self.now c.args.row c.loop-j.j c.requires.register_bound.1 c.loop-j-test.true)

pub loop-j-preserved : goal.loop-j-preserved
loop-j-preserved c = λ i h.
    let t = c.args.self.now in
    let l = c.loop-j in
    written (λ v. ValuedIn t.vb t.o t.z.now t.p.now t.o.first c.args.register (t.o.products * c.args.row + i) v) l.x (2 * l.j) (2 * i) _
    (omega (arith, few_products t, l.auto.x, c.requires.register_bound.2))
    (λ e. let q : i ≡ l.j = omega arith in rw q (valued_back (shape t.shaped).source c.element.ensures))
    (λ d. l.invariant i (omega arith))
