-- `outer::task::Task::add_product` meets its contract: a product counts where both elements are active. Assumes nothing.
use Rattle.std.proofs.Common.{arith}
use Rattle.outer.proofs.Shapes.{shape, element_in, spot_in}
use Rattle.outer.proofs.Elements.{valued_off, valued_on, valued_back, valued_as, valued_at, first_off, second_off, counted}
use Rattle.outer.proofs.task.Task.add_product.Goals as goal

pub returns-then-not-is_active : goal.returns-then-not-is_active
returns-then-not-is_active _ c =
    let t = c.args.self.now in
    first_off t.o.element t.o.products t.vb t.o t.z.now t.p.now c.args.row c.args.col c.args.k c.args.sum c.requires.sum_bound
    (valued_as c.requires.source_bytes.0 (valued_off _ _ _ _ _ _ _ c.is_active.ensures c.if-not-is_active.true))

pub returns-then-not-is_active-2 : goal.returns-then-not-is_active-2
returns-then-not-is_active-2 _ c =
    let t = c.args.self.now in
    second_off t.o.element t.o.products t.vb t.o t.z.now t.p.now c.args.row c.args.col c.args.k c.args.sum c.requires.sum_bound
    (valued_as c.requires.source_bytes.0 (valued_off _ _ _ _ _ _ _ c.is_active-2.ensures c.if-not-is_active-2.true))

pub overflow_add-n : goal.overflow_add-n
overflow_add-n _ c = omega (arith, spot_in c.args.self.now c.requires.source_bytes.0 c.register_at-n.ensures.bound (element_in c.args.self.now c.requires.source_bytes.0 c.requires.row_bound.0 c.requires.row_bound.2).0)

pub read-x-requires-clause-b_in_bounds : goal.read-x-requires-clause-b_in_bounds
read-x-requires-clause-b_in_bounds _ c = omega (arith, spot_in c.args.self.now c.requires.source_bytes.0 c.register_at-n.ensures.bound (element_in c.args.self.now c.requires.source_bytes.0 c.requires.row_bound.0 c.requires.row_bound.2).0, c.args.self.now.ready.z_sized)

pub overflow_add-m : goal.overflow_add-m
overflow_add-m _ c = omega (arith, spot_in c.args.self.now c.requires.source_bytes.0 c.register_at-m.ensures.bound (element_in c.args.self.now c.requires.source_bytes.0 c.requires.row_bound.1 c.requires.row_bound.2).0)

pub read-y-requires-clause-b_in_bounds : goal.read-y-requires-clause-b_in_bounds
read-y-requires-clause-b_in_bounds _ c = omega (arith, spot_in c.args.self.now c.requires.source_bytes.0 c.register_at-m.ensures.bound (element_in c.args.self.now c.requires.source_bytes.0 c.requires.row_bound.1 c.requires.row_bound.2).0, c.args.self.now.ready.z_sized)

pub returns : goal.returns
returns _ c =
    let t = c.args.self.now in
    let u = (shape t.shaped).source in
    let b = c.requires.source_bytes.0 in
    counted t.o.element t.o.products t.vb t.o t.z.now t.p.now c.args.row c.args.col c.args.k c.args.sum _
    (valued_back u (valued_at c.register_at-n.ensures.is (valued_as b (valued_on _ _ _ _ _ _ _ c.is_active.ensures c.if-not-is_active.false c.read-x.ensures))))
    (valued_back u (valued_at c.register_at-m.ensures.is (valued_as b (valued_on _ _ _ _ _ _ _ c.is_active-2.ensures c.if-not-is_active-2.false c.read-y.ensures))))
    c.accumulate.ensures
