-- `outer::task::Task::add_plainly` meets its contract: after the rows and columns walked, ZA has their elements' products added.
-- Assumes nothing.
use Rattle.std.proofs.Common.{◌≡◌, pos, refl, ◌∙◌, arith, rules}
use Rattle.storage.specs.Tile.{start}
use Rattle.outer.specs.Products.{directed_product, dot}
use Rattle.outer.proofs.Progress.{since_as, lent, placed, since_good, since_size, since_none, since_then, since_store, since_all}
use Rattle.outer.proofs.Progress.{plus_lt, sum-start, sum_turn}
use Rattle.outer.proofs.Shapes.{shape, on_tile}
use Rattle.outer.proofs.task.Task.add_plainly.Goals as goal

pub loop-row-init : goal.loop-row-init
loop-row-init _ c =
    let t = on_tile c.args.self.now.shaped c.args.self.now.ready in
    since_as refl (omega arith) (since_none t 0 (lent t c.args.za.now c.requires.za_len (λ i. search rules)))

pub loop-col-init : goal.loop-col-init
loop-col-init _ c =
    let t = on_tile c.args.self.now.shaped c.args.self.now.ready in
    since_as refl (omega arith) (since_none t _ (since_good t c.loop-row.invariant))

pub overflow_mul-i-in-loop-col : goal.overflow_mul-i-in-loop-col
overflow_mul-i-in-loop-col _ c =
    omega (arith, placed (on_tile c.args.self.now.shaped c.args.self.now.ready) (rw c.columns-dim.ensures at c.loop-row-test.true) (rw c.columns-dim.ensures at c.loop-col-test.true))

pub overflow_add-i-in-loop-col : goal.overflow_add-i-in-loop-col
overflow_add-i-in-loop-col _ c =
    omega (arith, placed (on_tile c.args.self.now.shaped c.args.self.now.ready) (rw c.columns-dim.ensures at c.loop-row-test.true) (rw c.columns-dim.ensures at c.loop-col-test.true))

pub load-sum-requires-clause-four_or_eight : goal.load-sum-requires-clause-four_or_eight
load-sum-requires-clause-four_or_eight _ c = (shape c.args.self.now.shaped).element

pub load-sum-requires-clause-e_in_bounds : goal.load-sum-requires-clause-e_in_bounds
load-sum-requires-clause-e_in_bounds _ c =
    let t = on_tile c.args.self.now.shaped c.args.self.now.ready in
    omega (arith, placed t (rw c.columns-dim.ensures at c.loop-row-test.true) (rw c.columns-dim.ensures at c.loop-col-test.true), since_size t c.loop-col.invariant)

pub loop-k-init : goal.loop-k-init
loop-k-init _ c = sum-start _ _ (λ k. pos 0) c.load-sum.ensures.1

pub add_product-sum-requires-clause-source_bytes : goal.add_product-sum-requires-clause-source_bytes
add_product-sum-requires-clause-source_bytes _ c = (c.requires.shape.1, rw c.requires.shape.1 (shape c.args.self.now.shaped).source)

pub add_product-sum-requires-clause-sum_bound : goal.add_product-sum-requires-clause-sum_bound
add_product-sum-requires-clause-sum_bound _ c = rw c.loop-k.invariant (plus_lt _ _ _)

pub loop-k-preserved : goal.loop-k-preserved
loop-k-preserved _ c =
    let t = c.args.self.now in
    let products = directed_product t.o.element t.o.products t.vb t.o t.z.now t.p.now c.loop-row.row c.loop-col.col in
    sum_turn t.o.element _ c.loop-k.sum _ c.loop-k.k products c.loop-k.invariant c.add_product-sum.ensures

pub store-requires-clause-four_or_eight : goal.store-requires-clause-four_or_eight
store-requires-clause-four_or_eight _ c = (shape c.args.self.now.shaped).element

pub store-requires-clause-e_in_bounds : goal.store-requires-clause-e_in_bounds
store-requires-clause-e_in_bounds _ c =
    let t = on_tile c.args.self.now.shaped c.args.self.now.ready in (
      omega (arith, placed t (rw c.columns-dim.ensures at c.loop-row-test.true) (rw c.columns-dim.ensures at c.loop-col-test.true), since_size t c.loop-col.invariant),
      rw c.loop-k.invariant (plus_lt _ _ _),
    )

pub loop-col-preserved : goal.loop-col-preserved
unfolding start dot
loop-col-preserved _ c =
    let l = c.loop-k in
    let e : l.k ≡ c.args.self.now.o.products = omega (arith, c.requires.shape.0) in
    rw c.store.ensures
    (since_store (on_tile c.args.self.now.shaped c.args.self.now.ready) c.loop-col.invariant (rw c.columns-dim.ensures at c.loop-row-test.true) (rw c.columns-dim.ensures at c.loop-col-test.true) refl
    (l.invariant ∙ rw (e, c.load-sum.ensures.0)))

pub loop-row-preserved : goal.loop-row-preserved
loop-row-preserved _ c =
    let w = c.loop-col.invariant in
    since_as refl (omega (arith, c.columns-dim.ensures)) (since_then (on_tile c.args.self.now.shaped c.args.self.now.ready) c.loop-row.invariant w.order w.done)

pub returns : goal.returns
returns _ c = since_all (on_tile c.args.self.now.shaped c.args.self.now.ready) c.loop-row.invariant (omega (arith, c.columns-dim.ensures))
