-- `outer::task::Task::add_columns` meets its contract: the columns before c have their products added. Assumes nothing.
use Rattle.std.proofs.Common.{◌≡◌, ◌+◌, ◌*◌, ◌/◌, ◌<◌, pos, refl, ap, ◌∙◌, arith}
use lib.Signed.{mag}
use Rattle.storage.specs.Modulo.{plus}
use Rattle.storage.specs.Tile.{start}
use Rattle.outer.specs.Products.{dot, directed_product}
use Rattle.outer.specs.Walks.{signed_at}
use Rattle.outer.proofs.Progress.{lent, since_size, since_none, since_store, plus_lt, sum-start}
use Rattle.outer.proofs.Shapes.{shape}
use Rattle.outer.proofs.Parts.{of_size, tile_of, place_of, product_in, row_product, first_small, second_small, small_as}
use Rattle.outer.proofs.Signed.{half_small, long_back}
use Rattle.outer.proofs.Elements.{sum_more}
use Rattle.outer.proofs.task.Task.add_columns.Goals as goal

pub overflow_mul-start-2 : goal.overflow_mul-start-2
overflow_mul-start-2 g c =
    omega (arith, place_of c.args.self.now c.requires.shape.0 c.args.from c.requires.row_bound c.requires.same_until c.requires.same_until.more)

pub loop-c-init : goal.loop-c-init
loop-c-init g c =
    let t = tile_of c.args.self.now c.requires.shape.0 in
    since_none t _ (lent t c.args.za.now c.requires.za_len (λ i. omega (arith, c.type_inv.za i)))

pub overflow_add-i : goal.overflow_add-i
overflow_add-i g c = omega (arith, place_of c.args.self.now c.requires.shape.0 c.loop-c.c c.requires.row_bound c.requires.same_until c.loop-c-test.true)

pub load-sum-requires-clause-four_or_eight : goal.load-sum-requires-clause-four_or_eight
load-sum-requires-clause-four_or_eight g c = of_size c.args.self.now c.requires.shape.0

pub load-sum-requires-clause-e_in_bounds : goal.load-sum-requires-clause-e_in_bounds
load-sum-requires-clause-e_in_bounds g c =
    let t = c.args.self.now in
    let e = c.requires.shape.0 in
    omega (arith, place_of t e c.loop-c.c c.requires.row_bound c.requires.same_until c.loop-c-test.true, since_size (tile_of t e) c.loop-c.invariant)

pub loop-j-init : goal.loop-j-init
loop-j-init g c = sum-start _ _ (λ k. pos 0) c.load-sum.ensures.1

pub overflow_mul-j : goal.overflow_mul-j
overflow_mul-j g c = omega (arith, product_in c.args.self.now c.requires.shape.1 c.requires.same_until c.loop-c-test.true c.loop-j-test.true)

pub offset_bounds-x-j : goal.offset_bounds-x-j
offset_bounds-x-j g c = omega (arith, product_in c.args.self.now c.requires.shape.1 c.requires.same_until c.loop-c-test.true c.loop-j-test.true)

pub bounds-x-j : goal.bounds-x-j
bounds-x-j g c = omega (arith, product_in c.args.self.now c.requires.shape.1 c.requires.same_until c.loop-c-test.true c.loop-j-test.true, c.requires.fetched.long)

pub overflow_mul-j-in-loop-j : goal.overflow_mul-j-in-loop-j
overflow_mul-j-in-loop-j g c = omega (arith, product_in c.args.self.now c.requires.shape.1 c.requires.same_until c.loop-c-test.true c.loop-j-test.true)

pub overflow_add-j : goal.overflow_add-j
overflow_add-j g c = omega (arith, product_in c.args.self.now c.requires.shape.1 c.requires.same_until c.loop-c-test.true c.loop-j-test.true)

pub offset_bounds-y-j : goal.offset_bounds-y-j
offset_bounds-y-j g c = omega (arith, product_in c.args.self.now c.requires.shape.1 c.requires.same_until c.loop-c-test.true c.loop-j-test.true)

pub bounds-y-j : goal.bounds-y-j
bounds-y-j g c = omega (arith, product_in c.args.self.now c.requires.shape.1 c.requires.same_until c.loop-c-test.true c.loop-j-test.true, c.requires.planes.long)

pub multiply-requires-clause-x_bound : goal.multiply-requires-clause-x_bound
multiply-requires-clause-x_bound g c =
    let t = c.args.self.now in
    let q = c.requires in
    let b : c.loop-j.j < t.o.products = rw q.shape.1 c.loop-j-test.true in (
      small_as t q.shape (signed_at c.args.x.now (2 * c.loop-j.j)) (first_small t q.same_until q.fetched q.planes c.loop-c.auto.c c.loop-c-test.true b),
      small_as t q.shape (signed_at c.args.y.now (64 * c.loop-j.j + c.loop-c.c)) (second_small t q.same_until q.fetched q.planes c.loop-c.auto.c c.loop-c-test.true b),
    )

pub add_signed-sum-requires-clause-four_or_eight : goal.add_signed-sum-requires-clause-four_or_eight
add_signed-sum-requires-clause-four_or_eight g c = of_size c.args.self.now c.requires.shape.0

pub add_signed-sum-requires-clause-sum_bound : goal.add_signed-sum-requires-clause-sum_bound
add_signed-sum-requires-clause-sum_bound g c =
    let m = c.multiply in
    let l : mag m.result < 0x400000000 = omega (arith, m.ensures.1) in
    (rw c.loop-j.invariant (plus_lt _ _ _), rw (long_back m.result l) l)

pub loop-j-preserved : goal.loop-j-preserved
loop-j-preserved g c =
    let t = c.args.self.now in
    let q = c.requires in
    let l = c.loop-j in
    let m = c.multiply in
    let a = c.loop-c-test.true in
    let b : l.j < t.o.products = rw q.shape.1 c.loop-j-test.true in
    let sum = c.add_signed-sum.ensures ∙ ap (plus g.row.E l.sum) (long_back m.result (omega (arith, m.ensures.1))) in
    sum_more g.row.E _ l.sum _ l.j m.result (signed_at c.args.x.now (2 * l.j)) (signed_at c.args.y.now (64 * l.j + c.loop-c.c))
    (directed_product t.o.element t.o.products t.vb t.o t.z.now t.p.now c.args.row c.loop-c.c) (half_small (shape t.shaped).source)
    (first_small t q.same_until q.fetched q.planes c.loop-c.auto.c a b) (second_small t q.same_until q.fetched q.planes c.loop-c.auto.c a b)
    l.invariant m.ensures.0 (row_product t q.same_until q.fetched q.planes c.loop-c.auto.c a b) sum

pub store-requires-clause-four_or_eight : goal.store-requires-clause-four_or_eight
store-requires-clause-four_or_eight g c = of_size c.args.self.now c.requires.shape.0

pub store-requires-clause-e_in_bounds : goal.store-requires-clause-e_in_bounds
store-requires-clause-e_in_bounds g c =
    let t = c.args.self.now in
    let e = c.requires.shape.0 in (
      omega (arith, place_of t e c.loop-c.c c.requires.row_bound c.requires.same_until c.loop-c-test.true, since_size (tile_of t e) c.loop-c.invariant),
      rw c.loop-j.invariant (plus_lt _ _ _),
    )

pub loop-c-preserved : goal.loop-c-preserved
unfolding start dot
loop-c-preserved g c =
    let t = c.args.self.now in
    let q = c.requires in
    let l = c.loop-j in
    let i : c.loop-c.c < t.vb / t.o.element = omega (arith, c.loop-c-test.true, q.same_until.inside) in
    let e : l.j ≡ t.o.products = omega (arith, q.shape.1) in
    rw c.store.ensures
    (since_store (tile_of t q.shape.0) c.loop-c.invariant (rw q.shape.0 at q.row_bound) (rw q.shape.0 at i) refl
    (l.invariant ∙ rw (e, c.load-sum.ensures.0)))
