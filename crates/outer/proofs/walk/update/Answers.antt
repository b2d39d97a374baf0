-- `outer::walk::update` meets its contract: the rows before `row` have their products added, and the planes have the second
-- source's register that they are said to hold. Assumes nothing.
use Rattle.std.proofs.Common.{refl, arith, rules}
use Rattle.outer.proofs.Progress.{since_as, lent, since_none, since_then, since_all}
use Rattle.outer.proofs.Shapes.{on_tile}
use Rattle.outer.proofs.walk.update.Goals as goal

pub loop-row-init : goal.loop-row-init
loop-row-init c =
    let t = on_tile c.requires.shaped c.requires.ready in
    (tt, since_as refl (omega arith) (since_none t 0 (lent t c.args.za.now c.requires.za_len (λ i. search rules))))

pub loop-row-preserved : goal.loop-row-preserved
loop-row-preserved c =
    let t = on_tile c.requires.shaped c.requires.ready in
    (c.hold.ensures, since_as refl (omega arith) (since_then t (since_as refl (omega arith) c.loop-row.invariant.1) (omega arith) c.add_row.ensures))

pub returns : goal.returns
returns c = since_all (on_tile c.requires.shaped c.requires.ready) c.loop-row.invariant.1 (omega (arith, c.columns-n.ensures))
