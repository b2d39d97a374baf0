-- `outer::clear::clear_tiles` meets its contract: after all rows, those of the mask are cleared. Assumes nothing.
use Rattle.std.proofs.Common.{◌≡◌, arith}
use Rattle.storage.proofs.Sizes.{legal-length}
use Rattle.outer.proofs.Rows.{rows_all}
use Rattle.outer.proofs.clear.clear_tiles.Goals as goal

pub returns : goal.returns
returns c =
    let l = c.loop-row in
    let e : l.row ≡ c.args.vb = omega arith in
    rows_all c.args.vb c.args.mask c.args.za.now _ (omega (arith, legal-length c.args.vb c.requires.0)) c.requires.1 (rw e at l.invariant)
