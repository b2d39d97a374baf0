-- `outer::task::Task::add_row` meets its contract: the runs before `run` have their products added. Assumes nothing.
use Rattle.std.proofs.Common.{refl, arith, rules}
use Rattle.outer.proofs.Progress.{since_as, lent, since_none, since_then}
use Rattle.outer.proofs.Parts.{tile_of}
use Rattle.outer.proofs.task.Task.add_row.Goals as goal

pub loop-run-init : goal.loop-run-init
loop-run-init c =
    let t = tile_of c.args.self.now refl in
    since_as refl (omega arith) (since_none t _ (lent t c.args.za.now c.requires.za_len (λ i. search rules)))

pub loop-run-preserved : goal.loop-run-preserved
loop-run-preserved c = since_then (tile_of c.args.self.now refl) c.loop-run.invariant (omega arith) c.add_part.ensures
