-- `replay::run_and_write` meets its contract: what run leaves is what is written. Assumes nothing.
use mathlib.Core.Path.{◌∙◌}
use Rattle.isa.proofs.Refusals.{handed_on}
use Rattle.replay.proofs.Replaying.{run_told}
use Rattle.replay.proofs.run_and_write.Goals as goal

pub returns-in_err-length : goal.returns-in_err-length
returns-in_err-length c =
    let a = c.args in
    let ran = c.run-ended.ensures in
    let w = c.in_err-length.ensures in
    let t = run_told a.bench a.words.now a.z.now a.p.now a.za.now _ a.room.now ran.za_after ran.answer w.answer w.room_after in
    record { answer = handed_on c.from_residual.ensures.1 ∙ t.answer; room_after = t.room_after }

pub returns : goal.returns
returns c =
    let a = c.args in
    let ran = c.run-ended.ensures in
    let w = c.in_ok-length.ensures in
    run_told a.bench a.words.now a.z.now a.p.now a.za.now _ a.room.now ran.za_after ran.answer w.answer w.room_after
