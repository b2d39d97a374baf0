-- `reader::line::has_text` meets its contract: with every feature on, print refuses unlisted words alone. Assumes nothing.
use Rattle.reader.proofs.Readings.{printed_fits, printed-same, refused_unlisted}
use mathlib.Core.Path.{◌∙◌, sym}
use native.Mathlib.Omega.{arith}
use Prim.Native.Nat.{ℕ, ◌≤◌}
use lib.ListN.{length, length-take}
use Rattle.reader.proofs.line.has_text.Goals as goal

pub slice_bounds-room-end : goal.slice_bounds-room-end
slice_bounds-room-end c =
    let p = c.print in
    rw p.ensures.room_after (printed_fits _ _ _ (sym p.ensures.answer ∙ c.in-Ok.is))

pub slice_bounds-same-end : goal.slice_bounds-same-end
slice_bounds-same-end c =
    let p = c.print in
    let h : c.in-Ok.n ≤ length p.new.room = rw p.ensures.room_after (printed_fits _ _ _ (sym p.ensures.answer ∙ c.in-Ok.is)) in
    omega (arith, length-take {A = ℕ}, h)

pub returns-in-Ok : goal.returns-in-Ok
returns-in-Ok c =
    let p = c.print in
    c.same.ensures ∙ rw p.ensures.room_after (printed-same _ _ _ (sym p.ensures.answer ∙ c.in-Ok.is) _)

pub returns-in-Err : goal.returns-in-Err
returns-in-Err c =
    let p = c.print in
    refused_unlisted _ _ _ _ (omega arith) (sym p.ensures.answer ∙ c.in-Err.is)
