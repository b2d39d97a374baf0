-- `birdaghol::birdaghol_capture_write` meets its contract: write's answer, packed. Assumes nothing.
use mathlib.Core.Path.{◌∙◌, sym, ap}
use native.Mathlib.Omega.{arith}
use Rattle.capture.specs.Format.{capture_of}
use Rattle.capture.proofs.Theorems.{written_small}
use Rattle.birdaghol.specs.Calls.{packed_result}
use Rattle.birdaghol.proofs.Packing.{value_alone}
use Rattle.birdaghol.proofs.birdaghol_capture_write.Goals as goal

pub overflow_mul-result : goal.overflow_mul-result
overflow_mul-result c =
    let a = c.args in
    omega (arith, written_small (capture_of _ a.words.now a.z.now a.p.now a.za.now) a.file.now _ (sym c.write.ensures.answer ∙ c.in-Ok.is))

pub returns-in-Ok : goal.returns-in-Ok
returns-in-Ok c =
    let e = rw c.bench_of.ensures at c.write.ensures in
    record { answer = value_alone _ ∙ sym (ap packed_result (sym e.answer ∙ c.in-Ok.is)); file_after = e.room_after }

pub returns-in-Err : goal.returns-in-Err
returns-in-Err c =
    let e = rw c.bench_of.ensures at c.write.ensures in
    record { answer = c.refused.ensures ∙ sym (ap packed_result (sym e.answer ∙ c.in-Err.is)); file_after = e.room_after }
