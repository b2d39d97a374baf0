-- `birdaghol::birdaghol_print` meets its contract: print's answer, packed. Assumes nothing.
use mathlib.Core.Path.{◌∙◌, sym, ap}
use native.Mathlib.Omega.{arith}
use Rattle.birdaghol.specs.Calls.{packed_result}
use Rattle.birdaghol.proofs.Packing.{value_alone, printed_short}
use Rattle.birdaghol.proofs.birdaghol_print.Goals as goal

pub overflow_mul-result : goal.overflow_mul-result
overflow_mul-result c = omega (arith, printed_short _ _ c.args.room.now _ (sym c.print.ensures.answer ∙ c.in-Ok.is))

pub returns-in-Ok : goal.returns-in-Ok
returns-in-Ok c =
    let e = c.print.ensures in
    record { answer = value_alone _ ∙ sym (ap packed_result (sym e.answer ∙ c.in-Ok.is)); room_after = e.room_after }

pub returns-in-Err : goal.returns-in-Err
returns-in-Err c =
    let e = c.print.ensures in
    record { answer = c.refused.ensures ∙ sym (ap packed_result (sym e.answer ∙ c.in-Err.is)); room_after = e.room_after }
