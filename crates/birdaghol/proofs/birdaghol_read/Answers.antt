-- `birdaghol::birdaghol_read` meets its contract: read's answer, packed. Assumes nothing.
use mathlib.Core.Path.{◌∙◌, sym, ap}
use Rattle.birdaghol.specs.Calls.{packed_result}
use Rattle.birdaghol.proofs.Packing.{value_alone}
use Rattle.birdaghol.proofs.birdaghol_read.Goals as goal

pub returns-in-Ok : goal.returns-in-Ok
returns-in-Ok c = value_alone _ ∙ sym (ap packed_result (sym c.read.ensures.answer ∙ c.in-Ok.is))

pub returns-in-Err : goal.returns-in-Err
returns-in-Err c = c.refused.ensures ∙ sym (ap packed_result (sym c.read.ensures.answer ∙ c.in-Err.is))
