-- `birdaghol::refusal_of` meets its contract, by the outcome. Assumes nothing.
use mathlib.Core.Path.{◌∙◌, sym, ap}
use Rattle.std.specs.Prelude.{Result}
use Rattle.isa.specs.declared.Refusal.{Refusal}
use Rattle.isa.specs.Refusals.{refusal_in}
use Rattle.birdaghol.specs.Calls.{answer}
use Rattle.birdaghol.proofs.refusal_of.Goals as goal

pub returns-in-Ok : goal.returns-in-Ok
returns-in-Ok c = rw c.in-Ok.is

pub returns-in-Err : goal.returns-in-Err
returns-in-Err c = c.refused.ensures ∙ sym (ap (λ (o : Result Unit Refusal). answer 0 (refusal_in o)) c.in-Err.is)
