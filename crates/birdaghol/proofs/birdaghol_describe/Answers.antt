-- `birdaghol::birdaghol_describe` meets its contract, by what decode answers. Assumes nothing.
use mathlib.Core.Path.{◌∙◌, sym}
use lib.ListN.{length}
use Rattle.birdaghol.proofs.Fields.{call_accepted, fields_accepted, call_refused, fields_refused}
use Rattle.birdaghol.proofs.birdaghol_describe.Goals as goal

pub returns-in-Ok : goal.returns-in-Ok
returns-in-Ok c =
    let d = sym c.decode.ensures.answer ∙ c.in-Ok.is in
    let f = c.args.fields.now in
    record { answer = c.hand_out.ensures.answer ∙ sym (call_accepted _ _ _ d (length f)); fields_after = c.hand_out.ensures.fields_after ∙ sym (fields_accepted _ _ _ d f) }

pub returns-in-Err : goal.returns-in-Err
returns-in-Err c =
    let d = sym c.decode.ensures.answer ∙ c.in-Err.is in
    let f = c.args.fields.now in
    record { answer = c.refused.ensures ∙ sym (call_refused _ _ _ d (length f)); fields_after = sym (fields_refused _ _ _ d f) }
