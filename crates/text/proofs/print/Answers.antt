-- `text::print` meets its contract, by what decode answers. Assumes nothing.
use mathlib.Core.Path.{◌∙◌, sym, ap}
use lib.ListN.{length}
use Rattle.isa.specs.Refusals.{missing_beside, number_in, value_in}
use Rattle.isa.proofs.Refusals.{handed_on}
use Rattle.isa.proofs.Theorems.{accepted_in_range}
use Rattle.text.proofs.Rooms.{print_accepted, room-accepted, print_refused, unfilled}
use Rattle.text.proofs.print.Goals as goal

pub print_line-requires : goal.print_line-requires
print_line-requires c = accepted_in_range _ _ _ (sym c.in_ok-i.ensures.answer)

pub returns : goal.returns
returns c =
    let d = sym c.in_ok-i.ensures.answer in
    let p = c.print_line.ensures in
    let e = p.answer ∙ sym (print_accepted _ _ _ _ d) in
    record { answer = e; room_after = p.room_after ∙ sym (room-accepted _ _ _ _ d); number = ap number_in e; missing = ap missing_beside e; len = ap value_in e }

pub returns-in_err-i : goal.returns-in_err-i
returns-in_err-i c =
    let d = sym c.in_err-i.ensures.answer in
    let room = c.args.room.now in
    let e = handed_on c.from_residual.ensures.1 ∙ sym (print_refused _ _ (length room) _ d) in
    record { answer = e; room_after = sym (unfilled _ _ room _ d); number = ap number_in e; missing = ap missing_beside e; len = ap value_in e }
