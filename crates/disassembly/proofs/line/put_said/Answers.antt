-- `disassembly::line::put_said` meets its contract, by what print answers for a room that holds every text. Assumes nothing.
use Rattle.std.proofs.Common.{[], sym, ◌∙◌, arith}
use Rattle.disassembly.proofs.Prints.{printed_there, printed-most, refused_there, refused_put}
use Rattle.disassembly.proofs.line.put_said.Goals as goal

pub overflow_add-result : goal.overflow_add-result
overflow_add-result c = omega (arith, c.requires, printed-most c.args.word c.args.room.now c.args.at [] c.requires _ (sym c.print.ensures.answer ∙ c.in-Ok.is))

-- or a refusal, and the room is as it was
pub put_refusal-requires : goal.put_refusal-requires
put_refusal-requires c =
    let (same, h) = refused_there c.args.word c.args.room.now c.args.at _ c.requires _ (sym c.print.ensures.answer ∙ c.in-Err.is) c.print.ensures.room_after in
    (rw same (omega (arith, c.requires)), h)

-- print answers a length, and the text is there
pub returns-in-Ok : goal.returns-in-Ok
returns-in-Ok c = printed_there c.args.word c.args.room.now c.args.at _ c.requires _ (sym c.print.ensures.answer ∙ c.in-Ok.is) c.print.ensures.room_after

pub returns-in-Err : goal.returns-in-Err
returns-in-Err c = refused_put c.args.word c.args.room.now c.args.at _ c.requires _ (sym c.print.ensures.answer ∙ c.in-Err.is) c.print.ensures.room_after c.put_refusal.ensures
