-- `disassembly::finish` meets its contract: there is no odd end, no room for its line, or both. Assumes nothing.
use Rattle.std.proofs.Common.{ap, ◌∙◌, arith}
use Rattle.std.specs.Prelude.{Ok}
use Rattle.isa.specs.Refusals.{missing_beside, number_in, value_in}
use Rattle.disassembly.proofs.Ends.{no_end, end_refused, end_put}
use Rattle.disassembly.proofs.finish.Goals as goal

pub returns-then-n-eq0 : goal.returns-then-n-eq0
returns-then-n-eq0 c =
    let (e, f) = no_end c.args.place c.args.room.now (omega (arith, c.count-n.ensures.answer)) in
    record { answer = e; room_after = f; number = ap number_in e; missing = ap missing_beside e; len = ap value_in e }

pub returns-then-room-lt-END_LINE : goal.returns-then-room-lt-END_LINE
returns-then-room-lt-END_LINE c =
    let (e, f) =
    end_refused c.args.place c.args.room.now (λ z. omega (arith, c.count-n.ensures.answer)) c.if-room-lt-END_LINE.true in
    record { answer = e; room_after = f; number = ap number_in e; missing = ap missing_beside e; len = ap value_in e }

pub returns : goal.returns
returns c =
    let n = c.count-n.ensures.answer in
    let p = c.put.ensures in
    let (r, t) = end_put c.args.place c.args.room.now (λ z. omega (arith, n)) c.if-room-lt-END_LINE.false in
    let e = ap Ok p.ends ∙ r in
    record {
      answer = e;
      room_after = p.text ∙ rw n t;
      number = ap number_in e;
      missing = ap missing_beside e;
      len = ap value_in e;
    }
