-- `lister::put_end` meets its contract: the room holds the line, so that finish does not refuse it. Assumes nothing.
use Rattle.std.proofs.Common.{◌≡◌, ◌∙◌, refl, List, ◌++◌, ℕ, ◌≤◌, arith, length, drop}
use Rattle.std.specs.Prelude.{Result, Ok, Err}
use Rattle.std.specs.Result.{result_unwrap_or}
use Rattle.isa.specs.declared.Refusal.{Refusal}
use Rattle.isa.specs.Refusals.{value_in}
use Rattle.disassembly.specs.Pieces.{end_for, end_room, room_finished, finish_length}
use Rattle.disassembly.specs.declared.Place.{Place}
use Rattle.disassembly.proofs.Theorems.{finishes}
use Rattle.lister.proofs.put_end.Goals as goal

-- what finish puts into the room, and how much
finished : (place : Place) (room : List ℕ) → end_room ≤ length room
    → (room_finished place room ≡ end_for place ++ drop (length (end_for place)) room) × (finish_length place (length room) ≡ length (end_for place))
finished place room h = let f = finishes place room in f.written (f.accepts.1 (omega (arith, f.short, h)))

or_zero : (r : Result ℕ Refusal) → result_unwrap_or r 0 ≡ value_in r
or_zero (Ok n) = refl
or_zero (Err r) = refl

pub returns-clause-answer : goal.returns-clause-answer
returns-clause-answer c = c.unwrap_or.ensures ∙ or_zero c.finish.result ∙ c.finish.ensures.len ∙ (finished c.args.place c.args.room.now c.requires).1

pub returns-clause-room_after : goal.returns-clause-room_after
returns-clause-room_after c = c.finish.ensures.room_after ∙ (finished c.args.place c.args.room.now c.requires).0
