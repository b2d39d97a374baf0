-- `lister::list_whole` meets its contract: with room enough, all of the piece is listed. Assumes nothing.
use mathlib.Core.Path.{◌∙◌}
use lib.ListN.{length}
use Rattle.disassembly.proofs.Theorems.{suffices}
use Rattle.lister.proofs.list_whole.Goals as goal

pub returns : goal.returns
returns c =
    let enough = suffices c.args.place c.args.piece.now in
    record { answer = c.list.ensures.answer ∙ enough.whole (length c.args.room.now) c.requires; room_after = c.list.ensures.room_after ∙ enough.whole_room c.args.room.now c.requires }
