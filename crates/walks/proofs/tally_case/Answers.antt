-- `walks::tally_case` meets its contract: what is drawn may be updated, and no buffer's length changes. Assumes nothing.
use Rattle.std.proofs.Common.{rules}
use Rattle.walks.proofs.Rooms.{kept, updatable, alike}
use Rattle.walks.proofs.tally_case.Goals as goal

pub tally_update-requires : goal.tally_update-requires
tally_update-requires c =
    let d = c.draw-o.ensures in record { updatable = updatable d.room d.drawn; plain_len = alike d.room }

pub returns : goal.returns
returns c = kept c.requires (search rules) (search rules) (search rules) (search rules) (search rules)
