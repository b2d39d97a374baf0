-- `pieces::lines_room` meets its contract. The law is given its type and level: found by unification, they would have antt count
-- the list. Assumes nothing.
use Rattle.std.proofs.Common.{ℕ, sym}
use lib.ListN.{length-replicate}
use Rattle.pieces.proofs.lines_room.Goals as goal

pub returns : goal.returns
returns c = sym (length-replicate {0} {A = ℕ} 660066 0)
