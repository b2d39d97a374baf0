-- `outer::clear::clear_tiles` meets its contract: after some rows, those of the mask among them are cleared.
-- Assumes nothing.
use Rattle.outer.specs.Rows.{Cleared}
use Rattle.outer.proofs.Rows.{below}
use Rattle.outer.proofs.clear.clear_tiles.Given as goal

abbrev pub invariant-loop-row : goal.invariant-loop-row
invariant-loop-row l = Cleared l.vb (below l.mask l.row) l.initial.za l.za
