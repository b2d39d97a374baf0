-- `capture::finder::find` meets its contract. Assumes nothing.
use Rattle.capture.proofs.Captures.{no_parts}
use Rattle.capture.proofs.finder.find.Goals as goal

pub capture_of-requires : goal.capture_of-requires
capture_of-requires c = record { five_parts = c.in_ok-five_parts.ensures; version = c.requires.version }

pub returns-in_err-five_parts : goal.returns-in_err-five_parts
returns-in_err-five_parts c = rw c.from_residual.ensures (no_parts _ c.in_err-five_parts.ensures)
