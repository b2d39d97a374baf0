-- `birdaghol::birdaghol_encode_quarter` meets its contract: its operation and its sources are as its arguments say.
-- Assumes nothing.
use Rattle.birdaghol.proofs.birdaghol_encode_quarter.Goals as goal

pub returns : goal.returns
returns c = rw (c.source_of-2.ensures, c.source_of.ensures, c.operation_of-op.ensures) at c.encode_sized.ensures
