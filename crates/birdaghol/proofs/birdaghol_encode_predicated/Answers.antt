-- `birdaghol::birdaghol_encode_predicated` meets its contract: its operation is as its arguments say. Assumes nothing.
use Rattle.birdaghol.proofs.birdaghol_encode_predicated.Goals as goal

pub returns : goal.returns
returns c = rw c.operation_of-op.ensures at c.encode_sized.ensures
