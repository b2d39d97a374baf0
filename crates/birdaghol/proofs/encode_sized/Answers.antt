-- `birdaghol::encode_sized` meets its contract: by the test of the size. Assumes nothing.
use Rattle.birdaghol.proofs.encode_sized.Goals as goal

pub returns-then-element_bytes-products : goal.returns-then-element_bytes-products
returns-then-element_bytes-products c = rw c.if-element_bytes-products.true c.encode.ensures

pub returns : goal.returns
returns c = rw c.if-element_bytes-products.false c.refused.ensures
