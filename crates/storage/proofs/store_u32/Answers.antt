-- `storage::store_u32` meets its contract. Assumes nothing.
use Rattle.std.proofs.Common.{◌∙◌, arith}
use Rattle.storage.proofs.Bytes.{part_stored}
use Rattle.storage.proofs.store_u32.Goals as goal

pub returns : goal.returns
returns c = part_stored 4 _ _ _ _ _ c.requires (omega arith) (c.copy_from_slice.ensures.after ∙ c.to_le_bytes.ensures)
