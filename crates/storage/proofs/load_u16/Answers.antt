-- `storage::load_u16` meets its contract. Assumes nothing.
use Rattle.std.proofs.Common.{arith}
use Rattle.storage.specs.Bytes.{at}
use Rattle.storage.proofs.Bytes.{word_through}
use Rattle.storage.proofs.load_u16.Goals as goal

pub returns : goal.returns
returns c = omega (arith, c.from_le_bytes.ensures, word_through 1 (at c.args.s.now) c.args.i)
