-- Places in a list of rows of a legal length. Assumes nothing.
use Rattle.std.proofs.Common.{◌≡◌, ℕ, ◌+◌, ◌*◌, ◌<◌, ◌≤◌, true, mul-le-mul_left}
use lib.Arith.{digits_lt}
use Rattle.storage.specs.Sizes.{legal}
use Rattle.storage.proofs.Sizes.{legal-length}

-- byte e of row r, of count rows of vb bytes, in one list
pub record BytePlace (count vb r e : ℕ) : Type 0 where
  pub inside : r * vb + e < count * vb
  pub small : count * vb ≤ count * 256

pub byte_place : {count vb r e : ℕ} → legal vb ≡ true → r < count → e < vb → BytePlace count vb r e
byte_place {count} {vb} l h k = record { inside = digits_lt h k; small = mul-le-mul_left count (legal-length vb l).most }
