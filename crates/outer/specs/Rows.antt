-- Rows of ZA cleared, byte by byte: the words of the clearing walk's own contracts.
use Rattle.std.specs.Prelude.{◌≡◌, ℕ, ◌/◌, Bool, cond, List, length}
use Rattle.storage.specs.Bytes.{at}

-- za is before with the rows of `which` cleared
pub record Cleared (vb : ℕ) (which : ℕ → Bool) (before za : List ℕ) : Type 0 where
  pub long : length za ≡ length before
  pub bytes : (p : ℕ) → at za p ≡ cond (which (p / vb)) 0 (at before p)
