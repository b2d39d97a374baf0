-- A test of every entry of a table, computed once. Assumes nothing.
use mathlib.Core.Path.{◌≡◌}
use mathlib.Core.Bool.{Bool, true, ◌&&◌}
use mathlib.Core.List.{List, [], ◌∷◌}
use Prim.Native.Nat.{ℕ, zero, suc, ◌+◌, ◌<◌}
use native.Mathlib.Nat.{add-zero, zero-add}
use native.Mathlib.Omega.{arith}
use lib.ListN.{length, get_or}
use Rattle.isa.proofs.Rows.{both}

-- f of each entry and its place, counted from i
abbrev pub every_entry : (ℕ → ℕ → Bool) → ℕ → List ℕ → Bool
every_entry f i [] = true
every_entry f i (x ∷ xs) = f i x && every_entry f (suc i) xs

from : (f : ℕ → ℕ → Bool) (xs : List ℕ) (i k : ℕ) → every_entry f i xs ≡ true → k < length xs → f (i + k) (get_or xs k 0) ≡ true
from f [] i k p h = absurd (omega arith)
from f (x ∷ xs) i zero p h = rw (add-zero i) (both (f i x) (every_entry f (suc i) xs) p).0
from f (x ∷ xs) i (suc k) p h =
    let e : i + suc k ≡ suc i + k = omega arith in
    rw e (from f xs (suc i) k (both (f i x) (every_entry f (suc i) xs) p).1 (omega arith))

pub entry : (f : ℕ → ℕ → Bool) (xs : List ℕ) (k : ℕ) → every_entry f 0 xs ≡ true → k < length xs → f k (get_or xs k 0) ≡ true
entry f xs k p h = rw (zero-add k) at (from f xs 0 k p h)
