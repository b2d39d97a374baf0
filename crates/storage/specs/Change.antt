-- A change of a list of bytes, position by position.
use Rattle.std.specs.Prelude.{List, [], ◌∷◌, ℕ, zero, suc, length}
use Rattle.storage.specs.Bytes.{Store, at}

-- g 0, g 1, .. g (n - 1); by lets, so that the checker computes a byte only when it is read
unfoldable pub tabulate : ℕ → (ℕ → ℕ) → List ℕ
tabulate zero g = []
tabulate (suc n) g = let h = g 0 in let r = tabulate n (λ k. g (suc k)) in h ∷ r

abbrev pub Change : Type 0
Change = Store → Store

-- the change of every position that a list has
unfoldable pub change : Change → List ℕ → List ℕ
change U l = tabulate (length l) (U (at l))
