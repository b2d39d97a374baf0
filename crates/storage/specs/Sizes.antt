-- Vector lengths and buffer sizes (document 01, "Storage"); VB is the streaming vector length in bytes.
use Rattle.std.specs.Prelude.{Bool, cond, ◌||◌, List, [], ◌∷◌, ℕ, zero, suc, ◌*◌, eqb}

abbrev pub legal : ℕ → Bool
legal vb = eqb vb 16 || eqb vb 32 || eqb vb 64 || eqb vb 128 || eqb vb 256

-- the legal lengths below n, falling
abbrev pub legal_below : ℕ → List ℕ
legal_below zero = []
legal_below (suc n) = cond (legal n) (n ∷ legal_below n) (legal_below n)

-- 32 vector registers, 16 predicates of a bit for each vector byte, and VB rows of ZA
abbrev pub z_size : ℕ → ℕ
z_size vb = 32 * vb

abbrev pub p_size : ℕ → ℕ
p_size vb = 2 * vb

abbrev pub za_size : ℕ → ℕ
za_size vb = vb * vb
