-- The bytes begun, and those of a piece behind them. Assumes nothing.
use Rattle.std.proofs.Common.{◌≡◌, ℕ, ◌+◌, ◌<◌, ◌≤◌, List, ◌∷◌, length, get_or, drop, add_assoc, add-one, arith, drop-cons}
use Rattle.disassembly.specs.Pieces.{pending}
use Rattle.disassembly.specs.declared.Begun.{Begun}
use Rattle.disassembly.specs.declared.Begun.TheVariants.{Nothing, One, Two, Three}

pub begun_short : (b : Begun) → length (pending b) ≤ 3
begun_short Nothing = omega arith
begun_short (One x) = omega arith
begun_short (Two x y) = omega arith
begun_short (Three x y z) = omega arith

-- ---- bytes from i on
byte_more : (s : List ℕ) (i : ℕ) → i < length s → drop i s ≡ get_or s i 0 ∷ drop (i + 1) s
byte_more s i h = rw (add-one i) (drop-cons s i 0 h)

module _ (s : List ℕ) (i : ℕ) where
  -- as many as stand there, and what is behind them
  two_bytes : i + 2 ≤ length s → drop i s ≡ get_or s i 0 ∷ get_or s (i + 1) 0 ∷ drop (i + 2) s
  two_bytes h = let b = rw add_assoc at (byte_more s (i + 1) (omega arith)) in rw (byte_more s i (omega arith), b)

  three_bytes : i + 3 ≤ length s → drop i s ≡ get_or s i 0 ∷ get_or s (i + 1) 0 ∷ get_or s (i + 2) 0 ∷ drop (i + 3) s
  three_bytes h = let b = rw add_assoc at (byte_more s (i + 2) (omega arith)) in rw (two_bytes (omega arith), b)

  pub four_bytes : i + 4 ≤ length s → drop i s ≡ get_or s i 0 ∷ get_or s (i + 1) 0 ∷ get_or s (i + 2) 0 ∷ get_or s (i + 3) 0 ∷ drop (i + 4) s
  four_bytes h = let b = rw add_assoc at (byte_more s (i + 3) (omega arith)) in rw (three_bytes (omega arith), b)
