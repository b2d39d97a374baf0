-- A tally with one line more, and how many bytes differ. Counts are of 64 bits.
use Rattle.std.specs.Prelude.{ℕ, zero, suc, ◌+◌, ◌%◌, ◌^◌, Bool, cond, not, ◌&&◌, List, length, ◌==◌, nat_lt, slice_index}
use Rattle.checks.specs.declared.Tally.{Tally}
use Rattle.checks.specs.declared.Outcome.{Outcome}
use Rattle.checks.specs.declared.Outcome.TheVariants.{Agreed, Disagreed, Malformed, Comment}

abbrev pub sum : ℕ → ℕ → ℕ
sum a b = (a + b) % 2 ^ 64

abbrev pub with_line : Outcome → Tally → Tally
with_line Agreed t = record { lines = sum t.lines 1; agreed = sum t.agreed 1; malformed = t.malformed }
with_line Disagreed t = record { lines = sum t.lines 1; agreed = t.agreed; malformed = t.malformed }
with_line Malformed t = record { lines = t.lines; agreed = t.agreed; malformed = sum t.malformed 1 }
with_line Comment t = t

-- whether a list has a byte at place i
abbrev pub has_at : List ℕ → ℕ → ℕ → Bool
has_at bytes i byte = nat_lt i (length bytes) && slice_index bytes i == byte

-- how many of a's first n places b hasn't alike
abbrev pub differences : ℕ → List ℕ → List ℕ → ℕ
differences zero a b = 0
differences (suc n) a b = sum (differences n a b) (cond (not (has_at b n (slice_index a n))) 1 0)
