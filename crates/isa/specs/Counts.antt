-- How many words decode accepts (document 01's count of its own five lines, and C-14's of all); proofs/Counts.antt proves
-- both of the words themselves.
use Rattle.std.specs.Prelude.{◌≡◌, Bool, false, cond, ◌&&◌, ◌||◌, List, [], ◌∷◌, ℕ, zero, suc, ◌+◌, ◌^◌, ◌≤◌, eqb}
use Rattle.isa.specs.Row.{fixed, field, Row, matches}
use Rattle.isa.specs.Table.{bit, all_flags, lacking, Entry, base_table, table}
use Rattle.isa.specs.Answers.{decode_number}

-- how many numbers below n pass a test
unfoldable pub count_below : ℕ → (ℕ → Bool) → ℕ
count_below zero test = 0
count_below (suc n) test = count_below n test + bit (test n)

-- decode gives a word 0
abbrev pub is_accepted : ℕ → ℕ → Bool
is_accepted flags w = eqb (decode_number flags w) 0

-- and the word is of one of these lines
abbrev pub is_of : List Entry → ℕ → Bool
is_of [] w = false
is_of (e ∷ es) w = matches e.row w || is_of es w

abbrev pub is_accepted_of : List Entry → ℕ → ℕ → Bool
is_accepted_of es flags w = is_accepted flags w && is_of es w

-- ---- what the rows allow: a line that lacks no feature has a word for each value of its fields' bits
abbrev pub free_bits : Row → ℕ
free_bits [] = 0
free_bits (fixed k v ∷ r) = free_bits r
free_bits (field n k ∷ r) = k + free_bits r

abbrev pub words_of : ℕ → List Entry → ℕ
words_of flags [] = 0
words_of flags (e ∷ es) = cond (eqb (lacking flags e.needs) 0) (2 ^ free_bits e.row) 0 + words_of flags es

-- ---- the counts: with any legal flags, and the papers' two
pub record Counted : Type 0 where
  pub by_rows : (flags : ℕ) → flags ≤ all_flags → count_below (2 ^ 32) (is_accepted flags) ≡ words_of flags table
  pub of_base : count_below (2 ^ 32) (is_accepted_of base_table 7) ≡ 6316288
  pub of_all : count_below (2 ^ 32) (is_accepted 15) ≡ 7368960
