-- A kernel as text: its lines, what comes of each, and how many come to words or are refused.
use Rattle.std.specs.Prelude.{Bool, true, cond, ◌&&◌, ◌||◌, List, [], ◌∷◌, ℕ, eqb, get_or, Option, Some, None, Result, Ok, Err}
use Rattle.isa.specs.declared.Refusal.{Refusal}
use Rattle.isa.specs.Table.{all_flags}
use Rattle.text.specs.Spelling.{Text}
use Rattle.reader.specs.Answers.{read_of}
use Rattle.checks.specs.Tally.{sum}

-- a byte in front of the first line
abbrev pub with_byte : ℕ → List Text → List Text
with_byte b [] = (b ∷ []) ∷ []
with_byte b (t ∷ ts) = (b ∷ t) ∷ ts

-- a line feed (10) ends a line; what stands behind the last is a line too, if anything does
unfoldable pub lines : Text → List Text
lines [] = []
lines (b ∷ t) = cond (eqb b 10) ([] ∷ lines t) (with_byte b (lines t))

-- ---- what comes of a line: a word, or none where the line is left out; or a refusal
abbrev pub Assembled : Type 0
Assembled = Result (Option ℕ) Refusal

abbrev pub is_space : ℕ → Bool
is_space b = eqb b 32 || eqb b 9

-- nothing but spaces and tabs
abbrev pub is_blank : Text → Bool
is_blank [] = true
is_blank (b ∷ t) = is_space b && is_blank t

-- // (47) at its start
abbrev pub is_comment : Text → Bool
is_comment t = eqb (get_or t 0 0) 47 && eqb (get_or t 1 0) 47

abbrev pub as_read : Result ℕ Refusal → Assembled
as_read (Ok w) = Ok (Some w)
as_read (Err r) = Err r

-- every feature is on
abbrev pub assembled : Text → Assembled
assembled t = cond (is_blank t) (Ok None) (cond (is_comment t) (Ok None) (as_read (read_of all_flags t)))

-- ---- how many lines come to words, and how many are refused: one more behind n, modulo 2^64, as the program counts
abbrev pub words_after : ℕ → Assembled → ℕ
words_after n (Ok None) = n
words_after n (Ok (Some w)) = sum n 1
words_after n (Err r) = n

abbrev pub refused_after : ℕ → Assembled → ℕ
refused_after n (Ok None) = n
refused_after n (Ok (Some w)) = n
refused_after n (Err r) = sum n 1

abbrev pub count_over : (ℕ → Assembled → ℕ) → ℕ → List Text → ℕ
count_over f n [] = n
count_over f n (t ∷ ts) = count_over f (f n (assembled t)) ts
