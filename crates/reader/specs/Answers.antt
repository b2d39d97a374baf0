-- What read answers (document 02, C-11 and C-15), by the spelling of text/specs alone: the word that has a line is looked for
-- among all.
use Rattle.std.specs.Prelude.{Bool, true, false, not, cond, ◌&&◌, List, [], ◌∷◌, ℕ, zero, suc, ◌^◌, eqb, Err, Ok, Result}
use Rattle.std.proofs.Math.Option.{Option, none, some}
use Rattle.isa.specs.Refusals.{number_in, missing_beside, value_in, Test, first_failure}
use Rattle.isa.specs.Answers.{describe, missing, absent, flags_test}
use Rattle.isa.specs.declared.Refusal.{Refusal}
use Rattle.isa.specs.declared.Refusal.TheVariants.{FeatureOff, NotText}
use Rattle.text.specs.Spelling.{Text}
use Rattle.text.specs.Printing.{text_of}

-- ---- the word of a line
abbrev pub same_text : Text → Text → Bool
same_text [] [] = true
same_text [] (b ∷ t) = false
same_text (a ∷ s) [] = false
same_text (a ∷ s) (b ∷ t) = eqb a b && same_text s t

-- w is listed, and its text is this
abbrev pub has_text : ℕ → Text → Bool
has_text w t = not (absent (describe w)) && same_text (text_of w) t

-- the highest word below n that has this text
unfoldable pub word_below : ℕ → Text → Option ℕ
word_below zero t = none
word_below (suc w) t = cond (has_text w t) (some w) (word_below w t)

-- the word that has this text: no two have one (`no_two_words`, proofs/Theorems.antt)
unfoldable pub word_with : Text → Option ℕ
word_with t = word_below (2 ^ 32) t

-- ---- tests 1, 13, 8
abbrev pub no_word : Option ℕ → Bool
no_word none = true
no_word (some w) = false

-- nothing where there is no word, as 13 is tested before
abbrev pub missing_of : ℕ → Option ℕ → ℕ
missing_of flags none = 0
missing_of flags (some w) = missing flags w

abbrev pub read_tests : ℕ → Option ℕ → List Test
read_tests flags o =
    flags_test flags
    ∷ record { fails = no_word o; gives = NotText }
    ∷ record { fails = not (eqb (missing_of flags o) 0); gives = FeatureOff (missing_of flags o) }
    ∷ []

-- a refusal, or the word; the last clause is there for form, as a line without a word fails test 13
abbrev pub answered : Option Refusal → Option ℕ → Result ℕ Refusal
answered (some r) o = Err r
answered none (some w) = Ok w
answered none none = Err NotText

unfoldable pub read_of : ℕ → Text → Result ℕ Refusal
read_of flags t = answered (first_failure (read_tests flags (word_with t))) (word_with t)

-- the number, the sum and the word of that answer
abbrev pub read_number : ℕ → Text → ℕ
read_number flags t = number_in (read_of flags t)

abbrev pub read_missing : ℕ → Text → ℕ
read_missing flags t = missing_beside (read_of flags t)

abbrev pub read_word : ℕ → Text → ℕ
read_word flags t = value_in (read_of flags t)
