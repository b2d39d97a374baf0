-- The lines of bytes one behind the other, and the place behind them: what is listed in two parts is listed as a whole.
-- Assumes nothing.
use Rattle.std.proofs.Common.{◌≡◌, ℕ, ◌+◌, ◌*◌, ◌/◌, ◌%◌, ◌^◌, ◌≤◌, List, [], ◌∷◌, ◌++◌, length, sym, refl, ap, ◌∙◌, append_assoc, arith, length-append}
use native.Mathlib.Nat.{mod-add-mod}
use Rattle.disassembly.specs.Listing.{line, word_of, word_lines}
use Rattle.disassembly.specs.Pieces.{pending, lines_for, place_behind, after, longest_line}
use Rattle.disassembly.specs.declared.Begun.{Begun}
use Rattle.disassembly.specs.declared.Begun.TheVariants.{Nothing, One, Two, Three}
use Rattle.disassembly.proofs.Lines.{line_short, line_mod}

-- ---- bytes of no whole word: nothing is written, and all of them are begun
pub no_lines : (address : ℕ) (b : Begun) → word_lines address (pending b) ≡ []
unfolding word_lines
no_lines address Nothing = refl
no_lines address (One x) = refl
no_lines address (Two x y) = refl
no_lines address (Three x y z) = refl

pub no_words : (address : ℕ) (b : Begun) → place_behind address (pending b) ≡ record { address = address; begun = b }
unfolding place_behind
no_words address Nothing = refl
no_words address (One x) = refl
no_words address (Two x y) = refl
no_words address (Three x y z) = refl

-- ---- addresses count modulo 2^32
pub lines_mod : (address : ℕ) (bytes : List ℕ) → word_lines (address % 2 ^ 32) bytes ≡ word_lines address bytes
unfolding word_lines
lines_mod address (a ∷ b ∷ c ∷ d ∷ bytes) =
    let e : word_lines (address % 2 ^ 32 + 4) bytes ≡ word_lines (address + 4) bytes =
    sym (lines_mod (address % 2 ^ 32 + 4) bytes)
    ∙ ap (λ (n : ℕ). word_lines n bytes) (mod-add-mod address (2 ^ 32) 4)
    ∙ lines_mod (address + 4) bytes in
    rw (e, line_mod address (word_of a b c d))
lines_mod address (a ∷ b ∷ c ∷ []) = refl
lines_mod address (a ∷ b ∷ []) = refl
lines_mod address (a ∷ []) = refl
lines_mod address [] = refl

-- ---- two parts: the second goes on where the first ended
pub lines_split : (address : ℕ) (s t : List ℕ) → word_lines address (s ++ t) ≡ word_lines address s ++ lines_for (place_behind address s) t
unfolding word_lines place_behind
lines_split address (a ∷ b ∷ c ∷ d ∷ s) t =
    let n = address + 4 in
    let e : word_lines n (s ++ t) ≡ word_lines n s ++ lines_for (place_behind (n % 2 ^ 32) s) t =
    sym (lines_mod n (s ++ t)) ∙ lines_split (n % 2 ^ 32) s t ∙ rw (lines_mod n s) in
    rw e (sym (append_assoc (line address (word_of a b c d)) (word_lines n s) (lines_for (place_behind (n % 2 ^ 32) s) t)))
lines_split address (a ∷ b ∷ c ∷ []) t = refl
lines_split address (a ∷ b ∷ []) t = refl
lines_split address (a ∷ []) t = refl
lines_split address [] t = refl

pub place_split : (address : ℕ) (s t : List ℕ) → place_behind address (s ++ t) ≡ after (place_behind address s) t
unfolding place_behind
place_split address (a ∷ b ∷ c ∷ d ∷ s) t = place_split ((address + 4) % 2 ^ 32) s t
place_split address (a ∷ b ∷ c ∷ []) t = refl
place_split address (a ∷ b ∷ []) t = refl
place_split address (a ∷ []) t = refl
place_split address [] t = refl

-- ---- how many lines there are, and how many bytes are begun
pub lines_short : (address : ℕ) (bytes : List ℕ) → length (word_lines address bytes) ≤ longest_line * (length bytes / 4)
unfolding word_lines
lines_short address (a ∷ b ∷ c ∷ d ∷ bytes) =
    let w = word_of a b c d in
    omega (arith, length-append (line address w) (word_lines (address + 4) bytes), line_short address w, lines_short (address + 4) bytes)
lines_short address (a ∷ b ∷ c ∷ []) = omega arith
lines_short address (a ∷ b ∷ []) = omega arith
lines_short address (a ∷ []) = omega arith
lines_short address [] = omega arith

pub begun_length : (address : ℕ) (bytes : List ℕ) → length (pending (place_behind address bytes).begun) ≡ length bytes % 4
unfolding place_behind
begun_length address (a ∷ b ∷ c ∷ d ∷ bytes) = begun_length ((address + 4) % 2 ^ 32) bytes ∙ omega arith
begun_length address (a ∷ b ∷ c ∷ []) = refl
begun_length address (a ∷ b ∷ []) = refl
begun_length address (a ∷ []) = refl
begun_length address [] = refl

-- ---- whole words move the address by their bytes, and begin none
pub place_whole : (address : ℕ) (bytes : List ℕ) → length bytes % 4 ≡ 0
    → place_behind (address % 2 ^ 32) bytes ≡ record { address = (address + length bytes) % 2 ^ 32; begun = Nothing }
unfolding place_behind
place_whole address (a ∷ b ∷ c ∷ d ∷ bytes) h =
    let e : address + 4 + length bytes ≡ address + length (a ∷ b ∷ c ∷ d ∷ bytes) = omega arith in
    rw (mod-add-mod address (2 ^ 32) 4, ← e) (place_whole (address + 4) bytes (omega arith))
place_whole address (a ∷ b ∷ c ∷ []) h = absurd (omega arith)
place_whole address (a ∷ b ∷ []) h = absurd (omega arith)
place_whole address (a ∷ []) h = absurd (omega arith)
place_whole address [] h = let e : address ≡ address + 0 = omega arith in ap (λ (n : ℕ). record { address = n % 2 ^ 32; begun = Nothing }) e
