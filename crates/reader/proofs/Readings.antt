-- What read answers, by the word that is guessed, and what printing that word tells. Assumes nothing.
use mathlib.Core.Path.{◌≡◌, ◌∙◌, sym, ap, refl}
use mathlib.Core.Bool.{Bool, true, false, not, cond}
use mathlib.Core.List.{List}
use mathlib.Core.Option.{Option, none, some}
use Prim.Native.Nat.{ℕ, ◌≤◌, ◌<◌, ◌^◌}
use native.Mathlib.Omega.{arith}
use lib.Dec.{eqb, ltb}
use lib.ListN.{length, take}
use borrow.Author.Tests.{lt-ltb, le-ltb, ltb-true, ltb-false}
use Rattle.std.specs.Prelude.{Err, Ok, Result}
use Rattle.isa.specs.Refusals.{number_in, refusal_in, value_in}
use Rattle.isa.specs.Table.{all_flags}
use Rattle.isa.specs.Answers.{describe, missing, decided, decode_of, decode_refusal, encode_of}
use Rattle.isa.specs.declared.Instruction.{Instruction}
use Rattle.isa.specs.declared.Refusal.{Refusal}
use Rattle.isa.specs.declared.Refusal.TheVariants.{Flags, FeatureOff, NotText}
use Rattle.isa.proofs.Answers.{features_on, encoded, decode_passed}
use Rattle.isa.proofs.Lines.{word-described}
use Rattle.isa.proofs.Theorems.{decodes, described_in_range}
use Rattle.text.specs.Spelling.{Text, spelling}
use Rattle.text.specs.Printing.{text_of, print_of, room_after}
use Rattle.text.specs.Claims.{Holds}
use Rattle.text.proofs.Rooms.{print_accepted, print_refused}
use Rattle.text.proofs.Lengths.{line-between}
use Rattle.text.proofs.Theorems.{prints}
use Rattle.reader.specs.Answers.{same_text, has_text, word_with, answered, read_of}
use Rattle.reader.specs.Guess.{guess_of, word_unless, verdict}
use Rattle.reader.proofs.Words.{text_had, guessed, with_some, with_none}

-- ---- the ways that read goes
pub read_flags : (flags : ℕ) (t : Text) → all_flags < flags → read_of flags t ≡ Err Flags
unfolding read_of
read_flags flags t h = rw (lt-ltb all_flags flags h)

pub read_none : (flags : ℕ) (t : Text) → flags ≤ all_flags → word_with t ≡ none → read_of flags t ≡ Err NotText
unfolding read_of
read_none flags t h p = rw (le-ltb all_flags flags h, p)

-- what test 8 leaves of a word that has the line
abbrev pub allowed : ℕ → ℕ → Result ℕ Refusal
allowed lacks w = cond (eqb lacks 0) (Ok w) (Err (FeatureOff lacks))

pub read_some : (flags w : ℕ) (t : Text) → flags ≤ all_flags → word_with t ≡ some w → read_of flags t ≡ allowed (missing flags w) w
unfolding read_of
read_some flags w t h p = rw (le-ltb all_flags flags h, p) (go (eqb (missing flags w) 0) (FeatureOff (missing flags w)))
  where
    go : (b : Bool) (r : Refusal) → answered (cond (not b) (some r) none) (some w) ≡ cond b (Ok w) (Err r)
    go true r = refl
    go false r = refl

-- decode's refusal of a listed word with legal flags is test 8's alone
allowed_is : (flags w : ℕ) (i : Instruction) → flags ≤ all_flags → describe w ≡ some i → word_unless (decode_refusal flags w) w ≡ allowed (missing flags w) w
unfolding decode_of
allowed_is flags w i h d = rw (le-ltb all_flags flags h, d) (go (eqb (missing flags w) 0) (FeatureOff (missing flags w)))
  where
    go : (b : Bool) (r : Refusal) → word_unless (refusal_in (decided (cond (not b) (some r) none) (some i))) w ≡ cond b (Ok w) (Err r)
    go true r = refl
    go false r = refl

-- ---- no other word than the guessed one has the line
pub guess_refused : (flags : ℕ) (t : Text) (r : Refusal) → flags ≤ all_flags → encode_of (guess_of t) ≡ Err r → Err NotText ≡ read_of flags t
guess_refused flags t r h e =
    sym (read_none flags t h (with_none t (λ v k p. let g = guessed v t k p in let z : ◌≡◌ {A = ℕ} 0 1 = cc in omega arith)))

pub guess_word : (flags w : ℕ) (t : Text) → flags ≤ all_flags → encode_of (guess_of t) ≡ Ok w
    → verdict w (has_text w t) (decode_refusal flags w) ≡ read_of flags t
guess_word flags w t h e = go (has_text w t) refl
  where
    fits : w < 2 ^ 32
    fits = let (r, k) = encoded (guess_of t) w e in rw k (word-described (guess_of t) r).fits

    go : (b : Bool) → has_text w t ≡ b → verdict w b (decode_refusal flags w) ≡ read_of flags t
    go true p =
        let (i, d) = (text_had w t p).0 in
        allowed_is flags w i h d ∙ sym (read_some flags w t h (with_some w t fits p))
    go false p =
        sym (read_none flags t h
        (with_none t (λ v k q.
        let g = guessed v t k q in
        let s : v ≡ w = cc in
        let y : true ≡ false = sym q ∙ rw s p in
        let z : ◌≡◌ {A = ℕ} 0 1 = cc in
        omega arith)))

-- so read's answer can be computed, without the search
abbrev by_encoded : ℕ → Text → Result ℕ Refusal → Result ℕ Refusal
by_encoded flags t (Ok w) = verdict w (has_text w t) (decode_refusal flags w)
by_encoded flags t (Err r) = Err NotText

abbrev pub computed : ℕ → Text → Result ℕ Refusal
computed flags t = cond (ltb all_flags flags) (Err Flags) (by_encoded flags t (encode_of (guess_of t)))

pub read_computed : (flags : ℕ) (t : Text) → read_of flags t ≡ computed flags t
read_computed flags t = by_flags (ltb all_flags flags) refl
  where
    by_word : flags ≤ all_flags → (e : Result ℕ Refusal) → encode_of (guess_of t) ≡ e → read_of flags t ≡ by_encoded flags t e
    by_word h (Ok w) p = sym (guess_word flags w t h p)
    by_word h (Err r) p = sym (guess_refused flags t r h p)

    by_flags : (b : Bool) → ltb all_flags flags ≡ b → read_of flags t ≡ cond b (Err Flags) (by_encoded flags t (encode_of (guess_of t)))
    by_flags true p = read_flags flags t (ltb-true all_flags flags p)
    by_flags false p = by_word (ltb-false all_flags flags p) (encode_of (guess_of t)) refl

-- ---- printing with every feature on
pub decodes_all : (w : ℕ) (i : Instruction) → describe w ≡ some i → decode_of all_flags w ≡ Ok i
unfolding decode_of
decodes_all w i p = rw (p, (decodes all_flags w).missing_none.1 (features_on w))

-- a text that was printed is the word's
module _ (w n : ℕ) (room : List ℕ) (e : print_of all_flags w (length room) ≡ Ok n) where
  held : Holds (text_of w) n room (room_after all_flags w room)
  held = rw (ap value_in e) at ((prints all_flags w room).printed (ap number_in e))

  pub printed_fits : n ≤ length (room_after all_flags w room)
  printed_fits = let (d, l) = (prints all_flags w room).accepts.0 (ap number_in e) in let h = held in omega arith

  pub printed-same : (t : Text) → same_text (take n (room_after all_flags w room)) t ≡ has_text w t
  printed-same t = go (decode_of all_flags w) refl
    where
      go : (d : Result Instruction Refusal) → decode_of all_flags w ≡ d → same_text (take n (room_after all_flags w room)) t ≡ has_text w t
      go (Ok i) p = rw (held.text, (decode_passed all_flags w i p).1)
      go (Err r) p =
          let q = print_refused all_flags w (length room) r p in
          let z : ◌≡◌ {A = ℕ} 0 1 = cc in
          absurd (omega arith)

-- a word that was refused has no text
pub refused_unlisted : (w n : ℕ) (r : Refusal) (t : Text) → 47 ≤ n → print_of all_flags w n ≡ Err r → false ≡ has_text w t
refused_unlisted w n r t l e = go (describe w) refl
  where
    go : (o : Option Instruction) → describe w ≡ o → false ≡ has_text w t
    go none p = rw p
    go (some i) p =
        let q = print_accepted all_flags w n i (decodes_all w i p) in
        let b = line-between i (described_in_range w i p) in
        let k = le-ltb n (length (spelling i)) (omega arith) in
        let y : print_of all_flags w n ≡ Ok (length (spelling i)) = q ∙ rw k in
        let z : ◌≡◌ {A = ℕ} 0 1 = cc in
        absurd (omega arith)
