-- What document 02 (C-11, C-12, C-15) asks of a read: the claims of specs/Claims.antt hold for every flags and line. Assumes
-- nothing.
use mathlib.Core.Path.{◌≡◌, ◌∙◌, sym, ap, refl, subst}
use mathlib.Core.Bool.{Bool, true, false}
use mathlib.Core.List.{List, [], ◌∷◌}
use mathlib.Core.Option.{Option, none, some}
use Prim.Native.Nat.{ℕ, ◌+◌, ◌≤◌, ◌<◌, ◌^◌}
use native.Mathlib.Omega.{arith}
use lib.Dec.{eqb, ltb}
use lib.ListN.{length, take}
use borrow.Author.Tests.{eq-eqb, ne_eqb, eqb-true, eqb-false, lt-ltb, ltb-true, ltb-false}
use Rattle.std.specs.Prelude.{Err, Ok, Result}
use Rattle.isa.specs.declared.Refusal.{Refusal}
use Rattle.isa.specs.Refusals.{missing_beside, number_in, value_in}
use Rattle.isa.specs.Table.{all_flags, word_for}
use Rattle.isa.specs.Claims.{FeaturesOn, HandsBack}
use Rattle.isa.specs.Answers.{missing, encode_of}
use Rattle.isa.specs.declared.Instruction.TheVariants.{Zero}
use Rattle.isa.specs.declared.Refusal.TheVariants.{Flags, FeatureOff, NotText}
use Rattle.isa.proofs.Tests.{all_every}
use Rattle.isa.proofs.Answers.{encode_in_range}
use Rattle.isa.proofs.Sums.{without_sum, with_sum}
use Rattle.isa.proofs.Theorems.{decodes, describes}
use Rattle.text.specs.Spelling.{Text}
use Rattle.text.specs.Printing.{text_of, print_number, print_length, room_after}
use Rattle.text.specs.Claims.{OfLength}
use Rattle.text.proofs.Lengths.{line-between}
use Rattle.text.proofs.Theorems.{prints}
use Rattle.reader.specs.Answers.{has_text, word_with, read_of, read_number, read_word}
use Rattle.reader.specs.Claims.{Spells, Reads, OneWord, OneSpelling, ReadAs, PrintedAs, Undo, old_line, OldRefused}
use Rattle.reader.proofs.Words.{described_text, has_text_lem, text_had, guessed, one_word, with_some, with_none, with_is}
use Rattle.reader.proofs.Back.{old_back}
use Rattle.reader.proofs.Readings.{read_flags, read_none, read_some, decodes_all}

-- ---- the test of a word, in the claims' terms
tested : {w : ℕ} {t : Text} → Spells w t → has_text w t ≡ true
tested {w} {t} s = let (i, d) = describes w s.fits s.listed in has_text_lem w i t d.is s.text

passed : (w : ℕ) (t : Text) → w < 2 ^ 32 → has_text w t ≡ true → Spells w t
passed w t h p =
    let (d, e) = text_had w t p in
    record { fits = h; listed = ((decodes all_flags w).accepts.0 (ap number_in (decodes_all w d.0 d.1))).1; text = e }

-- a line that is some word's has 1 to 47 bytes
spelt-between : {w : ℕ} {t : Text} → Spells w t → OfLength 1 47 t
spelt-between {w} s =
    let (i, d) = describes w s.fits s.listed in
    subst (OfLength 1 47) (sym (described_text w i d.is) ∙ s.text) (line-between i d.is_in_range)

-- no two words share a line
pub no_two_words : OneWord
no_two_words v w t p q = one_word v w t p.fits q.fits (tested p) (tested q)

-- the four outcomes of a read
data Outcome (flags : ℕ) (t : Text) : Result ℕ Refusal → Type 0 where
  is_word : (w : ℕ) → flags ≤ all_flags → Spells w t → FeaturesOn flags w → Outcome flags t (Ok w)
  gives_1 : all_flags < flags → Outcome flags t (Err Flags)
  gives_13 : flags ≤ all_flags → ((w : ℕ) → Spells w t → ⊥) → Outcome flags t (Err NotText)
  gives_8 : flags ≤ all_flags → (w : ℕ) → Spells w t → (FeaturesOn flags w → ⊥) → Outcome flags t (Err (FeatureOff (missing flags w)))

module _ (flags : ℕ) (t : Text) where
  -- the answer in each case
  word_when : (w : ℕ) → flags ≤ all_flags → Spells w t → FeaturesOn flags w → read_of flags t ≡ Ok w
  word_when w h s f = read_some flags w t h (with_some w t s.fits (tested s)) ∙ rw (eq-eqb _ 0 ((decodes flags w).missing_none.1 f))

  feature_when : (w : ℕ) → flags ≤ all_flags → Spells w t → (FeaturesOn flags w → ⊥) → read_of flags t ≡ Err (FeatureOff (missing flags w))
  feature_when w h s f =
      read_some flags w t h (with_some w t s.fits (tested s)) ∙ rw (ne_eqb _ 0 (λ z. f ((decodes flags w).missing_none.0 z)))

  none_when : flags ≤ all_flags → ((w : ℕ) → Spells w t → ⊥) → read_of flags t ≡ Err NotText
  none_when h f = read_none flags t h (with_none t (λ w k p. f w (passed w t k p)))

  -- every read has one of the four outcomes
  outcome : Outcome flags t (read_of flags t)
  outcome = by_flags (ltb all_flags flags) refl
    where
      by_missing : (w : ℕ) → flags ≤ all_flags → Spells w t → (b : Bool) → eqb (missing flags w) 0 ≡ b → Outcome flags t (read_of flags t)
      by_missing w h s true q = let f = (decodes flags w).missing_none.0 (eqb-true _ 0 q) in rw (word_when w h s f) (is_word w h s f)
      by_missing w h s false q =
          let f : FeaturesOn flags w → ⊥ = λ g. eqb-false _ 0 q ((decodes flags w).missing_none.1 g) in
          rw (feature_when w h s f) (gives_8 h w s f)

      by_word : flags ≤ all_flags → (o : Option ℕ) → word_with t ≡ o → Outcome flags t (read_of flags t)
      by_word h none p =
          let f : (w : ℕ) → Spells w t → ⊥ = λ w s. let q = with_some w t s.fits (tested s) in let z : ◌≡◌ {A = ℕ} 0 1 = cc in omega arith in
          rw (none_when h f) (gives_13 h f)
      by_word h (some w) p = let (k, q) = with_is w t p in by_missing w h (passed w t k q) (eqb (missing flags w) 0) refl

      by_flags : (b : Bool) → ltb all_flags flags ≡ b → Outcome flags t (read_of flags t)
      by_flags true p = let h = ltb-true all_flags flags p in rw (read_flags flags t h) (gives_1 h)
      by_flags false p = by_word (ltb-false all_flags flags p) (word_with t) refl

  -- what an outcome tells, by its number
  of_0 : (r : Result ℕ Refusal) → Outcome flags t r → number_in r ≡ 0 → (flags ≤ all_flags) × Spells (value_in r) t × FeaturesOn flags (value_in r)
  of_0 r (is_word w h s f) e = (h, s, f)
  of_0 r (gives_1 h) e = absurd (omega arith)
  of_0 r (gives_13 h f) e = absurd (omega arith)
  of_0 r (gives_8 h w s f) e = absurd (omega arith)

  of_1 : (r : Result ℕ Refusal) → Outcome flags t r → number_in r ≡ 1 → all_flags < flags
  of_1 r (is_word w h s f) e = absurd (omega arith)
  of_1 r (gives_1 h) e = h
  of_1 r (gives_13 h f) e = absurd (omega arith)
  of_1 r (gives_8 h w s f) e = absurd (omega arith)

  of_13 : (r : Result ℕ Refusal) → Outcome flags t r → number_in r ≡ 13 → (flags ≤ all_flags) × ((w : ℕ) → Spells w t → ⊥)
  of_13 r (is_word w h s f) e = absurd (omega arith)
  of_13 r (gives_1 h) e = absurd (omega arith)
  of_13 r (gives_13 h f) e = (h, f)
  of_13 r (gives_8 h w s f) e = absurd (omega arith)

  of_8 : (r : Result ℕ Refusal) → Outcome flags t r → number_in r ≡ 8 → (flags ≤ all_flags) × ((w : ℕ) × Spells w t × (FeaturesOn flags w → ⊥))
  of_8 r (is_word w h s f) e = absurd (omega arith)
  of_8 r (gives_1 h) e = absurd (omega arith)
  of_8 r (gives_13 h f) e = absurd (omega arith)
  of_8 r (gives_8 h w s f) e = (h, (w, s, f))

  -- the line of w gets its sum
  hands_back : (w : ℕ) → Spells w t → (r : Result ℕ Refusal) → Outcome flags t r → HandsBack flags w (number_in r) (missing_beside r)
  hands_back w s r (is_word v h k f) = without_sum (λ e. omega arith)
  hands_back w s r (gives_1 h) = without_sum (λ e. omega arith)
  hands_back w s r (gives_13 h f) = without_sum (λ e. omega arith)
  hands_back w s r (gives_8 h v k f) =
      subst (λ (v : ℕ). HandsBack flags w 8 (missing flags v)) (no_two_words w v t s k)
      (with_sum (λ z. f (subst (FeaturesOn flags) (no_two_words w v t s k) ((decodes flags w).missing_none.0 z))))

  no_sum : (r : Result ℕ Refusal) → Outcome flags t r → (number_in r ≡ 8 → ⊥) → missing_beside r ≡ 0
  no_sum r (is_word w h s f) z = refl
  no_sum r (gives_1 h) z = refl
  no_sum r (gives_13 h f) z = refl
  no_sum r (gives_8 h w s f) z = absurd (z refl)

  no_word : (r : Result ℕ Refusal) → Outcome flags t r → (number_in r ≡ 0 → ⊥) → value_in r ≡ 0
  no_word r (is_word w h s f) z = absurd (z refl)
  no_word r (gives_1 h) z = refl
  no_word r (gives_13 h f) z = refl
  no_word r (gives_8 h w s f) z = refl

-- what read answers
pub reads : (flags : ℕ) (t : Text) → Reads flags t
reads flags t =
    let o = outcome flags t in
    record {
      accepts = (
        λ e. let (h, s, f) = of_0 flags t (read_of flags t) o e in (h, (read_word flags t, s, f)),
        λ c. let (w, s, f) = c.1 in ap number_in (word_when flags t w c.0 s f),
      );
      gives_1 = (of_1 flags t (read_of flags t) o, λ h. ap number_in (read_flags flags t h));
      gives_13 = (of_13 flags t (read_of flags t) o, λ c. ap number_in (none_when flags t c.0 c.1));
      gives_8 = (of_8 flags t (read_of flags t) o, λ c. let (w, s, f) = c.1 in ap number_in (feature_when flags t w c.0 s f));
      hands_back = λ w s. hands_back flags t w s (read_of flags t) o;
      no_sum = no_sum flags t (read_of flags t) o;
      word = λ e. let (h, s, f) = of_0 flags t (read_of flags t) o e in (s, f);
      refused = no_word flags t (read_of flags t) o;
      between = λ e. spelt-between (of_0 flags t (read_of flags t) o e).1;
    }

-- no word is read from two lines
pub no_second_spelling : OneSpelling
no_second_spelling f g s t p q e = sym ((reads f s).word p).0.text ∙ ap text_of e ∙ ((reads g t).word q).0.text

-- printing and reading undo each other
module _ (flags : ℕ) where
  read_printed : (w : ℕ) (room : List ℕ) → w < 2 ^ 32 → print_number flags w (length room) ≡ 0
      → ReadAs flags w (take (print_length flags w (length room)) (room_after flags w room))
  read_printed w room h z =
      let (f, l, o) = (decodes flags w).accepts.0 ((prints flags w room).accepts.0 z).0 in
      let r = word_when flags (text_of w) w f (record { fits = h; listed = l; text = refl }) o in
      rw ((prints flags w room).printed z).text (ap number_in r, ap value_in r)

  print_read : (t : Text) (room : List ℕ) → read_number flags t ≡ 0 → length t ≤ length room → PrintedAs flags (read_word flags t) t room
  print_read t room e h =
      let (f, s, o) = of_0 flags t (read_of flags t) (outcome flags t) e in
      let w = read_word flags t in
      let z : print_number flags w _ ≡ 0 = (prints flags w room).accepts.1 ((decodes flags w).accepts.1 (f, s.listed, o), rw s.text h) in
      (z, rw s.text at ((prints flags w room).printed z))

  pub undo : Undo flags
  undo =
      record {
        read_printed = read_printed;
        print_read = print_read;
        printed_lines =
            λ t. (
              λ e. (read_word flags t, ((reads flags t).word e).0.fits, (t, print_read t t e (omega arith))),
              λ p. let (w, h, q) = p in let (room, k) = q in rw k.1.text at (read_printed w room h k.0).0,
            );
      }

-- the old lines of ZERO that differ: no other word than the mask's could have one
pub old_refused : OldRefused
old_refused flags m f h d =
    ap number_in
    (none_when flags (old_line m) f
    (λ w s.
    let g : encode_of (Zero m) ≡ Ok w = ap encode_of (sym (old_back m h)) ∙ guessed w (old_line m) s.fits (tested s) in
    let e = encode_in_range (Zero m) (all_every (ltb m 256 ∷ []) (lt-ltb m 256 h, tt)) in
    let x : word_for (Zero m) ≡ w = cc in
    let y : word_for (Zero m) ≡ 0xC0080000 + m = omega arith in
    d (sym s.text ∙ ap text_of (sym x ∙ y))))
