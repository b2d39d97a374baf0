-- The word of a line: by the guess there is at most one, and the search through all words finds it. Assumes nothing.
use mathlib.Core.Path.{◌≡◌, ◌∙◌, sym, ap, refl}
use mathlib.Core.Bool.{Bool, true, false, not, cond, ◌&&◌}
use mathlib.Core.Option.{Option, none, some}
use Prim.Native.Nat.{ℕ, zero, suc, ◌≤◌, ◌<◌, ◌^◌}
use native.Mathlib.Omega.{arith}
use lib.Dec.{eqb}
use borrow.Author.Tests.{eqb-true, eqb-false}
use Rattle.std.specs.Prelude.{Ok}
use Rattle.isa.specs.Answers.{describe, absent, encode_of}
use Rattle.isa.specs.declared.Instruction.{Instruction}
use Rattle.isa.proofs.Answers.{encode_in_range}
use Rattle.isa.proofs.Theorems.{described_is}
use Rattle.text.specs.Spelling.{Text, spelling}
use Rattle.text.specs.Printing.{text_of}
use Rattle.reader.specs.Answers.{same_text, has_text, word_below, word_with}
use Rattle.reader.specs.Guess.{guess_of}
use Rattle.reader.proofs.Laws.{same_true, same_eq}
use Rattle.reader.proofs.Back.{guess_back}

-- what it is to have a text
pub described_text : (w : ℕ) (i : Instruction) → describe w ≡ some i → text_of w ≡ spelling i
unfolding text_of
described_text w i p = rw p

pub has_text_lem : (w : ℕ) (i : Instruction) (t : Text) → describe w ≡ some i → text_of w ≡ t → has_text w t ≡ true
has_text_lem w i t p e = rw p (same_true (text_of w) t e)

pub text_had : (w : ℕ) (t : Text) → has_text w t ≡ true → ((i : Instruction) × (describe w ≡ some i)) × (text_of w ≡ t)
text_had w t h = go (describe w) refl h
  where
    go : (o : Option Instruction) → describe w ≡ o → not (absent o) && same_text (text_of w) t ≡ true → ((i : Instruction) × (describe w ≡ some i)) × (text_of w ≡ t)
    go none p q = let z : true ≡ false = sym q in let y : ◌≡◌ {A = ℕ} 0 1 = cc in absurd (omega arith)
    go (some i) p q = ((i, p), same_eq (text_of w) t q)

-- a line leads to no other word than its own
pub guessed : (w : ℕ) (t : Text) → w < 2 ^ 32 → has_text w t ≡ true → encode_of (guess_of t) ≡ Ok w
guessed w t h s =
    let (d, e) = text_had w t s in
    let i = d.0 in
    let (r, k) = described_is w i h d.1 in
    let g : guess_of t ≡ i = ap guess_of (sym e ∙ described_text w i d.1) ∙ guess_back i r in
    rw g (encode_in_range i r ∙ ap Ok k)

pub one_word : (v w : ℕ) (t : Text) → v < 2 ^ 32 → w < 2 ^ 32 → has_text v t ≡ true → has_text w t ≡ true → v ≡ w
one_word v w t h k p q = let a = guessed v t h p in let b = guessed w t k q in cc

-- ---- the search
below_some : (n w : ℕ) (t : Text) → n ≤ 2 ^ 32 → w < n → has_text w t ≡ true → word_below n t ≡ some w
unfolding word_below
below_some zero w t l h s = absurd (omega arith)
below_some (suc n) w t l h s = go (has_text n t) refl (eqb w n) refl (below_some n w t (omega arith))
  where
    go : (b : Bool) → has_text n t ≡ b → (e : Bool) → eqb w n ≡ e → (w < n → has_text w t ≡ true → word_below n t ≡ some w) → cond b (some n) (word_below n t) ≡ some w
    go true p e q rest = ap {B = Option ℕ} some (one_word n w t (omega arith) (omega arith) p s)
    go false p true q rest = let z = eqb-true w n q in let y : true ≡ false = sym s ∙ rw z p in let x : ◌≡◌ {A = ℕ} 0 1 = cc in absurd (omega arith)
    go false p false q rest = rest (omega (arith, eqb-false w n q)) s

below_none : (n : ℕ) (t : Text) → ((w : ℕ) → w < n → has_text w t ≡ false) → word_below n t ≡ none
unfolding word_below
below_none zero t f = refl
below_none (suc n) t f = rw (f n (omega arith)) (below_none n t (λ w h. f w (omega arith)))

below_is : (n w : ℕ) (t : Text) → word_below n t ≡ some w → (w < n) × (has_text w t ≡ true)
unfolding word_below
below_is zero w t p = let z : ◌≡◌ {A = ℕ} 0 1 = cc in absurd (omega arith)
below_is (suc n) w t p = go (has_text n t) refl p (below_is n w t)
  where
    go : (b : Bool) → has_text n t ≡ b → cond b (some n) (word_below n t) ≡ some w → (word_below n t ≡ some w → (w < n) × (has_text w t ≡ true)) → (w < suc n) × (has_text w t ≡ true)
    go true q r rest = let z : n ≡ w = cc in (omega arith, rw (← z) q)
    go false q r rest = let (h, s) = rest r in (omega arith, s)

pub with_some : (w : ℕ) (t : Text) → w < 2 ^ 32 → has_text w t ≡ true → word_with t ≡ some w
unfolding word_with
with_some w t h s = below_some (2 ^ 32) w t (omega arith) h s

pub with_none : (t : Text) → ((w : ℕ) → w < 2 ^ 32 → has_text w t ≡ true → ⊥) → word_with t ≡ none
unfolding word_with
with_none t f = below_none (2 ^ 32) t (λ w h. go w h (has_text w t) refl)
  where
    go : (w : ℕ) → w < 2 ^ 32 → (b : Bool) → has_text w t ≡ b → has_text w t ≡ false
    go w h true p = absurd (f w h p)
    go w h false p = p

pub with_is : (w : ℕ) (t : Text) → word_with t ≡ some w → (w < 2 ^ 32) × (has_text w t ≡ true)
unfolding word_with
with_is w t p = below_is (2 ^ 32) w t p
