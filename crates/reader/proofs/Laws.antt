-- Laws of the guess and of texts that the reader's functions use. Assumes nothing.
use mathlib.Core.Path.{◌≡◌, ◌∙◌, sym, ap, refl}
use mathlib.Core.Bool.{Bool, true, false, not, ◌&&◌}
use mathlib.Core.List.{[], ◌∷◌}
use Prim.Native.Nat.{ℕ}
use lib.Dec.{eqb}
use borrow.Author.Tests.{eq-eqb, ne_eqb, eqb-true}
use Rattle.isa.specs.declared.Operation.{Operation}
use Rattle.isa.specs.declared.Instruction.{Instruction}
use Rattle.isa.specs.declared.Instruction.TheVariants.{Zero}
use Rattle.text.specs.Spelling.{Text}
use Rattle.reader.specs.declared.Scan.{Scan}
use Rattle.reader.specs.Answers.{same_text}
use Rattle.reader.specs.Guess.{fresh, scanned, zero_mask, byte_at, operation_of, outer_of, guess_of}

-- ---- the guess, from its parts
module _ (t : Text) (b : ℕ) (first : b ≡ byte_at t 0) where
  pub zero_guess : (m : ℕ) → b ≡ 122 → m ≡ zero_mask t → Zero m ≡ guess_of t
  unfolding guess_of
  zero_guess m is mask = rw (← first, eq-eqb b 122 is, mask)

  pub outer_guess : (s : Scan) (op : Operation) (r : Instruction) → (b ≡ 122 → ⊥) → s ≡ scanned fresh t
      → op ≡ operation_of t s.wide (s.half && not s.wide) s.predicated → r ≡ outer_of op s → r ≡ guess_of t
  unfolding guess_of
  outer_guess s op r other all operation is =
      rw (ne_eqb (byte_at t 0) 122 (λ e. other (first ∙ e)), ← all) (is ∙ ap (λ (o : Operation). outer_of o s) operation)

-- ---- the same text
pub same_true : (s t : Text) → s ≡ t → same_text s t ≡ true
same_true s t e = rw e (itself t)
  where
    itself : (t : Text) → same_text t t ≡ true
    itself [] = refl
    itself (b ∷ t) = rw (eq-eqb b b refl) (itself t)

pub same_eq : (s t : Text) → same_text s t ≡ true → s ≡ t
same_eq [] [] p = refl
same_eq [] (b ∷ t) p = let z : true ≡ false = sym p in cc
same_eq (a ∷ s) [] p = let z : true ≡ false = sym p in cc
same_eq (a ∷ s) (b ∷ t) p = go (eqb a b) refl p (same_eq s t)
  where
    go : (e : Bool) → eqb a b ≡ e → e && same_text s t ≡ true → (same_text s t ≡ true → s ≡ t) → a ∷ s ≡ b ∷ t
    go true q r rest = let h = eqb-true a b q in let k = rest r in cc
    go false q r rest = let z : true ≡ false = sym r in cc
