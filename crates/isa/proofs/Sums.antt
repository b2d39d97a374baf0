-- What tests hand back: beside 8 the sum of what is missing, and nothing beside any other number. Assumes nothing.
use mathlib.Core.Path.{◌≡◌, refl}
use mathlib.Core.Bool.{Bool, true, false, not, cond, ◌&&◌}
use mathlib.Core.List.{List, [], ◌∷◌, ◌++◌, map}
use mathlib.Core.Option.{Option, some}
use Prim.Native.Nat.{ℕ}
use native.Mathlib.Omega.{arith}
use lib.Dec.{eqb, ltb}
use borrow.Author.Tests.{eqb-true, eqb-false, not-true}
use Rattle.isa.specs.Row.{every}
use Rattle.isa.specs.Refusals.{number, missing_in, refusal_number, refusal_missing, Test, first_failure}
use Rattle.isa.specs.Answers.{missing, listing_tests, decode_tests, room_tests}
use Rattle.isa.specs.Claims.{HandsBack}
use Rattle.isa.specs.declared.Refusal.{Refusal}
use Rattle.isa.specs.declared.Refusal.TheVariants.{Room}
use Rattle.isa.proofs.Rows.{both}

-- a number that hands nothing back, and 8 with what is missing
pub without_sum : {flags w number : ℕ} → (number ≡ 8 → ⊥) → HandsBack flags w number 0
without_sum d = record { beside_8 = λ e. absurd (d e); never_0 = λ e. absurd (d e); beside_others = λ z. refl }

pub with_sum : {flags w : ℕ} → (missing flags w ≡ 0 → ⊥) → HandsBack flags w 8 (missing flags w)
with_sum d = record { beside_8 = λ e. refl; never_0 = λ e. omega arith; beside_others = λ z. absurd (z refl) }

-- a test of another number than 8, which hands nothing back
abbrev pub plain : Test → Bool
plain t = not (eqb (number t.gives) 8) && eqb (missing_in t.gives) 0

module _ (flags w : ℕ) where
  -- what a refusal hands back about w, or none does
  abbrev pub Handed : Option Refusal → Type 0
  Handed o = HandsBack flags w (refusal_number o) (refusal_missing o)

  -- tests that hand back what they should where they fail
  abbrev pub Fair : List Test → Type 0
  Fair [] = Unit
  Fair (t ∷ ts) = (t.fails ≡ true → Handed (some t.gives)) × Fair ts

  pub handed : (ts : List Test) → Fair ts → Handed (first_failure ts)
  handed [] f = without_sum (λ e. omega arith)
  handed (t ∷ ts) f = go t.fails refl (handed ts f.1)
    where
      go : (b : Bool) → t.fails ≡ b → Handed (first_failure ts) → Handed (cond b (some t.gives) (first_failure ts))
      go true p h = f.0 p
      go false p h = h

  pub fair-++ : (ts us : List Test) → Fair ts → Fair us → Fair (ts ++ us)
  fair-++ [] us f g = g
  fair-++ (t ∷ ts) us f g = (f.0, fair-++ ts us f.1 g)

  pub plain_fair : (ts : List Test) → every (map plain ts) ≡ true → Fair ts
  plain_fair [] h = tt
  plain_fair (t ∷ ts) h =
      let (a, rest) = both (plain t) (every (map plain ts)) h in
      let (n, s) = both (not (eqb (number t.gives) 8)) (eqb (missing_in t.gives) 0) a in
      (λ p. rw (eqb-true (missing_in t.gives) 0 s) (without_sum (eqb-false (number t.gives) 8 (not-true _ n))), plain_fair ts rest)

  -- tests 7 and 8; with 1 before them; and with 12 behind these
  pub listing_fair : Fair (listing_tests flags w)
  listing_fair = (λ p. without_sum (λ e. omega arith), (λ p. with_sum (eqb-false (missing flags w) 0 (not-true _ p)), tt))

  pub decode_fair : Fair (decode_tests flags w)
  decode_fair = (λ p. without_sum (λ e. omega arith), listing_fair)

  pub room_fair : (n k : ℕ) → Fair (room_tests flags w n k)
  room_fair n k = let ts : List Test = record { fails = ltb n k; gives = Room } ∷ [] in fair-++ (decode_tests flags w) ts decode_fair (plain_fair ts refl)

-- plain tests hand nothing back, whatever the word
pub plain_sum : (ts : List Test) → every (map plain ts) ≡ true → refusal_missing (first_failure ts) ≡ 0
plain_sum [] h = refl
plain_sum (t ∷ ts) h =
    let (a, rest) = both (plain t) (every (map plain ts)) h in
    let (n, s) = both (not (eqb (number t.gives) 8)) (eqb (missing_in t.gives) 0) a in
    go t.fails (eqb-true (missing_in t.gives) 0 s) (plain_sum ts rest)
  where
    go : (b : Bool) → missing_in t.gives ≡ 0 → refusal_missing (first_failure ts) ≡ 0 → refusal_missing (cond b (some t.gives) (first_failure ts)) ≡ 0
    go true e f = e
    go false e f = f
