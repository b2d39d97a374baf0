-- Tests made after other tests: a refusal among the first stands, and where there is none the later ones decide.
-- Assumes nothing.
use mathlib.Core.Path.{◌≡◌, ◌∙◌, refl, ap}
use mathlib.Core.Bool.{Bool, true, false, cond}
use mathlib.Core.List.{List, [], ◌∷◌, ◌++◌}
use mathlib.Core.Option.{none, some}
use Prim.Native.Nat.{◌<◌, ◌≤◌}
use native.Mathlib.Omega.{arith}
use Rattle.std.specs.Prelude.{Result, Err}
use Rattle.std.specs.Result.{IsErrAnd}
use Rattle.std.proofs.lemmas.Result.{err_from_is_err_and}
use Rattle.isa.specs.Refusals.{number, Test, first_failure, or_else}
use Rattle.isa.specs.declared.Refusal.{Refusal}
use Rattle.isa.specs.declared.Refusal.TheVariants.{Flags, VectorLength, ZLength, PLength, ZaLength, ListLength, Unlisted, FeatureOff, StreamingOff, ZaOff, OutOfRange, Room, NotText, NotCleared, Version, Format}

pub failure-++ : (ts us : List Test) → first_failure (ts ++ us) ≡ or_else (first_failure ts) (first_failure us)
failure-++ [] us = refl
failure-++ (t ∷ ts) us = go t.fails (failure-++ ts us)
  where
    go : (b : Bool) → first_failure (ts ++ us) ≡ or_else (first_failure ts) (first_failure us)
        → cond b (some t.gives) (first_failure (ts ++ us)) ≡ or_else (cond b (some t.gives) (first_failure ts)) (first_failure us)
    go true h = refl
    go false h = h

pub failed_before : (ts us : List Test) (r : Refusal) → first_failure ts ≡ some r → first_failure (ts ++ us) ≡ some r
failed_before ts us r p = failure-++ ts us ∙ ap (λ o. or_else o (first_failure us)) p

pub passed_before : (ts us : List Test) → first_failure ts ≡ none → first_failure (ts ++ us) ≡ first_failure us
passed_before ts us p = failure-++ ts us ∙ ap (λ o. or_else o (first_failure us)) p

-- refusals are numbered from 1 to 16: 0 is none's, and each fits beside a value
pub number-between : (r : Refusal) → (1 ≤ number r) × (number r ≤ 16)
number-between Flags = (omega arith, omega arith)
number-between VectorLength = (omega arith, omega arith)
number-between ZLength = (omega arith, omega arith)
number-between PLength = (omega arith, omega arith)
number-between ZaLength = (omega arith, omega arith)
number-between ListLength = (omega arith, omega arith)
number-between Unlisted = (omega arith, omega arith)
number-between (FeatureOff sum) = (omega arith, omega arith)
number-between StreamingOff = (omega arith, omega arith)
number-between ZaOff = (omega arith, omega arith)
number-between OutOfRange = (omega arith, omega arith)
number-between Room = (omega arith, omega arith)
number-between NotText = (omega arith, omega arith)
number-between NotCleared = (omega arith, omega arith)
number-between Version = (omega arith, omega arith)
number-between Format = (omega arith, omega arith)

pub number_positive : (r : Refusal) → 0 < number r
number_positive r = (number-between r).0

-- a `?` hands the refusal on
pub handed_on : {A : Type 0} {r : Result A Refusal} {x : Refusal} → IsErrAnd r (λ y. y ≡ x) → r ≡ Err x
handed_on {r = r} h = let (y, p, q) = err_from_is_err_and r h in p ∙ ap Err q
