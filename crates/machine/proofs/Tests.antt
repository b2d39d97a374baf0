-- Tests in turn: what the first that fails says of the others. Assumes nothing.
use mathlib.Core.Path.{◌≡◌, ◌∙◌, sym, refl, ap}
use mathlib.Core.Bool.{Bool, true, false, cond}
use mathlib.Core.List.{List, [], ◌∷◌, ◌++◌}
use mathlib.Core.Option.{Option, none, some}
use Prim.Native.Nat.{ℕ, ◌≤◌}
use native.Mathlib.Omega.{arith}
use lib.ListN.{length}
use borrow.Author.Tests.{ltb-false, le-ltb, eqb-true, not-false}
use Rattle.std.specs.Prelude.{Err, Ok, Result}
use Rattle.isa.specs.Refusals.{Test, first_failure, refusal_in}
use Rattle.isa.specs.Table.{all_flags}
use Rattle.isa.specs.Answers.{describe, listing_tests, decode_tests, decided, decode_of}
use Rattle.isa.specs.declared.Refusal.{Refusal}
use Rattle.isa.specs.declared.Instruction.{Instruction}
use Rattle.isa.proofs.Refusals.{failed_before, passed_before}
use Rattle.isa.proofs.Sums.{Fair, fair-++, plain_fair, listing_fair}
use Rattle.isa.proofs.Answers.{decode_refused, decode_passed, decided-accepted, decided_refused}
use Rattle.machine.specs.Instructions.{modes_of}
use Rattle.machine.specs.Machine.{Machine}
use Rattle.machine.specs.Execution.{bench_tests, mode_tests, word_tests, machine_tests, outcome}
use Rattle.machine.specs.Claims.{Passes, BenchPasses}
use Rattle.machine.specs.declared.Bench.{Bench}

-- ---- tests in turn
abbrev AllPass : List Test → Type 0
AllPass [] = Unit {0}
AllPass (t ∷ ts) = (t.fails ≡ false) × AllPass ts

all_pass : (ts : List Test) → first_failure ts ≡ none → AllPass ts
all_pass [] p = tt
all_pass (t ∷ ts) p = go t.fails refl p (all_pass ts)
  where
    go : (b : Bool) → t.fails ≡ b → cond b (some t.gives) (first_failure ts) ≡ none → (first_failure ts ≡ none → AllPass ts) → (t.fails ≡ false) × AllPass ts
    go true e q rest = let z : ◌≡◌ {A = ℕ} 0 1 = cc in absurd (omega arith)
    go false e q rest = (e, rest q)

-- ---- answers
pub outcome_done : (o : Option Refusal) → (Ok tt) ≡ outcome o → o ≡ none
outcome_done none p = refl
outcome_done (some r) p = let z : ◌≡◌ {A = ℕ} 0 1 = cc in absurd (omega arith)

pub outcome_refused : (o : Option Refusal) (r : Refusal) → Err r ≡ outcome o → o ≡ some r
outcome_refused none r p = let z : ◌≡◌ {A = ℕ} 0 1 = cc in absurd (omega arith)
outcome_refused (some s) r p = let z : s ≡ r = cc in ap {B = Option Refusal} some z

pub outcome_back : (o : Option Refusal) → refusal_in (outcome o) ≡ o
outcome_back none = refl
outcome_back (some r) = refl

-- ---- what they hand back
pub word_fair : (b : Bench) (w : ℕ) → Fair b.flags w (word_tests b w)
word_fair b w =
    let modes = mode_tests b (modes_of (describe w)) in
    fair-++ b.flags w (listing_tests b.flags w) modes (listing_fair b.flags w) (plain_fair b.flags w modes refl)

-- ---- a bench that passed 1 to 5
pub bench_passes : (b : Bench) (z p za : ℕ) → first_failure (bench_tests b z p za) ≡ none → Passes b z p za
bench_passes b z p za h =
    let a = all_pass (bench_tests b z p za) h in
    record {
      flags = ltb-false _ _ a.0;
      length_legal = not-false _ a.1.0;
      z_sized = eqb-true _ _ (not-false _ a.1.1.0);
      p_sized = eqb-true _ _ (not-false _ a.1.1.1.0);
      za_sized = eqb-true _ _ (not-false _ a.1.1.1.1.0);
    }

pub machine_passes : (m : Machine) → first_failure (machine_tests m) ≡ none → BenchPasses m
machine_passes m h = bench_passes m.bench (length m.z) (length m.p) (length m.za) h

-- ---- a word, by decode's answer
module _ (b : Bench) (w : ℕ) (legal-flags : b.flags ≤ all_flags) where
  listing : first_failure (decode_tests b.flags w) ≡ first_failure (listing_tests b.flags w)
  listing = rw (le-ltb all_flags b.flags legal-flags)

  pub listing_refused : (r : Refusal) → decode_of b.flags w ≡ Err r → first_failure (listing_tests b.flags w) ≡ some r
  listing_refused r p = sym listing ∙ decode_refused b.flags w r p

  pub listing-accepted : (i : Instruction) → decode_of b.flags w ≡ Ok i → first_failure (listing_tests b.flags w) ≡ none
  listing-accepted i p = sym listing ∙ (decode_passed b.flags w i p).0

  -- tests 7 to 10, and any that come later
  module _ (later : List Test) where
    pub word_refused : (r : Refusal) → decode_of b.flags w ≡ Err r → first_failure (word_tests b w ++ later) ≡ some r
    word_refused r p = failed_before (listing_tests b.flags w) (mode_tests b (modes_of (describe w)) ++ later) r (listing_refused r p)

    pub word-accepted : (i : Instruction) → decode_of b.flags w ≡ Ok i
        → first_failure (word_tests b w ++ later) ≡ first_failure (mode_tests b (modes_of (some i)) ++ later)
    word-accepted i p =
        passed_before (listing_tests b.flags w) (mode_tests b (modes_of (describe w)) ++ later) (listing-accepted i p)
        ∙ ap (λ d. first_failure (mode_tests b (modes_of d) ++ later)) (decode_passed b.flags w i p).1

-- ---- a word, by what these tests admit it as
module _ (b : Bench) (w : ℕ) (later : List Test) where
  abbrev admitted : Result Instruction Refusal
  admitted = decided (first_failure (word_tests b w ++ later)) (describe w)

  pub admit_accepted : (i : Instruction) → Ok i ≡ admitted → (first_failure (word_tests b w ++ later) ≡ none) × (describe w ≡ some i)
  admit_accepted i p = decided-accepted (first_failure (word_tests b w ++ later)) (describe w) i (sym p)

  unlisted_fails : describe w ≡ none → first_failure (word_tests b w ++ later) ≡ none → ⊥
  unlisted_fails d p = let q = rw d at p in let z : ◌≡◌ {A = ℕ} 0 1 = cc in omega arith

  pub admit_refused : (r : Refusal) → Err r ≡ admitted → first_failure (word_tests b w ++ later) ≡ some r
  admit_refused r p = decided_refused (first_failure (word_tests b w ++ later)) (describe w) r unlisted_fails (sym p)
