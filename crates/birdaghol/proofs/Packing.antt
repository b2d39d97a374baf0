-- Answers packed beside their refusals, and that they fit: texts and runs are short. Assumes nothing.
use mathlib.Core.Path.{◌≡◌, ◌∙◌, refl, sym, ap, subst}
use mathlib.Core.Bool.{Bool, true, false}
use mathlib.Core.List.{List}
use mathlib.Core.Option.{Option, none, some}
use Prim.Native.Nat.{ℕ, ◌+◌, ◌*◌, ◌^◌, ◌≤◌, ◌<◌}
use native.Mathlib.Omega.{arith}
use lib.ListN.{length}
use lib.Dec.{eqb}
use borrow.Author.Tests.{eqb-true, eqb-false}
use Rattle.std.specs.Prelude.{Err, Ok, Result}
use Rattle.capture.specs.declared.Contents.{Contents}
use Rattle.isa.specs.Refusals.{refusal_number, number_in, refusal_in, value_in}
use Rattle.isa.specs.Claims.{HandsBack}
use Rattle.isa.specs.declared.Refusal.{Refusal}
use Rattle.isa.proofs.Refusals.{number-between}
use Rattle.isa.proofs.Theorems.{decodes}
use Rattle.text.specs.Printing.{print_of}
use Rattle.text.proofs.Theorems.{prints}
use Rattle.machine.specs.Execution.{refusal_of, outcome}
use Rattle.machine.specs.Lists.{most_words, run_of}
use Rattle.machine.specs.Machine.{Machine}
use Rattle.machine.specs.declared.Ended.{Ended}
use Rattle.machine.proofs.Tests.{outcome_back}
use Rattle.machine.proofs.Theorems.{runs}
use Rattle.capture.specs.Outcomes.{Buffers, Reads}
use Rattle.capture.proofs.Captures.{modes-most}
use Rattle.capture.proofs.Theorems.{contents_small}
use Rattle.birdaghol.specs.Calls.{answer, execute_call, packed_ended, run_call}
use Rattle.birdaghol.specs.Captures.{contents_number, packed_contents, CaptureReads}

-- an answer with no refusal
pub value_alone : (v : ℕ) → v * 65536 ≡ answer v none
value_alone v = omega arith

-- a refusal's number and its sum take a byte each
pub number_fits : (o : Option Refusal) → refusal_number o < 256
number_fits none = omega arith
number_fits (some r) = omega (arith, (number-between r).1)

pub sum_below : {number sum : ℕ} → (number ≡ 8 → sum < 256) → ((number ≡ 8 → ⊥) → sum ≡ 0) → sum < 256
sum_below {number} {sum} fits others = go (eqb number 8) refl
  where
    go : (b : Bool) → eqb number 8 ≡ b → sum < 256
    go true e = fits (eqb-true number 8 e)
    go false e = let z = others (eqb-false number 8 e) in omega arith

pub sum_fits : {flags w number sum : ℕ} → HandsBack flags w number sum → sum < 256
sum_fits {flags} {w} h = sum_below (λ e. let s = h.beside_8 e in omega (arith, (decodes flags w).missing_most)) h.beside_others

pub printed_short : (flags w : ℕ) (room : List ℕ) (n : ℕ) → print_of flags w (length room) ≡ Ok n → n ≤ 47
printed_short flags w room n e =
    let h = ((prints flags w room).printed (ap number_in e)).most in
    let l = ap value_in e in
    omega arith

-- a run's count reaches 65,536, which takes 17 bits: with the 16 below it its answer has 33 of the 64
pub run_short : (m : Machine) (ws : List ℕ) (e : Ended) → e ≡ run_of m ws → (e.count ≤ most_words) × (answer 0 (refusal_in e.outcome) < 65536)
run_short m ws e h =
    subst (λ (e : Ended). (e.count ≤ most_words) × (answer 0 (refusal_in e.outcome) < 65536)) (sym h)
    ((runs m ws).most, omega (arith, number_fits (refusal_in (run_of m ws).outcome), sum_fits (runs m ws).hands_back))

-- what execute and run answer, packed
pub outcome-packed : (m : Machine) (w : ℕ) {a : Result Unit Refusal} → a ≡ outcome (refusal_of m w) → answer 0 (refusal_in a) ≡ execute_call m w
outcome-packed m w e = ap (λ (a : Result Unit Refusal). answer 0 (refusal_in a)) e ∙ ap (answer 0) (outcome_back (refusal_of m w))

pub ended-packed : (m : Machine) (ws : List ℕ) (e : Ended) {n : ℕ} → e ≡ run_of m ws → n ≡ answer 0 (refusal_in e.outcome)
    → e.count * 65536 + n ≡ run_call m ws
ended-packed m ws e {n} h k =
    let p : e.count * 65536 + n ≡ packed_ended e = rw k (omega arith) in
    p ∙ ap packed_ended h

-- what reading a capture answers, packed
module _ {file : List ℕ} {before after : Buffers} {a : Result Contents Refusal} where
  pub read_small : {c : Contents} → Reads file before a after → a ≡ Ok c → (c.bench.flags ≤ 15) × (c.bench.vb ≤ 256) × (c.words ≤ 65536)
  read_small q e = contents_small (subst (λ (r : Result Contents Refusal). Reads file before r after) e q)

  -- it takes 33 bits, as the number of words reaches 65,536
  pub contents_fit : {c : Contents} {v : ℕ} → Reads file before a after → a ≡ Ok c → v ≡ contents_number c.bench c.words → v < 2 ^ 33
  contents_fit {c} q e h = let (f, v, w) = read_small q e in omega (arith, f, v, w, modes-most c.bench.sm c.bench.za)

  pub contents_packed : {c : Contents} {v : ℕ} → Reads file before a after → a ≡ Ok c → v ≡ contents_number c.bench c.words → CaptureReads file before (v * 65536) after
  contents_packed {c} q e h =
      record { reading = a; reads = q; is = ap (λ (v : ℕ). v * 65536) h ∙ value_alone (contents_number c.bench c.words) ∙ sym (ap packed_contents e) }

  pub refusal_packed : {r : Refusal} {n : ℕ} → Reads file before a after → a ≡ Err r → n ≡ answer 0 (some r) → CaptureReads file before n after
  refusal_packed q e h = record { reading = a; reads = q; is = h ∙ sym (ap packed_contents e) }
