-- One word's refusal and what it leaves, by where its tests stop. Assumes nothing.
use mathlib.Core.Path.{◌≡◌, ◌∙◌, ap}
use mathlib.Core.Option.{Option, none, some}
use Prim.Native.Nat.{ℕ}
use Rattle.isa.specs.Refusals.{first_failure, or_else}
use Rattle.isa.specs.declared.Refusal.{Refusal}
use Rattle.machine.specs.Execution.{word_tests, word_refusal, machine_tests, refusal_of, left_by, after}
use Rattle.machine.specs.Machine.{Machine}
use Rattle.isa.proofs.Refusals.{failure-++}

module _ (m : Machine) (w : ℕ) where
  pub refusal_by : (o : Option Refusal) → first_failure (machine_tests m) ≡ o → refusal_of m w ≡ or_else o (word_refusal m w)
  unfolding refusal_of
  refusal_by o h = failure-++ (machine_tests m) (word_tests m.bench w) ∙ ap (λ o. or_else o (word_refusal m w)) h

  pub refused_by_bench : (r : Refusal) → first_failure (machine_tests m) ≡ some r → refusal_of m w ≡ some r
  refused_by_bench r = refusal_by (some r)

  pub refused_by_word : first_failure (machine_tests m) ≡ none → refusal_of m w ≡ word_refusal m w
  refused_by_word = refusal_by none

  -- what it leaves, by the refusal
  pub after_by : (o : Option Refusal) → refusal_of m w ≡ o → after m w ≡ left_by m w o
  unfolding after
  after_by o h = ap (left_by m w) h
