-- `machine::reversal::exchange_word` meets its contract: by what the word is admitted as. Assumes nothing.
use mathlib.Core.Path.{◌≡◌, ◌∙◌, sym}
use mathlib.Core.List.{[]}
use mathlib.Core.Option.{none, some}
use Rattle.std.specs.Prelude.{Ok, Result}
use Rattle.isa.specs.declared.Refusal.{Refusal}
use Rattle.isa.specs.Refusals.{first_failure}
use Rattle.isa.specs.Answers.{describe}
use Rattle.machine.specs.Execution.{word_tests}
use Rattle.machine.proofs.Tests.{admit_accepted, admit_refused}
use Prim.Native.Nat.{ℕ}
use Rattle.isa.specs.declared.Instruction.{Instruction}
use Rattle.isa.specs.Answers.{decided}
use Rattle.machine.specs.declared.Bench.{Bench}
use Rattle.machine.proofs.reversal.exchange_word.Goals as goal

admitted : (b : Bench) (w : ℕ) {r : Result Instruction Refusal} {i : Instruction} → r ≡ decided (first_failure (word_tests b w)) (describe w) → r ≡ Ok i
    → (first_failure (word_tests b w) ≡ none) × (describe w ≡ some i)
admitted b w p q = admit_accepted b w [] _ (sym q ∙ p)

pub admit-requires : goal.admit-requires
admit-requires c = c.requires

pub returns-in-Ok : goal.returns-in-Ok
returns-in-Ok c =
    let (f, d) = admitted c.args.bench c.args.word c.admit.ensures c.in-Ok.is in
    rw (f, d, sym c.has_opposite.ensures ∙ c.if-has_opposite.true) c.flip_s.ensures

pub returns-in_default : goal.returns-in_default
returns-in_default c =
    let (f, d) = admitted c.args.bench c.args.word c.admit.ensures c.in-Ok.is in
    rw (f, d, sym c.has_opposite.ensures ∙ c.if-has_opposite.false)

pub returns-in_default-2 : goal.returns-in_default-2
returns-in_default-2 c =
    let a = c.args in
    rw (admit_refused a.bench a.word [] _ (sym c.in_default.is ∙ c.admit.ensures))
