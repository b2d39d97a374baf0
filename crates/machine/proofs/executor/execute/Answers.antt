-- `machine::executor::execute` meets its contract: the bench refuses, or the word is left to its tests. Assumes nothing.
use mathlib.Core.Path.{◌≡◌, ◌∙◌, sym, ap}
use mathlib.Core.Option.{some}
use Rattle.std.specs.Prelude.{Result}
use Rattle.isa.specs.declared.Refusal.{Refusal}
use Rattle.isa.specs.Refusals.{missing_beside, number_in}
use Rattle.isa.proofs.Refusals.{handed_on}
use Rattle.machine.specs.Machine.{Machine, on}
use Rattle.machine.specs.Execution.{outcome}
use Rattle.machine.proofs.Tests.{outcome_done, outcome_refused}
use Rattle.machine.proofs.Execution.{refused_by_bench, refused_by_word, after_by}
use Rattle.machine.proofs.executor.execute.Goals as goal

-- an answer that is the definition's has its number and its sum
answers : {A : Type 0} {r a : Result Unit Refusal} → r ≡ a → A
    → record { answer : r ≡ a; za_after : A; number : number_in r ≡ number_in a; missing : missing_beside r ≡ missing_beside a }
answers e left = record { answer = e; za_after = left; number = ap number_in e; missing = ap missing_beside e }

pub execute_word-requires : goal.execute_word-requires
execute_word-requires c = outcome_done _ c.in_ok-check_bench.ensures

pub returns-in_err-check_bench : goal.returns-in_err-check_bench
returns-in_err-check_bench c =
    let a = c.args in
    let m = on a.bench a.z.now a.p.now a.za.now in
    let f = refused_by_bench m a.word _ (outcome_refused _ _ c.in_err-check_bench.ensures) in
    answers (handed_on c.from_residual.ensures.1 ∙ sym (ap outcome f)) (sym (ap (λ (m : Machine). m.za) (after_by m a.word (some _) f)))

pub returns : goal.returns
returns c =
    let a = c.args in
    let m = on a.bench a.z.now a.p.now a.za.now in
    let f = refused_by_word m a.word (outcome_done _ c.in_ok-check_bench.ensures) in
    let e = c.execute_word.ensures in
    answers (e.answer ∙ sym (ap outcome f)) (e.za_after ∙ sym (ap (λ (m : Machine). m.za) (after_by m a.word _ f)))
