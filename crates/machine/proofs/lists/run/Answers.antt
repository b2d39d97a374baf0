-- `machine::lists::run` meets its contract: by tests 1 to 6. Assumes nothing.
use mathlib.Core.Path.{◌∙◌, sym}
use Rattle.machine.specs.Machine.{on}
use Rattle.machine.proofs.Tests.{outcome_done, outcome_refused}
use Rattle.machine.proofs.Runs.{run_unbegun, run_bench_passed, run_words-played}
use Rattle.machine.proofs.lists.run.Goals as goal

pub run_words-requires : goal.run_words-requires
run_words-requires c =
    let a = c.args in
    run_bench_passed (on a.bench a.z.now a.p.now a.za.now) a.words.now (outcome_done _ (sym c.in-Ok.is ∙ c.check_run.ensures.answer))

pub returns-in-Err : goal.returns-in-Err
returns-in-Err c = run_unbegun _ _ _ (outcome_refused _ _ (sym c.in-Err.is ∙ c.check_run.ensures.answer))

pub returns-in-Ok : goal.returns-in-Ok
returns-in-Ok c =
    let e = c.run_words.ensures in
    run_words-played _ _ (outcome_done _ (sym c.in-Ok.is ∙ c.check_run.ensures.answer)) _ _ e.answer e.za_after
