-- `machine::lists::check_run` meets its contract: by the bench, then by the number of words. Assumes nothing.
use mathlib.Core.Path.{◌∙◌, sym, ap}
use Rattle.isa.proofs.Refusals.{handed_on}
use Rattle.machine.specs.Execution.{outcome}
use Rattle.machine.proofs.Tests.{outcome_done, outcome_refused}
use Rattle.machine.proofs.Numbers.{start_refused, start_too_long, start_none, start-answered}
use Rattle.machine.proofs.lists.check_run.Goals as goal

pub returns-in_err-check_bench : goal.returns-in_err-check_bench
returns-in_err-check_bench c =
    let a = c.args in
    start-answered a.bench a.z a.p a.za a.words
    (handed_on c.from_residual.ensures.1
    ∙ sym (ap outcome (start_refused a.bench a.z a.p a.za a.words _ (outcome_refused _ _ c.in_err-check_bench.ensures))))

pub returns-then-words-gt-MOST_WORDS : goal.returns-then-words-gt-MOST_WORDS
returns-then-words-gt-MOST_WORDS c =
    let a = c.args in
    start-answered a.bench a.z a.p a.za a.words
    (sym (ap outcome (start_too_long a.bench a.z a.p a.za a.words (outcome_done _ c.in_ok-check_bench.ensures) c.if-words-gt-MOST_WORDS.true)))

pub returns : goal.returns
returns c =
    let a = c.args in
    start-answered a.bench a.z a.p a.za a.words
    (sym (ap outcome (start_none a.bench a.z a.p a.za a.words (outcome_done _ c.in_ok-check_bench.ensures) c.if-words-gt-MOST_WORDS.false)))
