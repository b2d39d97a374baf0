-- `machine::reversal::exchange` meets its contract: the bench refuses, or the word is left to its tests. Assumes nothing.
use mathlib.Core.Path.{◌∙◌, sym}
use Rattle.machine.specs.Machine.{on}
use Rattle.machine.proofs.Tests.{outcome_done, outcome_refused, machine_passes}
use Rattle.machine.proofs.Execution.{refused_by_bench, refused_by_word}
use Rattle.machine.proofs.reversal.exchange.Goals as goal

pub exchange_word-requires : goal.exchange_word-requires
exchange_word-requires c =
    let a = c.args in
    let b = machine_passes (on a.bench a.z.now a.p.now a.za.now) (outcome_done _ (sym c.in-Ok.is ∙ c.check_bench.ensures)) in
    (b.flags, b.length_legal)

pub returns-in-Err : goal.returns-in-Err
returns-in-Err c =
    let a = c.args in
    rw (refused_by_bench (on a.bench a.z.now a.p.now a.za.now) a.word _ (outcome_refused _ _ (sym c.in-Err.is ∙ c.check_bench.ensures)))

pub returns-in-Ok : goal.returns-in-Ok
returns-in-Ok c =
    let a = c.args in
    let f = refused_by_word (on a.bench a.z.now a.p.now a.za.now) a.word (outcome_done _ (sym c.in-Ok.is ∙ c.check_bench.ensures)) in
    c.exchange_word.ensures ∙ rw f
