-- `capture::finder::capture_of` meets its contract: what fails a test is no capture, and what passes them all is one. Assumes nothing.
use mathlib.Core.Path.{◌∙◌, sym}
use native.Mathlib.Omega.{arith}
use Rattle.machine.proofs.Tests.{outcome_done, outcome_refused}
use Rattle.capture.proofs.Captures.{not_four, not-words, not-modes, not_begun, found_begun}
use Rattle.capture.proofs.finder.capture_of.Goals as goal

pub returns-then-parts-ne4 : goal.returns-then-parts-ne4
returns-then-parts-ne4 c = not_four _ _ _ _ _ _ c.requires.five_parts c.if-parts-ne4.true

pub returns-then-parts-ne0 : goal.returns-then-parts-ne0
returns-then-parts-ne0 c = not-words _ _ _ _ _ _ c.requires.five_parts c.if-parts-ne0.true

pub returns-then-file-gt3 : goal.returns-then-file-gt3
returns-then-file-gt3 c = not-modes _ _ _ _ _ _ c.requires.five_parts c.if-file-gt3.true

pub returns-in-Err : goal.returns-in-Err
returns-in-Err c =
    not_begun _ _ _ _ _ _ c.requires.five_parts _ _ c.bench_at-bench.ensures (outcome_refused _ _ (sym c.in-Err.is ∙ c.check_run.ensures.answer))

pub returns-in-Ok : goal.returns-in-Ok
returns-in-Ok c =
    found_begun _ _ _ _ _ _ c.requires.five_parts _ c.bench_at-bench.ensures
    (λ i. omega (arith, c.shared_slice_known-1.given i)) c.requires.version c.if-parts-ne4.false c.if-parts-ne0.false c.if-file-gt3.false
    (outcome_done _ (sym c.in-Ok.is ∙ c.check_run.ensures.answer))
