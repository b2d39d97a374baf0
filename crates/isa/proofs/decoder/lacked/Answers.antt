-- `isa::decoder::lacked` meets its contract: each branch is the case that its test decides. Assumes nothing.
use borrow.Author.Rules.{rules}
use borrow.Author.Tests.{eq-eqb, ne_eqb}
use Rattle.isa.proofs.decoder.lacked.Goals as goal

pub returns-then-flags-flag-eq1 : goal.returns-then-flags-flag-eq1
returns-then-flags-flag-eq1 c = record { answer = rw (eq-eqb _ _ c.if-flags-flag-eq1.true); upper_bound = search rules }

pub returns-else-flags-flag-eq1 : goal.returns-else-flags-flag-eq1
returns-else-flags-flag-eq1 c = record { answer = rw (ne_eqb _ _ c.if-flags-flag-eq1.false); upper_bound = search rules }
