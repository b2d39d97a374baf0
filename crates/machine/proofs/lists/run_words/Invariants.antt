-- `machine::lists::run_words` meets its contract: what is left of the list ends as the whole does. Assumes nothing.
use mathlib.Core.Path.{◌≡◌}
use lib.ListN.{length}
use Rattle.std.specs.Prelude.{Ok}
use Rattle.machine.specs.Machine.{on}
use Rattle.machine.specs.Lists.{at_start}
use Rattle.machine.proofs.Runs.{by_mask, Running}
use Rattle.machine.proofs.lists.run_words.Given as goal

abbrev pub invariant-loop-i : goal.invariant-loop-i
invariant-loop-i l =
    Running (at_start (on l.bench l.z l.p l.initial.za)) l.words (by_mask (on l.bench l.z l.p l.za) l.cleared) l.i
    × (l.ended ≡ record { count = length l.words; outcome = Ok tt })
