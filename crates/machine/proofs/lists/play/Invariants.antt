-- `machine::lists::play` meets its contract: what is left of the list ends as the whole does. Assumes nothing.
use Rattle.machine.specs.Machine.{on}
use Rattle.machine.proofs.Runs.{Playing}
use Rattle.machine.proofs.lists.play.Given as goal

abbrev pub invariant-loop-word : goal.invariant-loop-word
invariant-loop-word l = Playing (on l.bench l.z l.p l.initial.za) l.words (on l.bench l.z l.p l.za) l.word-index
