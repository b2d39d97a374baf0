-- `disassembly::list_all` meets its contract: what was listed, and what is left, make the whole. Assumes nothing.
use Rattle.disassembly.proofs.Progress.{Since}
use Rattle.disassembly.proofs.list_all.Given as goal

abbrev pub invariant-loop-k : goal.invariant-loop-k
invariant-loop-k l = Since l.input l.initial.room l.initial.address l.room l.address l.at l.k
