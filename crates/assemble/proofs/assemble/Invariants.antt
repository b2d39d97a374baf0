-- `assemble::assemble` meets its contract: the lines so far make what was counted. Assumes nothing.
use Rattle.std.proofs.Common.{◌≡◌, map}
use Rattle.assemble.specs.Kernel.{words_after, refused_after, count_over}
use Rattle.assemble.proofs.assemble.Given as goal

abbrev pub invariant-loop-i : goal.invariant-loop-i
invariant-loop-i l =
    (l.counts.words ≡ count_over words_after 0 (map (λ x. x.1.now) l.yielded)) × (l.counts.refused ≡ count_over refused_after 0 (map (λ x. x.1.now) l.yielded))
