-- `machine::admission::admit` meets its contract: where every tile counts as cleared, 14 refuses nothing. Assumes nothing.
use mathlib.Core.Path.{◌∙◌, ap}
use Rattle.isa.specs.Answers.{describe, decided}
use Rattle.machine.proofs.Masks.{tested_singly}
use Rattle.machine.proofs.admission.admit.Goals as goal

pub admit_next-requires : goal.admit_next-requires
admit_next-requires c = c.requires

pub returns : goal.returns
returns c =
    let a = c.args in
    c.admit_next.ensures ∙ ap (λ o. decided o (describe a.word)) (tested_singly a.bench a.word)
