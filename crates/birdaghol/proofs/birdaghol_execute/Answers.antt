-- `birdaghol::birdaghol_execute` meets its contract: execute's answer, packed. Assumes nothing.
use mathlib.Core.Path.{◌∙◌}
use Rattle.birdaghol.proofs.Packing.{outcome-packed}
use Rattle.birdaghol.proofs.birdaghol_execute.Goals as goal

pub returns : goal.returns
returns c =
    let e = rw c.bench_of.ensures at c.execute.ensures in
    record { answer = c.refusal_of.ensures ∙ outcome-packed _ _ e.answer; za_after = e.za_after }
