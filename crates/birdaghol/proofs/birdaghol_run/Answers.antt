-- `birdaghol::birdaghol_run` meets its contract: run's answer, packed. Assumes nothing.
use native.Mathlib.Omega.{arith}
use Rattle.birdaghol.proofs.Packing.{run_short, ended-packed}
use Rattle.birdaghol.proofs.birdaghol_run.Goals as goal

pub overflow_mul-result : goal.overflow_mul-result
overflow_mul-result c = omega (arith, (run_short _ _ _ c.run-ended.ensures.answer).0)

pub overflow_add-result : goal.overflow_add-result
overflow_add-result c = let (count, rest) = run_short _ _ _ c.run-ended.ensures.answer in omega (arith, c.refusal_of.ensures)

pub returns : goal.returns
returns c =
    let e = rw c.bench_of.ensures at c.run-ended.ensures in
    record { answer = ended-packed _ _ _ e.answer c.refusal_of.ensures; za_after = e.za_after }
