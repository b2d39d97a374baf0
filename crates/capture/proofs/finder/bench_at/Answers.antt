-- `capture::finder::bench_at` meets its contract. Assumes nothing.
use native.Mathlib.Omega.{arith}
use Rattle.capture.proofs.finder.bench_at.Goals as goal

pub overflow_cast-result : goal.overflow_cast-result
overflow_cast-result c = omega (arith, c.shared_slice_known-2-1.given 5)

pub returns : goal.returns
returns c = rw c.load_u16.ensures
