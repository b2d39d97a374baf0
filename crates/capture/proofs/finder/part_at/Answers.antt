-- `capture::finder::part_at` meets its contract. Assumes nothing.
use native.Mathlib.Omega.{arith}
use Rattle.capture.proofs.Partition.{no_length, no_bytes, whole_part}
use Rattle.capture.proofs.finder.part_at.Goals as goal

pub returns-then-file-i-lt4 : goal.returns-then-file-i-lt4
returns-then-file-i-lt4 c = let a = c.args in no_length a.file.now a.i (omega arith) (omega arith)

pub returns-then-file-i : goal.returns-then-file-i
returns-then-file-i c = let a = c.args in no_bytes a.file.now a.i (omega arith) (omega arith)

pub returns : goal.returns
returns c =
    let a = c.args in
    rw c.load_u32-n.ensures (whole_part a.file.now a.i (λ i. omega (arith, c.shared_slice_known-1.given i)) (omega arith))
