-- `updates::bench::shape_of` meets its contract. Assumes nothing.
use Rattle.outer.specs.Products.{bytes32, halves64, halves32}
use Rattle.updates.proofs.bench.shape_of.Goals as goal

pub returns-then-c : goal.returns-then-c
returns-then-c c = halves64

pub returns-then-c-2 : goal.returns-then-c-2
returns-then-c-2 c = halves32

pub returns : goal.returns
returns c = bytes32
