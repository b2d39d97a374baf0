-- `isa::decoder::tile_of` meets its contract, by its callee's; no element is without bytes. Assumes nothing.
use native.Mathlib.Omega.{arith}
use Rattle.isa.proofs.Lines.{element-between}
use Rattle.isa.proofs.decoder.tile_of.Goals as goal

pub nonzero_rem-result : goal.nonzero_rem-result
nonzero_rem-result c = omega (arith, element-between c.args.op)

pub returns : goal.returns
returns c = rw c.element_bytes.ensures
