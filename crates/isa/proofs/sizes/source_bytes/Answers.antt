-- `isa::sizes::source_bytes` meets its contract, by its callees'. Assumes nothing.
use mathlib.Core.Path.{ap₂}
use Prim.Native.Nat.{◌/◌}
use native.Mathlib.Omega.{arith}
use Rattle.isa.proofs.Lines.{products_some}
use Rattle.isa.proofs.sizes.source_bytes.Goals as goal

pub nonzero_div-result : goal.nonzero_div-result
nonzero_div-result c = omega (arith, products_some c.args.op)

pub returns : goal.returns
returns c = ap₂ ◌/◌ c.element_bytes.ensures c.products.ensures
