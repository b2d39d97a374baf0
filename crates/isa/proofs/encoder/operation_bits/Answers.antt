-- `isa::encoder::operation_bits` meets its contract: a bit is below 2, so no sum wraps. Assumes nothing.
use mathlib.Core.Bool.{not, ◌&&◌}
use Prim.Native.Nat.{◌<◌}
use native.Mathlib.Omega.{arith}
use Rattle.isa.specs.Table.{bit}
use Rattle.isa.specs.declared.Operation.{Operation}
use Rattle.isa.proofs.Lines.{bit_lt}
use Rattle.isa.proofs.encoder.operation_bits.Goals as goal

bits_lt : (op : Operation) → (bit op.u0 < 2) × (bit (op.u1 && not op.two_way) < 2) × (bit op.subtract < 2)
bits_lt op = (bit_lt op.u0, bit_lt (op.u1 && not op.two_way), bit_lt op.subtract)

pub overflow_mul-result : goal.overflow_mul-result
overflow_mul-result c = omega (arith, bits_lt c.args.op)

pub overflow_mul-result-2 : goal.overflow_mul-result-2
overflow_mul-result-2 c = omega (arith, bits_lt c.args.op)

pub overflow_add-result : goal.overflow_add-result
overflow_add-result c = omega (arith, bits_lt c.args.op)

pub overflow_mul-result-3 : goal.overflow_mul-result-3
overflow_mul-result-3 c = omega (arith, bits_lt c.args.op)

pub overflow_add-result-2 : goal.overflow_add-result-2
overflow_add-result-2 c = omega (arith, bits_lt c.args.op)

pub overflow_add-result-3 : goal.overflow_add-result-3
overflow_add-result-3 c = omega (arith, bits_lt c.args.op, c.requires)
