-- `isa::encoder::quarter_bits` meets its contract: a bit is below 2, so no sum wraps. Assumes nothing.
use mathlib.Core.Path.{ap}
use native.Mathlib.Omega.{arith}
use Rattle.isa.specs.Table.{bit}
use Rattle.isa.proofs.Lines.{bit_lt}
use Rattle.isa.proofs.encoder.quarter_bits.Goals as goal

pub overflow_mul-result : goal.overflow_mul-result
overflow_mul-result c = omega (arith, bit_lt c.is_pair.result)

pub overflow_add-result : goal.overflow_add-result
overflow_add-result c = omega (arith, bit_lt c.is_pair.result)

pub overflow_mul-result-3 : goal.overflow_mul-result-3
overflow_mul-result-3 c = omega (arith, bit_lt c.is_pair-2.result)

pub overflow_add-result-2 : goal.overflow_add-result-2
overflow_add-result-2 c = omega (arith, bit_lt c.is_pair.result, bit_lt c.is_pair-2.result)

pub overflow_add-result-3 : goal.overflow_add-result-3
overflow_add-result-3 c = omega (arith, bit_lt c.is_pair.result, bit_lt c.is_pair-2.result)

pub returns : goal.returns
returns c = omega (arith, ap bit c.is_pair.ensures, ap bit c.is_pair-2.ensures)
