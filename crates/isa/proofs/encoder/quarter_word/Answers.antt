-- `isa::encoder::quarter_word` meets its contract: its sum is the row's word, which has 32 bits. Assumes nothing.
use mathlib.Core.Path.{◌≡◌}
use mathlib.Core.Bool.{not, ◌&&◌}
use Prim.Native.Nat.{◌+◌}
use native.Mathlib.Omega.{arith}
use Rattle.isa.specs.Table.{word_for, fields_from}
use Rattle.isa.specs.declared.Instruction.TheVariants.{Quarter}
use Rattle.isa.proofs.Lines.{quarter_range, quarter-sum, bit_lt, u1_bit, word-described}
use Rattle.isa.proofs.encoder.quarter_word.Goals as goal
use Rattle.isa.proofs.encoder.quarter_word.Goals.{After-quarter_bits}

-- the sum is the row's word
sum_is : (c : After-quarter_bits) → c.by_shape-row.result + (c.operation_bits.result + c.quarter_bits.result) ≡ word_for (Quarter c.args.q)
sum_is c =
    let i = Quarter c.args.q in
    omega (arith, quarter-sum c.args.q.op (fields_from i), u1_bit c.args.q.op)

pub operation_bits-requires : goal.operation_bits-requires
operation_bits-requires c = omega (arith, quarter_range c.args.q c.requires)

pub quarter_bits-requires : goal.quarter_bits-requires
quarter_bits-requires c = omega (arith, quarter_range c.args.q c.requires)

pub overflow_add-result : goal.overflow_add-result
overflow_add-result c = let op = c.args.q.op in omega (arith, quarter_range c.args.q c.requires, bit_lt (op.u1 && not op.two_way))

pub overflow_add-result-2 : goal.overflow_add-result-2
overflow_add-result-2 c = record { fits = rw (sum_is c) (word-described (Quarter c.args.q) c.requires).fits }

pub returns : goal.returns
returns c = sum_is c
