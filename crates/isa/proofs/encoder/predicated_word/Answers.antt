-- `isa::encoder::predicated_word` meets its contract: its sum is the row's word, which has 32 bits. Assumes nothing.
use mathlib.Core.Path.{◌≡◌}
use mathlib.Core.Bool.{not, ◌&&◌}
use Prim.Native.Nat.{◌+◌}
use native.Mathlib.Omega.{arith}
use Rattle.isa.specs.Table.{word_for, fields_from}
use Rattle.isa.specs.declared.Instruction.TheVariants.{Predicated}
use Rattle.isa.proofs.Lines.{predicated_range, predicated-sum, bit_lt, u1_bit, word-described}
use Rattle.isa.proofs.encoder.predicated_word.Goals as goal
use Rattle.isa.proofs.encoder.predicated_word.Goals.{After-predicated_bits}

-- the sum is the row's word
sum_is : (c : After-predicated_bits) → c.by_shape-row.result + (c.operation_bits.result + c.predicated_bits.result) ≡ word_for (Predicated c.args.p)
sum_is c =
    let i = Predicated c.args.p in
    omega (arith, predicated-sum c.args.p.op (fields_from i), u1_bit c.args.p.op)

pub operation_bits-requires : goal.operation_bits-requires
operation_bits-requires c = omega (arith, predicated_range c.args.p c.requires)

pub predicated_bits-requires : goal.predicated_bits-requires
predicated_bits-requires c = omega (arith, predicated_range c.args.p c.requires)

pub overflow_add-result : goal.overflow_add-result
overflow_add-result c = let op = c.args.p.op in omega (arith, predicated_range c.args.p c.requires, bit_lt (op.u1 && not op.two_way))

pub overflow_add-result-2 : goal.overflow_add-result-2
overflow_add-result-2 c = record { fits = rw (sum_is c) (word-described (Predicated c.args.p) c.requires).fits }

pub returns : goal.returns
returns c = sum_is c
