-- `machine::operands::halves_operand` meets its contract. Assumes nothing.
use mathlib.Core.Path.{◌∙◌, ap}
use native.Mathlib.Omega.{arith}
use Rattle.isa.specs.Table.{register}
use Rattle.machine.proofs.operands.halves_operand.Goals as goal

-- a register in range has a neighbour
pub overflow_add-v : goal.overflow_add-v
overflow_add-v c = omega (arith, ap register c.in-Pair.is, c.requires)

pub returns-in-One : goal.returns-in-One
returns-in-One c = c.halves.ensures ∙ rw c.in-One.is

pub returns-in-Pair : goal.returns-in-Pair
returns-in-Pair c = c.halves-in-Pair.ensures ∙ rw c.in-Pair.is
