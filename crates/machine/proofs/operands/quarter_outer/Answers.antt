-- `machine::operands::quarter_outer` meets its contract, by its callees'. Assumes nothing.
use mathlib.Core.Path.{◌∙◌}
use native.Mathlib.Omega.{arith}
use Rattle.isa.proofs.Lines.{quarter_range}
use Rattle.machine.proofs.operands.quarter_outer.Goals as goal

pub halves_operand-first-requires : goal.halves_operand-first-requires
halves_operand-first-requires c = omega (arith, quarter_range c.args.q c.requires)

pub halves_operand-second-requires : goal.halves_operand-second-requires
halves_operand-second-requires c = omega (arith, quarter_range c.args.q c.requires)

pub returns : goal.returns
returns c = c.outer_product.ensures ∙ rw (c.halves_operand-first.ensures, c.halves_operand-second.ensures)
