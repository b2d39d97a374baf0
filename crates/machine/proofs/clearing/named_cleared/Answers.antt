-- `machine::clearing::named_cleared` meets its contract: by the kind of instruction. Assumes nothing.
use mathlib.Core.Path.{◌∙◌, sym, ap}
use Rattle.isa.specs.Table.{in_range}
use Rattle.machine.proofs.Ready.{predicated_tile, quarter_tile}
use Rattle.machine.proofs.clearing.named_cleared.Goals as goal

pub tile_cleared-requires : goal.tile_cleared-requires
tile_cleared-requires c =
    predicated_tile c.in-Predicated.p (sym (ap in_range c.in-Predicated.is) ∙ c.requires)

pub tile_cleared-requires-in-Quarter : goal.tile_cleared-requires-in-Quarter
tile_cleared-requires-in-Quarter c =
    quarter_tile c.in-Quarter.q (sym (ap in_range c.in-Quarter.is) ∙ c.requires)

pub returns-in-Predicated : goal.returns-in-Predicated
returns-in-Predicated c vb l = rw c.in-Predicated.is (c.tile_cleared.ensures vb l)

pub returns-in-Quarter : goal.returns-in-Quarter
returns-in-Quarter c vb l = rw c.in-Quarter.is (c.tile_cleared-in-Quarter.ensures vb l)

pub returns-in-Zero : goal.returns-in-Zero
returns-in-Zero c vb l = rw c.in-Zero.is
