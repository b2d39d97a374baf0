-- `pairs::instructions_clash` meets its contract: by the kind of the first instruction. Assumes nothing.
use mathlib.Core.Path.{◌∙◌, sym, ap}
use Rattle.isa.specs.Table.{in_range}
use Rattle.machine.proofs.Ready.{predicated_tile, quarter_tile}
use Rattle.pairs.proofs.instructions_clash.Goals as goal

pub tile_clashes-requires : goal.tile_clashes-requires
tile_clashes-requires c =
    (predicated_tile c.in-Predicated.p (sym (ap in_range c.in-Predicated.is) ∙ c.requires.0), c.requires.1)

pub tile_clashes-requires-in-Quarter : goal.tile_clashes-requires-in-Quarter
tile_clashes-requires-in-Quarter c =
    (quarter_tile c.in-Quarter.q (sym (ap in_range c.in-Quarter.is) ∙ c.requires.0), c.requires.1)

pub returns-in-Predicated : goal.returns-in-Predicated
returns-in-Predicated c = rw c.in-Predicated.is c.tile_clashes.ensures

pub returns-in-Quarter : goal.returns-in-Quarter
returns-in-Quarter c = rw c.in-Quarter.is c.tile_clashes-in-Quarter.ensures
