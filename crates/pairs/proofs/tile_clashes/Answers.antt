-- `pairs::tile_clashes` meets its contract: by the kind of the other instruction. Assumes nothing.
use mathlib.Core.Path.{◌∙◌, sym, ap}
use Rattle.isa.specs.Table.{in_range}
use Rattle.machine.proofs.Ready.{predicated_tile, quarter_tile}
use Rattle.pairs.proofs.tile_clashes.Goals as goal

pub tiles_clash-requires : goal.tiles_clash-requires
tiles_clash-requires c =
    (c.requires.0, predicated_tile c.in-Predicated.p (sym (ap in_range c.in-Predicated.is) ∙ c.requires.1))

pub tiles_clash-requires-in-Quarter : goal.tiles_clash-requires-in-Quarter
tiles_clash-requires-in-Quarter c =
    (c.requires.0, quarter_tile c.in-Quarter.q (sym (ap in_range c.in-Quarter.is) ∙ c.requires.1))

pub returns-in-Predicated : goal.returns-in-Predicated
returns-in-Predicated c = rw c.in-Predicated.is c.tiles_clash.ensures

pub returns-in-Quarter : goal.returns-in-Quarter
returns-in-Quarter c = rw c.in-Quarter.is c.tiles_clash-in-Quarter.ensures
