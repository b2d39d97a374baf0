-- `machine::executor::perform` meets its contract: by the kind of instruction. Assumes nothing.
use mathlib.Core.Path.{◌∙◌, sym, ap}
use Rattle.isa.specs.Table.{in_range}
use Rattle.machine.specs.Machine.{on}
use Rattle.machine.proofs.Tests.{machine_passes}
use Rattle.machine.proofs.Ready.{predicated_ready, quarter_ready}
use Rattle.machine.proofs.executor.perform.Goals as goal

pub update-requires : goal.update-requires
update-requires c =
    let m = on c.args.bench c.args.z.now c.args.p.now c.args.za.now in
    let b = machine_passes m c.requires.bench_passes in
    let i = c.in-Predicated in
    let (h, r) = predicated_ready m b i.product (sym (ap in_range i.is) ∙ c.requires.ranged) in
    record { shaped = rw c.predicated_outer.ensures h; ready = rw c.predicated_outer.ensures r; za_len = b.za_sized }

pub quarter_outer-requires : goal.quarter_outer-requires
quarter_outer-requires c = sym (ap in_range c.in-Quarter.is) ∙ c.requires.ranged

pub update-requires-in-Quarter : goal.update-requires-in-Quarter
update-requires-in-Quarter c =
    let m = on c.args.bench c.args.z.now c.args.p.now c.args.za.now in
    let b = machine_passes m c.requires.bench_passes in
    let i = c.in-Quarter in
    let (h, r) = quarter_ready m b i.product (sym (ap in_range i.is) ∙ c.requires.ranged) in
    record { shaped = rw c.quarter_outer.ensures h; ready = rw c.quarter_outer.ensures r; za_len = b.za_sized }

pub clear_tiles-requires : goal.clear_tiles-requires
clear_tiles-requires c =
    let b = machine_passes (on c.args.bench c.args.z.now c.args.p.now c.args.za.now) c.requires.bench_passes in
    (b.length_legal, b.za_sized)

pub returns-in-Predicated : goal.returns-in-Predicated
returns-in-Predicated c = rw c.in-Predicated.is (rw c.predicated_outer.ensures at c.update.ensures)

pub returns-in-Quarter : goal.returns-in-Quarter
returns-in-Quarter c = rw c.in-Quarter.is (rw c.quarter_outer.ensures at c.update-in-Quarter.ensures)

pub returns-in-Zero : goal.returns-in-Zero
returns-in-Zero c = rw c.in-Zero.is c.clear_tiles.ensures
