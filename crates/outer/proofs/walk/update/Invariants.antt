-- `outer::walk::update` meets its contract: the rows before `row` have their products added, and the planes have the second
-- source's register that they are said to hold. Assumes nothing.
use Rattle.std.proofs.Common.{◌*◌, ◌/◌, IfSome}
use Rattle.outer.specs.Products.{sums}
use Rattle.outer.specs.Walks.{Planes}
use Rattle.outer.proofs.Progress.{Since}
use Rattle.outer.proofs.walk.update.Given as goal

abbrev pub invariant-loop-row : goal.invariant-loop-row
invariant-loop-row l =
    IfSome l.held (λ h. Planes l.vb l.o l.z l.p h l.y)
    × Since l.o.element l.vb l.o.tile.0 (sums l.vb l.o l.z l.p) 0 (l.row * (l.vb / l.o.element)) l.initial.za l.za
