-- `outer::task::Task::element` meets its contract. Assumes nothing.
use Rattle.outer.proofs.Shapes.{shape}
use Rattle.outer.proofs.Elements.{valued_off, valued_on, valued_back, valued_as}
use Rattle.outer.proofs.task.Task.element.Goals as goal

pub returns-then-not-is_active : goal.returns-then-not-is_active
returns-then-not-is_active c = valued_as c.source_bytes-b.ensures.is (valued_off _ _ _ _ _ _ _ c.is_active.ensures c.if-not-is_active.true)

pub returns : goal.returns
returns c =
    valued_back (shape c.args.self.now.shaped).source
    (valued_as c.source_bytes-b.ensures.is (valued_on _ _ _ _ _ _ _ c.is_active.ensures c.if-not-is_active.false c.read.ensures))
