-- `outer::task::Task::fetch` meets its contract: after j turns x holds j elements. Assumes nothing.
use Rattle.std.proofs.Common.{ℕ, ◌+◌, ◌*◌, ◌<◌}
use Rattle.outer.specs.Walks.{signed_at, ValuedIn}
use Rattle.outer.proofs.task.Task.fetch.Given as goal

abbrev pub invariant-loop-j : goal.invariant-loop-j
invariant-loop-j l =
    let t = l.task in
    (i : ℕ) → i < l.j → ValuedIn t.vb t.o t.z.now t.p.now t.o.first l.register (t.o.products * l.row + i) (signed_at l.x (2 * i))
