-- `outer::task::Task::widen` meets its contract: the columns before c have their elements, and column c has j. Assumes nothing.
use Rattle.std.proofs.Common.{ℕ, ◌+◌, ◌*◌, ◌/◌, ◌%◌, ◌<◌, List, ℤ}
use Rattle.outer.specs.declared.task.Task.{Task}
use Rattle.outer.specs.Walks.{signed_at, Turned}
use Rattle.outer.proofs.Arrays.{Filled}
use Rattle.outer.proofs.task.Task.widen.Given as goal

-- what place n of the planes should have
abbrev pub Is : Task → ℕ → ℕ → ℤ → Type 0
Is t register n v = Turned t.vb t.o t.z.now t.p.now register (t.o.products * (n % 64) + n / 64) v

abbrev pub Filling : Task → ℕ → ℕ → ℕ → List ℤ → Type 0
Filling t register c j y = (n : ℕ) → n / 64 < t.o.products → Filled c j n → Is t register n (signed_at y n)

abbrev pub invariant-loop-j : goal.invariant-loop-j
invariant-loop-j l = Filling l.task l.register l.c l.j l.y

abbrev pub invariant-loop-c : goal.invariant-loop-c
invariant-loop-c l = Filling l.task l.register l.c 0 l.y
