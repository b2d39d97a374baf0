-- `outer::task::Task::add_plainly` meets its contract: after the rows and columns walked, ZA has their elements' products added.
-- Assumes nothing.
use Rattle.std.proofs.Common.{◌≡◌, ◌+◌, ◌*◌, ◌/◌, ℕ, List}
use Rattle.storage.specs.Modulo.{plus}
use Rattle.outer.specs.declared.OuterProduct.{OuterProduct}
use Rattle.outer.specs.Products.{directed_product, sum, sums}
use Rattle.outer.proofs.Progress.{Since}
use Rattle.outer.proofs.task.Task.add_plainly.Given as goal

-- elements a to b have their products added
abbrev Walked : ℕ → OuterProduct → List ℕ → List ℕ → ℕ → ℕ → List ℕ → List ℕ → Type 0
Walked vb o z p a b za₀ za = Since o.element vb o.tile.0 (sums vb o z p) a b za₀ za

abbrev pub invariant-loop-k : goal.invariant-loop-k
invariant-loop-k _ l = let t = l.self in l.sum ≡ plus t.o.element l.initial.sum (sum (directed_product t.o.element t.o.products t.vb t.o t.z.now t.p.now l.row l.col) l.k)

abbrev pub invariant-loop-col : goal.invariant-loop-col
invariant-loop-col _ l = let t = l.self in Walked t.vb t.o t.z.now t.p.now (l.row * (t.vb / t.o.element)) (l.row * (t.vb / t.o.element) + l.col) l.initial.za l.za

abbrev pub invariant-loop-row : goal.invariant-loop-row
invariant-loop-row _ l = let t = l.self in Walked t.vb t.o t.z.now t.p.now 0 (l.row * (t.vb / t.o.element)) l.initial.za l.za
