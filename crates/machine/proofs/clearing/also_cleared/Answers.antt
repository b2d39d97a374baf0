-- `machine::clearing::also_cleared` meets its contract: by the kind of instruction. Assumes nothing.
use mathlib.Core.Path.{◌≡◌, sym}
use mathlib.Core.Option.{none, some}
use borrow.Author.Rules.{rules}
use Rattle.machine.specs.Instructions.{mask_of}
use Rattle.machine.proofs.Masks.{or-false, masked_or}
use Rattle.machine.proofs.clearing.also_cleared.Goals as goal

pub returns-in-Predicated : goal.returns-in-Predicated
returns-in-Predicated c r = let m : mask_of (some c.args.i) ≡ none = search rules in rw m (sym (or-false _))

pub returns-in-Zero : goal.returns-in-Zero
returns-in-Zero c r = rw c.in-Zero.is (masked_or _ _ r)
