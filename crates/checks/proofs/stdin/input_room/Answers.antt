-- `checks::stdin::input_room` meets its contract. The law is given its type and level: found by unification, they would have
-- antt count the list. Assumes nothing.
use Rattle.std.proofs.Common.{ℕ, sym, refl}
use lib.ListN.{length-replicate}
use Rattle.checks.specs.Stdin.{input_room}
use Rattle.checks.proofs.stdin.input_room.Goals as goal

pub returns : goal.returns
returns c = record { answer = refl; len = sym (length-replicate {0} {A = ℕ} input_room 0) }
