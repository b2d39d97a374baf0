-- A word with add and subtract exchanged (document 01, "The lists of demand 3").
use Rattle.std.specs.Prelude.{cond, ◌&&◌, ℕ, ◌+◌, ◌-◌, ◌/◌, ◌%◌, eqb}
use Rattle.isa.specs.Answers.{describe}
use Rattle.machine.specs.Machine.{Machine}
use Rattle.machine.specs.Instructions.{has_opposite}
use Rattle.machine.specs.Execution.{accepted}

-- bit 4 is S in every outer product
abbrev pub flip_s : ℕ → ℕ
flip_s w = cond (eqb (w / 16 % 2) 1) (w - 16) (w + 16)

-- S is flipped in an accepted word that has an opposite; any other word stays as it is
abbrev pub exchanged : Machine → ℕ → ℕ
exchanged m w = cond (accepted m w && has_opposite (describe w)) (flip_s w) w
