-- `machine::executor::execute_word` meets its contract: where every tile counts as cleared, 14 refuses nothing. Assumes nothing.
use mathlib.Core.Path.{◌≡◌, ◌∙◌, sym, ap}
use mathlib.Core.List.{[]}
use Rattle.std.specs.Prelude.{Result}
use Rattle.isa.specs.declared.Instruction.{Instruction}
use Rattle.isa.specs.declared.Refusal.{Refusal}
use Rattle.isa.specs.Refusals.{first_failure}
use Rattle.isa.specs.Answers.{describe, decided}
use Rattle.storage.specs.Tile.{masked}
use Rattle.isa.proofs.Refusals.{handed_on}
use Rattle.machine.specs.Machine.{Machine, on}
use Rattle.machine.specs.Execution.{left_by, word_left, outcome}
use Rattle.machine.specs.Lists.{next_tests}
use Rattle.machine.proofs.Tests.{admit_accepted, admit_refused}
use Rattle.machine.proofs.Masks.{tested_singly}
use Prim.Native.Nat.{ℕ}
use Rattle.machine.specs.declared.Bench.{Bench}
use Rattle.machine.specs.Execution.{word_tests}
use Rattle.machine.proofs.executor.execute_word.Goals as goal

-- what is answered and what is left, by tests 7 to 10 alone
answered : (b : Bench) (w : ℕ) {r : Result Instruction Refusal} → r ≡ decided (first_failure (next_tests b (masked 255) w)) (describe w)
    → r ≡ decided (first_failure (word_tests b w)) (describe w)
answered b w e = e ∙ ap (λ o. decided o (describe w)) (tested_singly b w)

left : (m : Machine) (w : ℕ) → (left_by m w (first_failure (next_tests m.bench (masked 255) w))).za ≡ (word_left m w).za
left m w = ap (λ o. (left_by m w o).za) (tested_singly m.bench w)

pub execute_next-requires : goal.execute_next-requires
execute_next-requires c = c.requires

pub returns-in_err-execute_next : goal.returns-in_err-execute_next
returns-in_err-execute_next c =
    let a = c.args in
    let e = c.in_err-execute_next.ensures in
    record {
      answer = handed_on c.from_residual.ensures.1 ∙ sym (ap outcome (admit_refused a.bench a.word [] _ (answered a.bench a.word e.answer)));
      za_after = e.za_after ∙ left (on a.bench a.z.now a.p.now a.za.now) a.word;
    }

pub returns : goal.returns
returns c =
    let a = c.args in
    let e = c.in_ok-execute_next.ensures in
    record {
      answer = sym (ap outcome (admit_accepted a.bench a.word [] _ (answered a.bench a.word e.answer)).0);
      za_after = e.za_after ∙ left (on a.bench a.z.now a.p.now a.za.now) a.word;
    }
