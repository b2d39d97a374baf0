-- `machine::executor::execute_next` meets its contract: by what the word is admitted as. Assumes nothing.
use mathlib.Core.Path.{◌≡◌, ◌∙◌, sym, ap, ap₂}
use mathlib.Core.List.{List, [], ◌∷◌}
use mathlib.Core.Option.{Option, none, some}
use Prim.Native.Nat.{ℕ}
use borrow.Author.Rules.{rules}
use Rattle.std.specs.Prelude.{Ok}
use Rattle.isa.specs.Refusals.{Test, first_failure}
use Rattle.isa.specs.Answers.{describe}
use Rattle.isa.specs.declared.Instruction.{Instruction}
use Rattle.isa.specs.declared.Refusal.{Refusal}
use Rattle.isa.proofs.Refusals.{handed_on}
use Rattle.isa.proofs.Theorems.{described_is}
use Rattle.storage.specs.Tile.{masked}
use Rattle.machine.specs.Machine.{Machine, on}
use Rattle.machine.specs.Execution.{effect, unless}
use Rattle.machine.specs.Clearing.{cleared_test}
use Rattle.machine.specs.Lists.{next_tests}
use Rattle.machine.proofs.Tests.{machine_passes, admit_accepted, admit_refused}
use Rattle.isa.specs.Answers.{decided}
use Rattle.machine.specs.declared.Bench.{Bench}
use Rattle.machine.proofs.executor.execute_next.Goals as goal

-- test 14 of a word
abbrev last : Bench → ℕ → ℕ → List Test
last b cleared w = cleared_test b.vb (masked cleared) (describe w) ∷ []

-- ZA by the word's refusal and its instruction
abbrev left : Machine → Option Refusal → Option Instruction → List ℕ
left m o d = (unless o m (effect m d)).za

admitted : (b : Bench) (cleared w : ℕ) {i : Instruction} → Ok i ≡ decided (first_failure (next_tests b (masked cleared) w)) (describe w)
    → (first_failure (next_tests b (masked cleared) w) ≡ none) × (describe w ≡ some i)
admitted b cleared w p = admit_accepted b w (last b cleared w) _ p

pub admit_next-requires : goal.admit_next-requires
admit_next-requires c =
    let b = machine_passes (on c.args.bench c.args.z.now c.args.p.now c.args.za.now) c.requires in
    (b.flags, b.length_legal)

pub perform-requires : goal.perform-requires
perform-requires c = record {
  bench_passes = c.requires;
  ranged = (described_is _ _ (search rules) (admitted c.args.bench c.args.cleared c.args.word c.in_ok-i.ensures).1).0;
}

pub returns-in_err-i : goal.returns-in_err-i
returns-in_err-i c =
    let a = c.args in
    let r = c.in_err-i.ensures in
    let f = admit_refused a.bench a.word (last a.bench a.cleared a.word) _ r in
    record { answer = handed_on c.from_residual.ensures.1 ∙ r; za_after = sym (ap (λ o. left (on a.bench a.z.now a.p.now a.za.now) o (describe a.word)) f) }

pub returns : goal.returns
returns c =
    let a = c.args in
    let (f, d) = admitted a.bench a.cleared a.word c.in_ok-i.ensures in
    record {
      answer = c.in_ok-i.ensures;
      za_after = c.perform.ensures ∙ sym (ap₂ (left (on a.bench a.z.now a.p.now a.za.now)) f d);
    }
