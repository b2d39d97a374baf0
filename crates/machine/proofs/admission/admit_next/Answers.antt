-- `machine::admission::admit_next` meets its contract: by decode's answer, then by the modes and the tile. Assumes nothing.
use mathlib.Core.Path.{◌≡◌, ◌∙◌, sym, ap, ap₂}
use mathlib.Core.Bool.{Bool, true, not}
use mathlib.Core.List.{List, [], ◌∷◌, ◌++◌}
use mathlib.Core.Option.{Option, some}
use borrow.Author.Rules.{rules}
use Rattle.std.specs.Prelude.{Ok, Result}
use Rattle.isa.specs.Refusals.{Test, first_failure}
use Rattle.isa.specs.Answers.{describe, decided, decode_of}
use Rattle.isa.specs.declared.Refusal.{Refusal}
use Rattle.isa.specs.declared.Refusal.TheVariants.{NotCleared}
use Rattle.isa.specs.declared.Instruction.{Instruction}
use Rattle.isa.proofs.Answers.{decode_passed}
use Rattle.isa.proofs.Refusals.{handed_on}
use Rattle.isa.proofs.Theorems.{described_is}
use Rattle.storage.specs.Tile.{masked}
use Rattle.machine.specs.declared.Modes.{Modes}
use Rattle.machine.specs.Instructions.{modes_of}
use Rattle.machine.specs.Execution.{mode_tests, outcome}
use Rattle.machine.specs.Clearing.{cleared_test}
use Rattle.machine.specs.Lists.{next_tests}
use Rattle.machine.proofs.Tests.{outcome_done, outcome_refused, word_refused, word-accepted}
use Prim.Native.Nat.{ℕ, ◌≤◌}
use Rattle.storage.specs.Sizes.{legal}
use Rattle.isa.specs.Table.{all_flags}
use Rattle.machine.specs.declared.Bench.{Bench}
use Rattle.machine.specs.Instructions.{tile_named}
use Rattle.machine.specs.Clearing.{TellsCleared}
use Rattle.machine.proofs.admission.admit_next.Goals as goal

-- test 14 of an instruction, and the refusal that 7 to 10 and 14 give
abbrev last : Bench → ℕ → Option Instruction → List Test
last b cleared d = cleared_test b.vb (masked cleared) d ∷ []

abbrev refusal : Bench → ℕ → ℕ → Option Refusal
refusal b cleared w = first_failure (next_tests b (masked cleared) w)

-- ---- a word that decode accepts
module _ (b : Bench) (w : ℕ) {i : Instruction} (e : Ok i ≡ decode_of b.flags w) where
  is_described : describe w ≡ some i
  is_described = (decode_passed _ _ _ (sym e)).1

  -- what is left are the modes and the tile
  tested : (cleared : ℕ) {o : Result Unit Refusal} {n : Modes} {t : Bool} → b.flags ≤ all_flags → legal b.vb ≡ true
      → o ≡ outcome (first_failure (mode_tests b n ++ (record { fails = not t; gives = NotCleared } ∷ [])))
      → n ≡ modes_of (some i) → TellsCleared t cleared (tile_named (some i)) → o ≡ outcome (refusal b cleared w)
  tested cleared l v u m k =
      u
      ∙ ap₂ (λ (n : Modes) (t : Bool). outcome (first_failure (mode_tests b n ++ (record { fails = not t; gives = NotCleared } ∷ [])))) m (k b.vb v)
      ∙ sym (ap outcome (word-accepted b w l (last b cleared (describe w)) _ (sym e)
      ∙ ap (λ d. first_failure (mode_tests b (modes_of (some i)) ++ last b cleared d)) is_described))

pub named_cleared-requires : goal.named_cleared-requires
named_cleared-requires c = (described_is _ _ (search rules) (is_described c.args.bench c.args.word c.in_ok-i.ensures.answer)).0

pub returns-in_err-i : goal.returns-in_err-i
returns-in_err-i c =
    let w = c.args.word in
    let f = word_refused c.args.bench w c.requires.0 (last c.args.bench c.args.cleared (describe w)) _ (sym c.in_err-i.ensures.answer) in
    handed_on c.from_residual.ensures.1 ∙ sym (ap (λ o. decided o (describe w)) f)

pub returns-in_err-check_needs : goal.returns-in_err-check_needs
returns-in_err-check_needs c =
    let a = c.args in
    let t = tested a.bench a.word c.in_ok-i.ensures.answer a.cleared c.requires.0 c.requires.1
    c.in_err-check_needs.ensures c.modes_of.ensures c.named_cleared.ensures in
    handed_on c.from_residual-in_err-check_needs.ensures.1
    ∙ sym (ap (λ o. decided o (describe a.word)) (outcome_refused (refusal a.bench a.cleared a.word) _ t))

pub returns : goal.returns
returns c =
    let a = c.args in
    let t = tested a.bench a.word c.in_ok-i.ensures.answer a.cleared c.requires.0 c.requires.1
    c.in_ok-check_needs.ensures c.modes_of.ensures c.named_cleared.ensures in
    sym (ap₂ decided (outcome_done (refusal a.bench a.cleared a.word) t) (is_described a.bench a.word c.in_ok-i.ensures.answer))
