-- `machine::lists::run_words` meets its contract: what is left of the list ends as the whole does. Assumes nothing.
use mathlib.Core.Path.{◌≡◌, ◌∙◌, sym, ap, refl}
use mathlib.Core.Bool.{◌||◌}
use mathlib.Core.List.{List, [], ◌∷◌}
use mathlib.Core.Option.{none, some}
use Prim.Native.Nat.{ℕ}
use native.Mathlib.Omega.{arith}
use lib.ListN.{length, get_or}
use Rattle.std.specs.Prelude.{Err, Ok, Result}
use Rattle.isa.specs.Refusals.{Test}
use Rattle.isa.specs.Answers.{describe}
use Rattle.storage.specs.Tile.{masked}
use Rattle.machine.specs.Machine.{on}
use Rattle.machine.specs.Instructions.{mask_of}
use Rattle.machine.specs.Clearing.{in_mask, cleared_test}
use Rattle.machine.specs.Lists.{Progress, next_refusal}
use Rattle.machine.proofs.Tests.{admit_accepted, admit_refused}
use Rattle.machine.proofs.Keeping.{same_tests}
use Rattle.machine.proofs.Runs.{by_mask, nothing_cleared, executed_next, run_start, run_turn, run_refused, run_end, as_single}
use Rattle.isa.specs.declared.Instruction.{Instruction}
use Rattle.isa.specs.declared.Refusal.{Refusal}
use Rattle.isa.specs.Answers.{decided}
use Rattle.machine.specs.declared.Bench.{Bench}
use Rattle.machine.proofs.lists.run_words.Goals as goal

-- ---- a word at hand: the machine that it meets, the tests before 14, and 14
module _ (b : Bench) (z p za : List ℕ) (cleared w : ℕ) where
  abbrev progress : Progress
  progress = by_mask (on b z p za) cleared

  abbrev last : List Test
  last = cleared_test b.vb (masked cleared) (describe w) ∷ []

  admitted : {r : Result Instruction Refusal} {i : Instruction} → r ≡ decided (next_refusal progress w) (describe w) → r ≡ Ok i
      → (next_refusal progress w ≡ none) × (describe w ≡ some i)
  admitted e q = admit_accepted b w last _ (sym q ∙ e)

  refused : {r : Result Instruction Refusal} {f : Refusal} → r ≡ decided (next_refusal progress w) (describe w) → r ≡ Err f → next_refusal progress w ≡ some f
  refused e q = admit_refused b w last _ (sym q ∙ e)

pub loop-i-init : goal.loop-i-init
loop-i-init c = (run_start _ _ _ (nothing_cleared _), refl)

-- what tests 1 to 5 ask stays, so the bench still passes
pub execute_next-requires : goal.execute_next-requires
execute_next-requires c = same_tests c.loop-i.invariant.0.alike ∙ c.requires

pub loop-i-preserved : goal.loop-i-preserved
loop-i-preserved c =
    let a = c.args in
    let l = c.loop-i in
    let w = get_or a.words.now l.i 0 in
    let s = progress a.bench a.z.now a.p.now l.za l.cleared w in
    let x = c.execute_next.ensures in
    let (f, d) = admitted a.bench a.z.now a.p.now l.za l.cleared w x.answer c.in-Ok.is in (
      run_turn _ _ s _ l.invariant.0 c.loop-i-test.true _ f
          (executed_next s.machine l.cleared w _ _ (as_single s w _ (same_tests l.invariant.0.alike ∙ c.requires) f x.za_after)
          (λ r. c.also_cleared-cleared.ensures r ∙ ap (λ o. masked l.cleared r || in_mask (mask_of o) r) (sym d))),
      l.invariant.1,
    )

pub returns-after-loop-i : goal.returns-after-loop-i
returns-after-loop-i c =
    let n : length c.args.words.now ≡ c.loop-i.i = omega (arith, c.loop-i.invariant.0.within) in
    rw (c.loop-i.invariant.1, n) (run_end _ _ _ _ c.loop-i.invariant.0 (omega arith))

pub returns-in-Err : goal.returns-in-Err
returns-in-Err c =
    let a = c.args in
    let l = c.loop-i in
    let w = get_or a.words.now l.i 0 in
    let e = c.execute_next.ensures in
    run_refused _ _ (progress a.bench a.z.now a.p.now l.za l.cleared w) _ l.invariant.0 c.loop-i-test.true _ _
    (refused a.bench a.z.now a.p.now l.za l.cleared w e.answer c.in-Err.is) e.za_after
