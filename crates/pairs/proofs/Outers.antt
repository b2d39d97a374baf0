-- An accepted outer product as what it adds: its operands, its tile, and what it does to ZA. Assumes nothing.
use mathlib.Core.Path.{◌≡◌, refl, sym, ap, ◌∙◌}
use mathlib.Core.Bool.{true, false≢true}
use mathlib.Core.List.{List, [], ◌∷◌}
use mathlib.Core.Option.{Option, none, some}
use Prim.Native.Nat.{ℕ}
use lib.ListN.{length}
use Rattle.isa.specs.Refusals.{first_failure}
use Rattle.isa.specs.Answers.{describe}
use Rattle.isa.specs.declared.Refusal.{Refusal}
use Rattle.isa.specs.declared.Instruction.{Instruction}
use Rattle.isa.specs.declared.Instruction.TheVariants.{Predicated, Quarter, Zero}
use Rattle.isa.proofs.Theorems.{described_in_range}
use Rattle.storage.specs.Tile.{add_to}
use Rattle.storage.proofs.Laws.{add_to-length}
use Rattle.outer.specs.declared.OuterProduct.{OuterProduct}
use Rattle.outer.specs.Products.{sums, Shaped, Ready}
use Rattle.machine.specs.Machine.{Machine, with_za}
use Rattle.machine.specs.Operands.{predicated_outer, quarter_outer}
use Rattle.machine.specs.Instructions.{is_outer, outer_of, TileName, tile_named}
use Rattle.machine.specs.Execution.{machine_tests, refusal_of, none?, accepted}
use Rattle.machine.specs.Claims.{BenchPasses}
use Rattle.machine.proofs.Tests.{machine_passes}
use Rattle.machine.proofs.Execution.{refused_by_bench}
use Rattle.machine.proofs.Ready.{predicated_ready, quarter_ready}
use Rattle.machine.proofs.Acts.{Width, add, step}
use Rattle.machine.proofs.Links.{next, played_next, element_width, act, act_does}
use Rattle.pairs.specs.Order.{in_turn}

-- ---- an accepted word: nothing refuses it, and the bench passes 1 to 5
not_refused : (o : Option Refusal) → none? o ≡ true → o ≡ none
not_refused none h = refl
not_refused (some r) h = absurd (false≢true h)

pub bench_passes : (m : Machine) (w : ℕ) → accepted m w ≡ true → BenchPasses m
bench_passes m w h = go (first_failure (machine_tests m)) refl
  where
    go : (o : Option Refusal) → first_failure (machine_tests m) ≡ o → BenchPasses m
    go none e = machine_passes m e
    go (some r) e = absurd (false≢true (sym (ap none? (refused_by_bench m w r e)) ∙ h))

-- ---- the outer product that an accepted word is, ready to be executed
abbrev pub tile_of : OuterProduct → TileName
tile_of o = record { E = o.element; tile = o.tile.0 }

pub record Outer (m : Machine) (w : ℕ) : Type 0 where
  pub accepts : accepted m w ≡ true
  pub outer : is_outer (describe w) ≡ true
  pub o : OuterProduct
  pub is : outer_of (describe w) ≡ some o
  pub names : tile_named (describe w) ≡ some (tile_of o)
  pub width : Width o.element
  pub shaped : Shaped o.element o.products
  pub ready : Ready o.element m.bench.vb o m.z m.p

pub outer_word : (m : Machine) (w : ℕ) → accepted m w ≡ true → is_outer (describe w) ≡ true → Outer m w
outer_word m w h q = go (describe w) refl
  where
    fits : BenchPasses m
    fits = bench_passes m w h

    go : (d : Option Instruction) → describe w ≡ d → Outer m w
    go none e = absurd (false≢true (sym (ap is_outer e) ∙ q))
    go (some (Predicated x)) e =
        let (s, r) = predicated_ready m fits x (described_in_range w _ e) in
        record {
          accepts = h;
          outer = q;
          o = predicated_outer x;
          is = ap outer_of e;
          names = ap tile_named e;
          width = element_width x.op;
          shaped = s;
          ready = r;
        }
    go (some (Quarter x)) e =
        let (s, r) = quarter_ready m fits x (described_in_range w _ e) in
        record {
          accepts = h;
          outer = q;
          o = quarter_outer x;
          is = ap outer_of e;
          names = ap tile_named e;
          width = element_width x.op;
          shaped = s;
          ready = r;
        }
    go (some (Zero mask)) e = absurd (false≢true (sym (ap is_outer e) ∙ q))

-- ---- what it adds, and two of them in turn
module _ (m : Machine) where
  abbrev pub addition : OuterProduct → List ℕ → List ℕ
  addition o za = add_to o.element m.bench.vb o.tile.0 (sums m.bench.vb o m.z m.p) za

  outer_does : (w : ℕ) (x : Outer m w) (za : List ℕ) → length za ≡ length m.za → next m za w ≡ addition x.o za
  outer_does w x za e = act_does m za e w (λ k. x.outer) ∙ ap (λ a. step m.bench.vb a za) adds
    where
      adds : act m w ≡ add x.o.element x.o.tile.0 (sums m.bench.vb x.o m.z m.p)
      adds = rw (not_refused (refusal_of m w) x.accepts, x.is)

  pub in_turn_lem : (a b : ℕ) (x : Outer m a) (y : Outer m b) → in_turn m a b ≡ with_za m (addition y.o (addition x.o m.za))
  in_turn_lem a b x y =
      played_next m (a ∷ b ∷ []) m.za
      ∙ ap (with_za m)
      (ap (λ (za : List ℕ). next m za b) (outer_does a x m.za refl)
      ∙ outer_does b y (addition x.o m.za) (add_to-length x.o.element m.bench.vb x.o.tile.0 _ m.za))
