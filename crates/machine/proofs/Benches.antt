-- What tests 1 to 5 leave: a bench that fails one refuses every word, and one that passes them has rows of whole elements.
-- Assumes nothing.
use mathlib.Core.Path.{◌≡◌, refl}
use mathlib.Core.Option.{Option, none, some}
use Prim.Native.Nat.{ℕ}
use lib.ListN.{length}
use Rattle.isa.specs.Refusals.{first_failure}
use Rattle.isa.specs.declared.Refusal.{Refusal}
use Rattle.storage.specs.Sizes.{za_size}
use Rattle.storage.proofs.Sizes.{Length, legal-length}
use Rattle.machine.specs.Machine.{Machine}
use Rattle.machine.specs.Execution.{machine_tests, refusal_of}
use Rattle.machine.proofs.Tests.{machine_passes}
use Rattle.machine.proofs.Execution.{refused_by_bench}

module _ (m : Machine) where
  -- the bench refuses every word, or its sizes are right
  pub data Judged : Type 0 where
    refuses : (r : Refusal) → ((w : ℕ) → refusal_of m w ≡ some r) → Judged
    sound : Length m.bench.vb → length m.za ≡ za_size m.bench.vb → Judged

  pub judged : Judged
  judged = go (first_failure (machine_tests m)) refl
    where
      go : (o : Option Refusal) → first_failure (machine_tests m) ≡ o → Judged
      go (some r) e = refuses r (λ w. refused_by_bench m w r e)
      go none e =
          let q = machine_passes m e in
          sound (legal-length m.bench.vb q.length_legal) q.za_sized
