-- What stays under outer products and ZERO: the bench, Z, P and the length of ZA, so that an answer stays too; and what tests
-- 1 to 5 ask. Assumes nothing.
use mathlib.Core.Path.{◌≡◌, ◌∙◌, refl, sym, ap}
use mathlib.Core.List.{List, [], ◌∷◌}
use mathlib.Core.Option.{Option, none, some}
use Prim.Native.Nat.{ℕ}
use lib.ListN.{length}
use Rattle.isa.specs.Refusals.{first_failure}
use Rattle.isa.specs.Answers.{describe}
use Rattle.isa.specs.declared.Refusal.{Refusal}
use Rattle.isa.specs.declared.Instruction.{Instruction}
use Rattle.storage.proofs.Laws.{add_to-length}
use Rattle.storage.proofs.Clearing.{clear-length}
use Rattle.machine.specs.declared.Bench.{Bench}
use Rattle.machine.specs.Machine.{Machine, with_za}
use Rattle.machine.specs.Instructions.{mask_of}
use Rattle.machine.specs.Execution.{machine_tests, refusal_of, Addition, addition_of, added, cleared, effect, unless, after}
use Rattle.machine.specs.Lists.{played}
use Rattle.machine.specs.Claims.{Keeps}

pub keeps_refl : (m : Machine) → Keeps m m
keeps_refl m = record { bench = refl; z = refl; p = refl; za_length = refl }

pub keeps_trans : {m n o : Machine} → Keeps m n → Keeps n o → Keeps m o
keeps_trans k l = record { bench = l.bench ∙ k.bench; z = l.z ∙ k.z; p = l.p ∙ k.p; za_length = l.za_length ∙ k.za_length }

pub keeps_sym : {m n : Machine} → Keeps m n → Keeps n m
keeps_sym k = record { bench = sym k.bench; z = sym k.z; p = sym k.p; za_length = sym k.za_length }

pub za_keeps : (m : Machine) (za : List ℕ) → length za ≡ length m.za → Keeps m (with_za m za)
za_keeps m za e = record { bench = refl; z = refl; p = refl; za_length = e }

added_keeps : (m : Machine) (x : Option Addition) → Keeps m (added m x)
added_keeps m none = keeps_refl m
added_keeps m (some a) = za_keeps m _ (add_to-length a.E m.bench.vb a.tile _ m.za)

cleared_keeps : (m : Machine) (q : Option ℕ) → Keeps m (cleared m q)
cleared_keeps m none = keeps_refl m
cleared_keeps m (some mask) = za_keeps m _ (clear-length m.bench.vb mask m.za)

effect_keeps : (m : Machine) (d : Option Instruction) → Keeps m (effect m d)
effect_keeps m d = keeps_trans (added_keeps m (addition_of m d)) (cleared_keeps (added m (addition_of m d)) (mask_of d))

pub after_keeps : (m : Machine) (w : ℕ) → Keeps m (after m w)
unfolding after
after_keeps m w = go (refusal_of m w)
  where
    go : (o : Option Refusal) → Keeps m (unless o m (effect m (describe w)))
    go none = effect_keeps m (describe w)
    go (some r) = keeps_refl m

pub played_keeps : (ws : List ℕ) (m : Machine) → Keeps m (played m ws)
unfolding played
played_keeps [] m = keeps_refl m
played_keeps (w ∷ ws) m = keeps_trans (after_keeps m w) (played_keeps ws (after m w))

-- what is kept differs in ZA alone
pub kept_is : {m n : Machine} → Keeps m n → n ≡ with_za m n.za
kept_is {m} {n} k = rw (← k.bench, ← k.z, ← k.p)

-- an answer depends on what is kept alone
pub same_refusal : {m n : Machine} → Keeps m n → (w : ℕ) → refusal_of n w ≡ refusal_of m w
unfolding refusal_of
same_refusal k w = rw (k.bench, k.z, k.p, k.za_length)

-- ---- what tests 1 to 5 ask: flags, vector length and the buffers' lengths, whatever the modes and the buffers hold
pub record Alike (m n : Machine) : Type 0 where
  pub flags : n.bench.flags ≡ m.bench.flags
  pub vb : n.bench.vb ≡ m.bench.vb
  pub z_length : length n.z ≡ length m.z
  pub p_length : length n.p ≡ length m.p
  pub za_length : length n.za ≡ length m.za

pub keeps_alike : {m n : Machine} → Keeps m n → Alike m n
keeps_alike k = record {
  flags = ap (λ (b : Bench). b.flags) k.bench;
  vb = ap (λ (b : Bench). b.vb) k.bench;
  z_length = ap length k.z;
  p_length = ap length k.p;
  za_length = k.za_length;
}

pub alike_refl : (m : Machine) → Alike m m
alike_refl m = keeps_alike (keeps_refl m)

pub alike_trans : {m n o : Machine} → Alike m n → Alike n o → Alike m o
alike_trans k l = record {
  flags = l.flags ∙ k.flags;
  vb = l.vb ∙ k.vb;
  z_length = l.z_length ∙ k.z_length;
  p_length = l.p_length ∙ k.p_length;
  za_length = l.za_length ∙ k.za_length;
}

pub after_alike : (m : Machine) (w : ℕ) → Alike m (after m w)
after_alike m w = keeps_alike (after_keeps m w)

pub played_alike : (ws : List ℕ) (m : Machine) → Alike m (played m ws)
unfolding played
played_alike [] m = alike_refl m
played_alike (w ∷ ws) m = alike_trans (after_alike m w) (played_alike ws (after m w))

pub same_tests : {m n : Machine} → Alike m n → first_failure (machine_tests n) ≡ first_failure (machine_tests m)
same_tests k = rw (k.flags, k.vb, k.z_length, k.p_length, k.za_length)
