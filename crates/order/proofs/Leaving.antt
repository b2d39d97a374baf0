-- Words leave bytes where they found bytes, and the flags as they were. Assumes nothing.
use mathlib.Core.Path.{◌≡◌, refl, ap}
use mathlib.Core.List.{List, [], ◌∷◌}
use mathlib.Core.Option.{Option, none, some}
use Prim.Native.Nat.{ℕ}
use Rattle.isa.specs.Answers.{describe}
use Rattle.isa.specs.declared.Refusal.{Refusal}
use Rattle.isa.specs.declared.Instruction.{Instruction}
use Rattle.isa.specs.declared.Instruction.TheVariants.{Predicated, Quarter, Zero}
use Rattle.storage.proofs.Laws.{Good, add_to_good}
use Rattle.storage.proofs.Clearing.{clear_good}
use Rattle.storage.proofs.Sizes.{Length, za_good}
use Rattle.machine.specs.declared.Bench.{Bench}
use Rattle.machine.specs.Machine.{Machine}
use Rattle.machine.specs.Execution.{refusal_of, effect, after}
use Rattle.machine.specs.Lists.{played}
use Rattle.machine.proofs.Acts.{sized}
use Rattle.machine.proofs.Links.{element_width}
use Rattle.machine.proofs.Benches.{Judged, refuses, sound, judged}
use Rattle.machine.proofs.Execution.{after_by}
use Rattle.machine.proofs.Keeping.{after_keeps, played_keeps}
use Rattle.pairs.specs.Claims.{Bytes}

module _ (m : Machine) where
  effect_bytes : Length m.bench.vb → Good m.bench.vb m.bench.vb m.za → (d : Option Instruction) → Bytes (effect m d).za
  effect_bytes l g none = g.bytes
  effect_bytes l g (some (Predicated p)) = (add_to_good _ _ _ (sized _ l (element_width p.op)) _ _ m.za g).bytes
  effect_bytes l g (some (Quarter q)) = (add_to_good _ _ _ (sized _ l (element_width q.op)) _ _ m.za g).bytes
  effect_bytes l g (some (Zero mask)) = (clear_good _ _ mask m.za g).bytes

  pub after_bytes : Bytes m.za → (w : ℕ) → Bytes (after m w).za
  after_bytes b w = go (judged m)
    where
      by_refusal : Length m.bench.vb → Good m.bench.vb m.bench.vb m.za → (o : Option Refusal) → refusal_of m w ≡ o → Bytes (after m w).za
      by_refusal l g (some r) e = rw (after_by m w (some r) e) b
      by_refusal l g none e = rw (after_by m w none e) (effect_bytes l g (describe w))

      go : Judged m → Bytes (after m w).za
      go (refuses r every) = rw (after_by m w (some r) (every w)) b
      go (sound l e) = by_refusal l (za_good m.bench.vb m.za l e b) (refusal_of m w) refl

pub played_bytes : (ws : List ℕ) (m : Machine) → Bytes m.za → Bytes (played m ws).za
unfolding played
played_bytes [] m b = b
played_bytes (w ∷ ws) m b = played_bytes ws (after m w) (after_bytes m b w)

pub after_flags : (m : Machine) (w : ℕ) → (after m w).bench.flags ≡ m.bench.flags
after_flags m w = ap (λ (b : Bench). b.flags) (after_keeps m w).bench

pub played_flags : (ws : List ℕ) (m : Machine) → (played m ws).bench.flags ≡ m.bench.flags
played_flags ws m = ap (λ (b : Bench). b.flags) (played_keeps ws m).bench
