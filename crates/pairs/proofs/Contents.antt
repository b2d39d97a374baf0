-- The contents that tell two orders apart: lists of one byte, on which a word gets the answer that it gets on any contents of the
-- right sizes. Assumes nothing.
use mathlib.Core.Path.{◌≡◌}
use mathlib.Core.Bool.{Bool, true, false, cond, ◌||◌}
use Prim.Native.Nat.{ℕ, ◌≤◌, ◌<◌}
use native.Mathlib.Omega.{arith}
use native.Mathlib.Decide.{dec_lt}
use lib.Dec.{lit<}
use lib.ListN.{replicate, length-replicate, get_or-replicate, get_or-eq_default}
use Rattle.isa.specs.Table.{all_flags}
use Rattle.isa.specs.Answers.{describe}
use Rattle.storage.specs.Bytes.{at}
use Rattle.storage.specs.Sizes.{legal, z_size, p_size, za_size}
use Rattle.machine.specs.declared.Bench.{Bench}
use Rattle.machine.specs.Machine.{Machine}
use Rattle.machine.specs.Instructions.{outer_of}
use Rattle.machine.specs.Execution.{refusal_of}
use Rattle.machine.specs.Claims.{BenchPasses}
use Rattle.pairs.specs.Order.{takes_away, start_byte, telling}
use Rattle.pairs.specs.Claims.{Bytes}
use Rattle.pairs.proofs.Orders.{AllAre}

module _ (n y : ℕ) where
  pub all_are : AllAre y (replicate n y)
  all_are q h = get_or-replicate n q y 0 (rw (length-replicate {A = ℕ} n y) at h)

  pub are_bytes : y < 256 → Bytes (replicate n y)
  are_bytes h q = go (dec_lt q n)
    where
      go : Dec (q < n) → at (replicate n y) q < 256
      go (yes k) = rw (get_or-replicate n q y 0 k) h
      go (no k) = rw (get_or-eq_default (replicate n y) 0 {n = q} (omega (arith, length-replicate {A = ℕ} n y))) (lit< tt)

pub start_byte_lt : (a b : ℕ) → start_byte a b < 256
start_byte_lt a b = go (takes_away (outer_of (describe a)) || takes_away (outer_of (describe b)))
  where
    go : (c : Bool) → cond c 0 255 < 256
    go true = lit< tt
    go false = lit< tt

-- they pass 1 to 5 on every bench with legal flags and length
pub telling_fits : (bench : Bench) (a b : ℕ) → bench.flags ≤ all_flags → legal bench.vb ≡ true → BenchPasses (telling bench a b)
telling_fits bench a b f l = record {
  flags = f;
  length_legal = l;
  z_sized = length-replicate {A = ℕ} (z_size bench.vb) 1;
  p_sized = length-replicate {A = ℕ} (p_size bench.vb) 255;
  za_sized = length-replicate {A = ℕ} (za_size bench.vb) (start_byte a b);
}

pub told_same : (m : Machine) (a b w : ℕ) → BenchPasses m → refusal_of (telling m.bench a b) w ≡ refusal_of m w
unfolding refusal_of
told_same m a b w f =
    let t = telling_fits m.bench a b f.flags f.length_legal in
    rw (t.z_sized, t.p_sized, t.za_sized, f.z_sized, f.p_sized, f.za_sized)
