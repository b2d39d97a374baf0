-- The sample is legal, and its file is as written. Assumes nothing.
use mathlib.Core.Path.{refl}
use mathlib.Core.List.{[], ◌∷◌}
use Prim.Native.Nat.{ℕ, zero, suc, ◌<◌}
use native.Mathlib.Omega.{arith}
use lib.ListN.{replicate}
use Rattle.capture.specs.Format.{word_bytes, part, joined, bytes_of_capture, Below}
use Rattle.capture.specs.Examples.{Sample}

below : (n v m : ℕ) → v < m → Below m (replicate n v)
below zero v m h i = omega arith
below (suc n) v m h zero = h
below (suc n) v m h (suc i) = below n v m h i

words : (a b m : ℕ) → a < m → b < m → Below m (a ∷ b ∷ [])
words a b m h k zero = h
words a b m h k (suc zero) = k
words a b m h k (suc (suc i)) = omega arith

pub the_sample : Sample
unfolding bytes_of_capture joined part word_bytes
the_sample =
    record {
      lawful = record {
        passes = record { flags = omega arith; length_legal = refl; z_sized = refl; p_sized = refl; za_sized = refl };
        words_most = omega arith;
        words_fit = words 3221750015 2694840320 4294967296 (omega arith) (omega arith);
        z_fit = below 512 255 256 (omega arith);
        p_fit = below 32 254 256 (omega arith);
        za_fit = below 256 253 256 (omega arith);
      };
      bytes = refl;
      size = refl;
    }
