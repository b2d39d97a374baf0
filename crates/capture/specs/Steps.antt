-- What the contracts of private functions cite: numbers and parts by their places in a file.
use Rattle.std.specs.Prelude.{◌≡◌, Bool, ◌&&◌, List, [], ◌∷◌, ◌++◌, ℕ, zero, suc, ◌+◌, ◌*◌, ◌%◌, ◌≤◌, ◌<◌, eqb, leb, length, take, drop, Option, Some, None}
use Rattle.storage.specs.Sizes.{z_size, p_size, za_size}
use Rattle.storage.specs.Bytes.{at}
use Rattle.machine.specs.declared.Bench.{Bench}
use Rattle.machine.specs.Lists.{most_words}
use Rattle.capture.specs.Format.{number2, Capture, capture_of, part, joined, Short, Holds, NoCapture}
use Rattle.capture.specs.declared.Contents.{Contents}
use Rattle.capture.specs.declared.Parts.{Parts}

-- the number whose four bytes, highest first, stand from i on
abbrev pub number4 : List ℕ → ℕ → ℕ
number4 s i = ((at s i * 256 + at s (i + 1)) * 256 + at s (i + 2)) * 256 + at s (i + 3)

-- the n words that stand from i on
unfoldable pub words_at : List ℕ → ℕ → ℕ → List ℕ
words_at s i zero = []
words_at s i (suc n) = number4 s i ∷ words_at s (i + 4) n

-- n bytes from i on
abbrev pub bytes_at : List ℕ → ℕ → ℕ → List ℕ
bytes_at s i n = take n (drop i s)

-- a part of n bytes stands at i
pub record PartAt (file : List ℕ) (i n : ℕ) : Type 0 where
  pub within : i + 4 + n ≤ length file
  pub short : n < 4294967296
  pub stands : drop i file ≡ part (bytes_at file (i + 4) n) ++ drop (i + 4 + n) file

pub record NoPart (file : List ℕ) (i : ℕ) : Type 0 where
  pub never : (t rest : List ℕ) → length t < 4294967296 → drop i file ≡ part t ++ rest → ⊥

abbrev pub Peels : List ℕ → ℕ → Option ℕ → Type 0
Peels file i (Some n) = PartAt file i n
Peels file i None = NoPart file i

-- from i on there are no n parts and nothing after them
pub record NoParts (file : List ℕ) (i n : ℕ) : Type 0 where
  pub never : (ts : List (List ℕ)) → length ts ≡ n → Short ts → drop i file ≡ joined ts → ⊥

-- parts of a, b, c, d and e bytes stand from 1 on, and nothing after them
pub record FiveParts (file : List ℕ) (a b c d e : ℕ) : Type 0 where
  pub first : PartAt file 1 a
  pub second : PartAt file (5 + a) b
  pub third : PartAt file (5 + a + 4 + b) c
  pub fourth : PartAt file (5 + a + 4 + b + 4 + c) d
  pub fifth : PartAt file (5 + a + 4 + b + 4 + c + 4 + d) e
  pub ends : length file ≡ 5 + a + 4 + b + 4 + c + 4 + d + 4 + e

abbrev pub Splits : List ℕ → Option Parts → Type 0
Splits file (Some n) = FiveParts file n.head n.words n.z n.p n.za
Splits file None = NoParts file 1 5

-- where the parts of a capture of n words stand
abbrev pub z_at : ℕ → ℕ
z_at n = 17 + 4 * n

abbrev pub p_at : ℕ → ℕ → ℕ
p_at n vb = 21 + 4 * n + 32 * vb

abbrev pub za_at : ℕ → ℕ → ℕ
za_at n vb = 25 + 4 * n + 34 * vb

-- the bench that the first part says
abbrev pub bench_at : List ℕ → Bench
bench_at file = record { flags = at file 5; sm = eqb (at file 6 % 2) 1; za = leb 2 (at file 6); vb = number2 file 7 }

abbrev pub capture_at : List ℕ → Bench → ℕ → Capture
capture_at file b n =
    capture_of b (words_at file 13 n) (bytes_at file (z_at n) (z_size b.vb)) (bytes_at file (p_at n b.vb) (p_size b.vb)) (bytes_at file (za_at n b.vb) (za_size b.vb))

-- a capture that was found ends where the file ends
pub record Captured (file : List ℕ) (b : Bench) (n : ℕ) : Type 0 where
  pub holds : Holds file (capture_at file b n)
  pub size : length file ≡ za_at n b.vb + za_size b.vb
  pub words_most : n ≤ most_words
  pub vb_most : b.vb ≤ 256
  pub za_most : za_size b.vb ≤ 65536

abbrev pub Finds : List ℕ → Option Contents → Type 0
Finds file (Some c) = Captured file c.bench c.words
Finds file None = NoCapture file

-- whether n words and Z, P and ZA fit buffers of these lengths
abbrev pub long_enough : ℕ → ℕ → ℕ → ℕ → ℕ → ℕ → Bool
long_enough n vb words z p za = leb n words && leb (z_size vb) z && leb (p_size vb) p && leb (za_size vb) za
