-- Capture files (document 02, C-20): what a capture holds, its bytes, and which captures are legal.
use Rattle.std.specs.Prelude.{◌≡◌, Bool, cond, List, [], ◌∷◌, ◌++◌, ℕ, ◌+◌, ◌*◌, ◌/◌, ◌%◌, ◌≤◌, ◌<◌, length}
use Rattle.storage.specs.Bytes.{at}
use Rattle.machine.specs.declared.Bench.{Bench}
use Rattle.machine.specs.Lists.{most_words}
use Rattle.machine.specs.Claims.{Passes}

-- what a run takes
pub record Capture : Type 0 where
  pub bench : Bench
  pub words : List ℕ
  pub z : List ℕ
  pub p : List ℕ
  pub za : List ℕ

abbrev pub capture_of : Bench → List ℕ → List ℕ → List ℕ → List ℕ → Capture
capture_of b words z p za = record { bench = b; words = words; z = z; p = p; za = za }

-- the byte at the front of every file
abbrev pub version : ℕ
version = 1

-- numbers of two and of four bytes, highest first
abbrev pub big2 : ℕ → List ℕ
big2 v = v / 256 % 256 ∷ v % 256 ∷ []

abbrev pub big4 : ℕ → List ℕ
big4 v = v / 16777216 % 256 ∷ v / 65536 % 256 ∷ v / 256 % 256 ∷ v % 256 ∷ []

-- the number whose two bytes stand from i on
abbrev pub number2 : List ℕ → ℕ → ℕ
number2 s i = at s i * 256 + at s (i + 1)

-- 1 streaming, 2 ZA, summed
abbrev pub modes : Bool → Bool → ℕ
modes streaming za_on = cond streaming 1 0 + cond za_on 2 0

-- the first part: flags, modes, VB
abbrev pub head_of : Bench → List ℕ
head_of b = b.flags ∷ modes b.sm b.za ∷ big2 b.vb

unfoldable pub word_bytes : List ℕ → List ℕ
word_bytes [] = []
word_bytes (w ∷ ws) = big4 w ++ word_bytes ws

abbrev pub parts_of : Capture → List (List ℕ)
parts_of c = head_of c.bench ∷ word_bytes c.words ∷ c.z ∷ c.p ∷ c.za ∷ []

-- a part has its length first, in bytes
unfoldable pub part : List ℕ → List ℕ
part t = big4 (length t) ++ t

unfoldable pub joined : List (List ℕ) → List ℕ
joined [] = []
joined (t ∷ ts) = part t ++ joined ts

-- lists short enough for their lengths to fit
abbrev pub Short : List (List ℕ) → Type 0
Short [] = Unit {0}
Short (t ∷ ts) = (length t < 4294967296) × Short ts

unfoldable pub bytes_of_capture : Capture → List ℕ
bytes_of_capture c = version ∷ joined (parts_of c)

-- every number of a list is below n
abbrev pub Below : ℕ → List ℕ → Type 0
Below n l = (i : ℕ) → at l i < n

-- what tests 1 to 6 let a run begin on, of words of 32 bits and bytes
pub record Legal (c : Capture) : Type 0 where
  pub passes : Passes c.bench (length c.z) (length c.p) (length c.za)
  pub words_most : length c.words ≤ most_words
  pub words_fit : Below 4294967296 c.words
  pub z_fit : Below 256 c.z
  pub p_fit : Below 256 c.p
  pub za_fit : Below 256 c.za

-- a file that is a capture
pub record Holds (file : List ℕ) (c : Capture) : Type 0 where
  pub lawful : Legal c
  pub bytes : file ≡ bytes_of_capture c

pub record NoCapture (file : List ℕ) : Type 0 where
  pub never : (c : Capture) → Holds file c → ⊥
