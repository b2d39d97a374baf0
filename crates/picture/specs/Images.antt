-- ZA as a plain PGM image: a header, then a decimal number for each byte, in three places, and 16 to a line, as no line of such an
-- image should pass 70 bytes.
use Rattle.std.specs.Prelude.{◌≡◌, cond, List, [], ◌∷◌, ◌++◌, ℕ, suc, ◌+◌, ◌/◌, ◌%◌, eqb, ltb, length, Result, Ok, Err}
use Rattle.isa.specs.declared.Refusal.{Refusal}
use Rattle.capture.specs.Format.{Capture, Holds}
use Rattle.capture.specs.Outcomes.{over, Refuses}

-- the digit of a unit, or a space before the number
abbrev pub digit : ℕ → ℕ → ℕ
digit unit v = cond (ltb v unit) 32 (48 + v / unit % 10)

abbrev pub padded : ℕ → List ℕ
padded v = digit 100 v ∷ digit 10 v ∷ (48 + v % 10) ∷ []

-- behind a pixel a space, or the end of a line
abbrev pub separator : ℕ → ℕ
separator place = cond (eqb (place % 16) 15) 10 32

abbrev pub pixel : ℕ → ℕ → List ℕ
pixel place v = padded v ++ (separator place ∷ [])

unfoldable pub pixels : ℕ → List ℕ → List ℕ
pixels place [] = []
pixels place (v ∷ vs) = pixel place v ++ pixels (suc place) vs

-- P2, the width and the height, and the largest number, 255
abbrev pub header : ℕ → List ℕ
header vb = (80 ∷ 50 ∷ 10 ∷ []) ++ padded vb ++ (32 ∷ []) ++ padded vb ++ (10 ∷ 50 ∷ 53 ∷ 53 ∷ 10 ∷ [])

abbrev pub image : Capture → List ℕ
image c = header c.bench.vb ++ pixels 0 c.za

-- the bytes of the largest: the header, and four for each of ZA's bytes
abbrev pub longest_image : ℕ
longest_image = 262159

-- what is answered, and what stands in the room then: nothing new where the file is refused
pub data Shows (file before : List ℕ) (r : Result ℕ Refusal) (after : List ℕ) : Type 0 where
  drawn : (c : Capture) → Holds file c → r ≡ Ok (length (image c)) → after ≡ over (image c) before → Shows file before r after
  refused : (q : Refusal) → Refuses file q → r ≡ Err q → after ≡ before → Shows file before r after
