-- What write and read answer, and what they leave in the buffers lent to them (document 02, C-20).
use Rattle.std.specs.Prelude.{◌≡◌, List, [], ◌∷◌, ◌++◌, ℕ, ◌≤◌, ltb, length, drop, Err, Ok, Result}
use Rattle.std.proofs.Math.Option.{Option, none, some}
use Rattle.isa.specs.Refusals.{number_in, value_in, Test, first_failure}
use Rattle.isa.specs.declared.Refusal.{Refusal}
use Rattle.isa.specs.declared.Refusal.TheVariants.{Room, Version, Format}
use Rattle.storage.specs.Sizes.{z_size, p_size, za_size}
use Rattle.machine.specs.Lists.{most_words, start_tests}
use Rattle.capture.specs.declared.Contents.{Contents}
use Rattle.capture.specs.Format.{version, Capture, bytes_of_capture, Holds, NoCapture}

-- ---- writing

-- tests 1 to 6, those of a run
abbrev pub capture_tests : Capture → List Test
capture_tests c = start_tests c.bench (length c.z) (length c.p) (length c.za) (length c.words)

-- then 12
abbrev pub room_test : Capture → ℕ → Test
room_test c room = record { fails = ltb room (length (bytes_of_capture c)); gives = Room }

abbrev pub write_tests : Capture → ℕ → List Test
write_tests c room = capture_tests c ++ (room_test c room ∷ [])

-- contents at the start of a buffer, and what is past them as it was
abbrev pub over : List ℕ → List ℕ → List ℕ
over t room = t ++ drop (length t) room

abbrev pub written : Option Refusal → ℕ → Result ℕ Refusal
written none n = Ok n
written (some r) n = Err r

unfoldable pub write_of : Capture → ℕ → Result ℕ Refusal
write_of c room = written (first_failure (write_tests c room)) (length (bytes_of_capture c))

abbrev pub filled : Option Refusal → List ℕ → List ℕ → List ℕ
filled none file room = over file room
filled (some r) file room = room

unfoldable pub room_written : Capture → List ℕ → List ℕ
room_written c room = filled (first_failure (write_tests c (length room))) (bytes_of_capture c) room

-- ---- reading

-- the buffers that the contents go to
pub record Buffers : Type 0 where
  pub words : List ℕ
  pub z : List ℕ
  pub p : List ℕ
  pub za : List ℕ

abbrev pub buffers : List ℕ → List ℕ → List ℕ → List ℕ → Buffers
buffers words z p za = record { words = words; z = z; p = p; za = za }

pub record Fits (c : Capture) (b : Buffers) : Type 0 where
  pub words_fit : length c.words ≤ length b.words
  pub z_fit : length c.z ≤ length b.z
  pub p_fit : length c.p ≤ length b.p
  pub za_fit : length c.za ≤ length b.za

-- the contents at the start of each
abbrev pub holding : Capture → Buffers → Buffers
holding c b = buffers (over c.words b.words) (over c.z b.z) (over c.p b.p) (over c.za b.za)

abbrev pub contents_of : Capture → Result Contents Refusal
contents_of c = Ok (record { bench = c.bench; words = length c.words })

-- a file of another version: some first byte, and not 1
pub record OtherVersion (file : List ℕ) : Type 0 where
  pub first : ℕ
  pub rest : List ℕ
  pub is : file ≡ first ∷ rest
  pub other : first ≡ version → ⊥

-- what read answers and leaves: the contents of the capture that the file is; or 15, 16, 12, and every buffer as it was
pub data Reads (file : List ℕ) (before : Buffers) (r : Result Contents Refusal) (after : Buffers) : Type 0 where
  contents : (c : Capture) → Holds file c → Fits c before → r ≡ contents_of c → after ≡ holding c before → Reads file before r after
  another : OtherVersion file → r ≡ Err Version → after ≡ before → Reads file before r after
  malformed : (OtherVersion file → ⊥) → NoCapture file → r ≡ Err Format → after ≡ before → Reads file before r after
  too_long : (c : Capture) → Holds file c → (Fits c before → ⊥) → r ≡ Err Room → after ≡ before → Reads file before r after

-- why a file is none, where there is room enough: 15 or 16
pub data Refuses (file : List ℕ) : Refusal → Type 0 where
  by_version : OtherVersion file → Refuses file Version
  by_format : (OtherVersion file → ⊥) → NoCapture file → Refuses file Format

-- ---- room for every capture: as many words as a run takes, vectors of 256 bytes, and their file
abbrev pub longest : ℕ
longest = 336409

abbrev pub Roomy : Buffers → Type 0
Roomy b = (most_words ≤ length b.words) × (z_size 256 ≤ length b.z) × (p_size 256 ≤ length b.p) × (za_size 256 ≤ length b.za)

-- ---- the papers' number of write's answer, and its value
abbrev pub write_number : Capture → ℕ → ℕ
write_number c room = number_in (write_of c room)

abbrev pub write_length : Capture → ℕ → ℕ
write_length c room = value_in (write_of c room)
