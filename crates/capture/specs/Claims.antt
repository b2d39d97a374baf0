-- What C-20 asks of capture files, as statements; proofs/Theorems.antt proves each.
use Rattle.std.specs.Prelude.{◌≡◌, ◌↔◌, List, ℕ, ◌≤◌, ◌<◌, length, take, drop, Ok, Result}
use Rattle.storage.specs.Sizes.{z_size, p_size, za_size}
use Rattle.machine.specs.declared.Bench.{Bench}
use Rattle.machine.specs.Lists.{most_words}
use Rattle.machine.specs.Claims.{Passes, FirstFive}
use Rattle.capture.specs.Format.{Capture, capture_of, bytes_of_capture, Below, Legal, Holds, NoCapture}
use Rattle.isa.specs.Refusals.{number_in}
use Rattle.isa.specs.declared.Refusal.{Refusal}
use Rattle.capture.specs.declared.Contents.{Contents}
use Rattle.capture.specs.Outcomes.{write_of, room_written, over, Buffers, Fits, holding, contents_of, OtherVersion, Reads, longest, Roomy}
use Rattle.capture.specs.Faults.{Malformed}

-- no two captures have the same bytes
abbrev pub OneCapture : Type 0
OneCapture = (c d : Capture) → Legal c → Legal d → bytes_of_capture c ≡ bytes_of_capture d → c ≡ d

-- ---- reading: which number, for every file
pub record Answers (file : List ℕ) (b : Buffers) (r : Result Contents Refusal) : Type 0 where
  pub gives_0 : (number_in r ≡ 0) ↔ (c : Capture) × Holds file c × Fits c b
  pub gives_15 : (number_in r ≡ 15) ↔ OtherVersion file
  pub gives_16 : (number_in r ≡ 16) ↔ (OtherVersion file → ⊥) × NoCapture file
  pub gives_12 : (number_in r ≡ 12) ↔ (c : Capture) × Holds file c × (Fits c b → ⊥)
  pub refused : (after : Buffers) → Reads file b r after → (number_in r ≡ 0 → ⊥) → after ≡ b

abbrev pub EveryAnswer : Type 0
EveryAnswer = (file : List ℕ) (b after : Buffers) (r : Result Contents Refusal) → Reads file b r after → Answers file b r

-- what 16 stands for, of every list of bytes
abbrev pub Faults : Type 0
Faults = (file : List ℕ) → Below 256 file → (OtherVersion file → ⊥) × NoCapture file ↔ Malformed file

-- a file and buffers have one outcome
abbrev pub OneOutcome : Type 0
OneOutcome = (file : List ℕ) (b a a' : Buffers) (r r' : Result Contents Refusal) → Reads file b r a → Reads file b r' a' → (r ≡ r') × (a ≡ a')

-- ---- writing: which number, for every capture and room
module _ (c : Capture) where
  abbrev pub BenchPasses : Type 0
  BenchPasses = Passes c.bench (length c.z) (length c.p) (length c.za)

  pub record Writes (room : List ℕ) (number : ℕ) : Type 0 where
    pub first_five : FirstFive c.bench (length c.z) (length c.p) (length c.za) number
    pub gives_6 : (number ≡ 6) ↔ BenchPasses × (most_words < length c.words)
    pub gives_12 : (number ≡ 12) ↔ BenchPasses × ((length c.words ≤ most_words) × (length room < length (bytes_of_capture c)))
    pub accepts : (number ≡ 0) ↔ BenchPasses × ((length c.words ≤ most_words) × (length (bytes_of_capture c) ≤ length room))
    pub refused : (number ≡ 0 → ⊥) → room_written c room ≡ room
    pub written : number ≡ 0 → (write_of c (length room) ≡ Ok (length (bytes_of_capture c))) × (room_written c room ≡ over (bytes_of_capture c) room)

-- ---- room for every capture
pub record Suffices (c : Capture) : Type 0 where
  pub for_contents : (b : Buffers) → Roomy b → Fits c b
  pub for_file : length (bytes_of_capture c) ≤ longest

-- ---- there and back

-- words and bytes as the machine holds them
pub record Held (c : Capture) : Type 0 where
  pub words_fit : Below 4294967296 c.words
  pub z_fit : Below 256 c.z
  pub p_fit : Below 256 c.p
  pub za_fit : Below 256 c.za

-- a capture was written to a room, and is read back
pub record WrittenBack (c : Capture) (room : List ℕ) (n : ℕ) : Type 0 where
  pub lawful : Legal c
  pub whole : n ≡ length (bytes_of_capture c)
  pub file : take n (room_written c room) ≡ bytes_of_capture c
  pub rest : drop n (room_written c room) ≡ drop n room
  pub back : (b after : Buffers) (r : Result Contents Refusal) → Reads (take n (room_written c room)) b r after → Fits c b → (r ≡ contents_of c) × (after ≡ holding c b)

abbrev pub WriteThenRead : Type 0
WriteThenRead = (c : Capture) (room : List ℕ) (n : ℕ) → Held c → write_of c (length room) ≡ Ok n → WrittenBack c room n

-- the capture that stands in buffers after a read
abbrev pub in_buffers : Bench → ℕ → Buffers → Capture
in_buffers b n s = capture_of b (take n s.words) (take (z_size b.vb) s.z) (take (p_size b.vb) s.p) (take (za_size b.vb) s.za)

-- a file that was read is written again, byte for byte
pub record WrittenAgain (file : List ℕ) (c : Capture) : Type 0 where
  pub holds : Holds file c
  pub again : (room : List ℕ) → length file ≤ length room → (write_of c (length room) ≡ Ok (length file)) × (room_written c room ≡ over file room)

abbrev pub ReadThenWrite : Type 0
ReadThenWrite =
    (file : List ℕ) (before after : Buffers) (b : Bench) (n : ℕ) → Reads file before (Ok (record { bench = b; words = n })) after → WrittenAgain file (in_buffers b n after)
