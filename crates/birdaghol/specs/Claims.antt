-- What a caller reads off an answer; proofs/Theorems.antt proves it for every call.
use Rattle.std.specs.Prelude.{◌≡◌, Bool, ◌↔◌, ◌⊎◌, List, ℕ, ◌/◌, ◌%◌, ◌^◌, ◌≤◌, ◌<◌, length, take, drop, Err, Ok, Result}
use Rattle.isa.specs.Refusals.{number, number_in, value_in}
use Rattle.isa.specs.Answers.{describe, decode_number, decode_missing}
use Rattle.isa.specs.Claims.{HandsBack, OnlyWord}
use Rattle.isa.specs.declared.Instruction.{Instruction}
use Rattle.isa.specs.declared.Instruction.TheVariants.{Zero}
use Rattle.text.specs.Spelling.{Text}
use Rattle.text.specs.Printing.{print_number, print_missing, print_length}
use Rattle.reader.specs.Answers.{read_number, read_missing, read_word}
use Rattle.machine.specs.Claims.{execute_number, execute_missing, run_number, run_missing, run_count}
use Rattle.machine.specs.Machine.{Machine}
use Rattle.machine.specs.declared.Bench.{Bench}
use Rattle.isa.specs.declared.Refusal.{Refusal}
use Rattle.capture.specs.declared.Contents.{Contents}
use Rattle.capture.specs.Format.{Capture, modes}
use Rattle.capture.specs.Outcomes.{write_of}
use Rattle.birdaghol.specs.Calls.{decode_call, print_call, read_call, asked_predicated, asked_quarter, predicated_call, quarter_call, zero_call, execute_call, run_call}
use Rattle.birdaghol.specs.Captures.{capture_write_call, contents_number}
use Rattle.birdaghol.specs.Fields.{numbers_in, field_count, describe_number, describe_missing, describe_call, fields_after, encode_numbers}

-- the refusal is the lowest byte, the missing flags are the next, and the value stands above
pub record Unpacks (answer value missing refusal : ℕ) : Type 0 where
  pub value_is : answer / 65536 ≡ value
  pub missing_is : answer / 256 % 256 ≡ missing
  pub refusal_is : answer % 256 ≡ refusal

abbrev pub DecodeUnpacks : ℕ → ℕ → Type 0
DecodeUnpacks flags w = Unpacks (decode_call flags w) 0 (decode_missing flags w) (decode_number flags w)

abbrev pub DescribeUnpacks : ℕ → ℕ → ℕ → Type 0
DescribeUnpacks flags w places = Unpacks (describe_call flags w places) 0 (describe_missing flags w places) (describe_number flags w places)

abbrev pub PrintUnpacks : ℕ → ℕ → ℕ → Type 0
PrintUnpacks flags w room = Unpacks (print_call flags w room) (print_length flags w room) (print_missing flags w room) (print_number flags w room)

abbrev pub ReadUnpacks : ℕ → Text → Type 0
ReadUnpacks flags t = Unpacks (read_call flags t) (read_word flags t) (read_missing flags t) (read_number flags t)

abbrev pub ExecuteUnpacks : Machine → ℕ → Type 0
ExecuteUnpacks m w = Unpacks (execute_call m w) 0 (execute_missing m w) (execute_number m w)

abbrev pub RunUnpacks : Machine → List ℕ → Type 0
RunUnpacks m ws = Unpacks (run_call m ws) (run_count m ws) (run_missing m ws) (run_number m ws)

-- ---- capture files
abbrev pub CaptureWriteUnpacks : Capture → ℕ → Type 0
CaptureWriteUnpacks c room = Unpacks (capture_write_call c room) (value_in (write_of c room)) 0 (number_in (write_of c room))

-- the value of a read: flags have four bits, modes two and VB ten, and the number of words stands above
pub record ContentsUnpack (value : ℕ) (b : Bench) (words : ℕ) : Type 0 where
  pub flags_is : value % 16 ≡ b.flags
  pub modes_is : value / 16 % 4 ≡ modes b.sm b.za
  pub vb_is : value / 64 % 1024 ≡ b.vb
  pub words_is : value / 65536 ≡ words

abbrev pub CaptureReadUnpacks : ℕ → Result Contents Refusal → Type 0
CaptureReadUnpacks n (Ok c) = let v = contents_number c.bench c.words in Unpacks n v 0 0 × ContentsUnpack v c.bench c.words
CaptureReadUnpacks n (Err r) = Unpacks n 0 0 (number r)

-- ---- encode: the arguments that are in range; there are as many tiles of a size as an element has bytes
abbrev pub ElementSize : ℕ → Type 0
ElementSize bytes = (bytes ≡ 4) ⊎ (bytes ≡ 8)

-- four products of any shape and signs; two on a 32-bit tile, of sources with one sign
abbrev pub Formed : ℕ → ℕ → Bool → Bool → Type 0
Formed bytes products u0 u1 = (products ≡ 4) ⊎ ((products ≡ 2) × (bytes ≡ 4) × (u0 ≡ u1))

pub record PredicatedFits (bytes products : ℕ) (u0 u1 : Bool) (tile pn pm zn zm : ℕ) : Type 0 where
  pub size : ElementSize bytes
  pub formed : Formed bytes products u0 u1
  pub tile_below : tile < bytes
  pub pn_below : pn < 8
  pub pm_below : pm < 8
  pub zn_below : zn < 32
  pub zm_below : zm < 32

pub record QuarterFits (bytes products : ℕ) (u0 u1 : Bool) (tile first second : ℕ) : Type 0 where
  pub size : ElementSize bytes
  pub formed : Formed bytes products u0 u1
  pub tile_below : tile < bytes
  pub first_even : first % 2 ≡ 0
  pub first_most : first ≤ 14
  pub second_even : second % 2 ≡ 0
  pub second_least : 16 ≤ second
  pub second_most : second ≤ 30

-- arguments that fit get the one word of their instruction and no refusal, others 11 alone
pub record EncodeAnswers (answer : ℕ) (i : Instruction) (Fits : Type 0) : Type 0 where
  pub word : Fits → (w : ℕ) × Unpacks answer w 0 0 × OnlyWord i w
  pub gives_11 : (answer ≡ 11) ↔ (Fits → ⊥)

abbrev pub PredicatedAnswers : ℕ → ℕ → Bool → Bool → Bool → ℕ → ℕ → ℕ → ℕ → ℕ → Type 0
PredicatedAnswers bytes products u0 u1 subtract tile pn pm zn zm =
    EncodeAnswers (predicated_call bytes products u0 u1 subtract tile pn pm zn zm)
    (asked_predicated bytes products u0 u1 subtract tile pn pm zn zm) (PredicatedFits bytes products u0 u1 tile pn pm zn zm)

abbrev pub QuarterAnswers : ℕ → ℕ → Bool → Bool → Bool → ℕ → ℕ → Bool → ℕ → Bool → Type 0
QuarterAnswers bytes products u0 u1 subtract tile first first_pair second second_pair =
    EncodeAnswers (quarter_call bytes products u0 u1 subtract tile first first_pair second second_pair)
    (asked_quarter bytes products u0 u1 subtract tile first first_pair second second_pair) (QuarterFits bytes products u0 u1 tile first second)

-- every byte is a good mask
abbrev pub ZeroAnswers : ℕ → Type 0
ZeroAnswers mask = EncodeAnswers (zero_call mask) (Zero mask) (mask < 256)

-- ---- describe: what it answers, what stands in the fields, and that encode takes them back
pub record DescribeAnswers (flags w : ℕ) (fields : List ℕ) : Type 0 where
  pub accepts : (describe_number flags w (length fields) ≡ 0) ↔ (decode_number flags w ≡ 0) × (field_count ≤ length fields)
  pub gives_1 : (describe_number flags w (length fields) ≡ 1) ↔ (decode_number flags w ≡ 1)
  pub gives_7 : (describe_number flags w (length fields) ≡ 7) ↔ (decode_number flags w ≡ 7)
  pub gives_8 : (describe_number flags w (length fields) ≡ 8) ↔ (decode_number flags w ≡ 8)
  pub hands_back : HandsBack flags w (describe_number flags w (length fields)) (describe_missing flags w (length fields))
  pub gives_12 : (describe_number flags w (length fields) ≡ 12) ↔ (decode_number flags w ≡ 0) × (length fields < field_count)
  pub refused : (describe_number flags w (length fields) ≡ 0 → ⊥) → fields_after flags w fields ≡ fields
  pub numbers : describe_number flags w (length fields) ≡ 0 → take field_count (fields_after flags w fields) ≡ numbers_in (describe w)
  pub rest : drop field_count (fields_after flags w fields) ≡ drop field_count fields
  pub encoded : w < 2 ^ 32 → describe_number flags w (length fields) ≡ 0 → Unpacks (encode_numbers (fields_after flags w fields)) w 0 0
