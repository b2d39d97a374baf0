-- A line: how long its parts are, and what is said of a word, by what decode answers with every feature on. Assumes nothing.
use lib.ListN.{replicate, set}
use lib.Seq.{paste}
use Rattle.std.proofs.Common.{◌≡◌, ℕ, zero, suc, ◌+◌, ◌-◌, ◌*◌, ◌/◌, ◌%◌, ◌^◌, ◌≤◌, ◌<◌, Bool, true, false, cond, List, ◌++◌, length, drop, sym, refl, ◌∙◌, arith, length-append, le-ltb}
use mathlib.Core.Option.{none, some}
use native.Mathlib.Nat.{mod-mod}
use Rattle.std.specs.Prelude.{Err, Ok, Result}
use Rattle.isa.specs.Table.{all_flags}
use Rattle.isa.specs.Answers.{describe, absent, decode_of, decode_number}
use Rattle.isa.specs.declared.Instruction.{Instruction}
use Rattle.isa.specs.declared.Refusal.{Refusal}
use Rattle.isa.specs.declared.Refusal.TheVariants.{Unlisted}
use Rattle.isa.proofs.Answers.{features_on, decode_refused}
use Rattle.isa.proofs.Theorems.{decodes, accepted_in_range}
use Rattle.text.specs.Ascii.{ascii}
use Rattle.text.specs.Spelling.{spelling}
use Rattle.text.specs.Printing.{text_of, print_of, room_after}
use Rattle.text.proofs.Rooms.{accepted_text, print_accepted, room-accepted, print_refused, unfilled}
use Rattle.text.proofs.Lengths.{line-between}
use Rattle.disassembly.specs.Listing.{hex_digit, hexadecimal, field, said, line_feed, line}
use Rattle.disassembly.specs.Pieces.{longest_line}

-- ---- what is said of a word
-- with every feature on, a word that is refused is not listed
refused_unlisted : (w : ℕ) (r : Refusal) → decode_of all_flags w ≡ Err r → r ≡ Unlisted
refused_unlisted w r p = go (absent (describe w)) (rw ((decodes all_flags w).missing_none.1 (features_on w)) at (decode_refused all_flags w r p))
  where
    go : (b : Bool) → cond b (some Unlisted) none ≡ some r → r ≡ Unlisted
    go true q = cc
    go false q = let z : ◌≡◌ {A = ℕ} 0 1 = cc in absurd (omega arith)

-- by decode's number
pub said-listed : (w : ℕ) → decode_number all_flags w ≡ 0 → said w ≡ text_of w
unfolding said
said-listed w p = rw p

pub said_unlisted : (w : ℕ) → decode_number all_flags w ≡ 7 → said w ≡ ascii "-7"
unfolding said
said_unlisted w p = rw p

-- and by its answer
said-accepted : (w : ℕ) (i : Instruction) → decode_of all_flags w ≡ Ok i → said w ≡ spelling i
unfolding said
said-accepted w i p = rw p (accepted_text all_flags w i p)

said_refused : (w : ℕ) (r : Refusal) → decode_of all_flags w ≡ Err r → said w ≡ ascii "-7"
unfolding said
said_refused w r p = rw (p, refused_unlisted w r p)

-- ---- what print does with a room that holds every text
module _ (w : ℕ) (room : List ℕ) (large : 47 ≤ length room) where
  pub printed-said : (n : ℕ) → print_of all_flags w (length room) ≡ Ok n
      → (n ≡ length (said w)) × (room_after all_flags w room ≡ said w ++ drop (length (said w)) room)
  printed-said n p = go (decode_of all_flags w) refl
    where
      go : (a : Result Instruction Refusal) → decode_of all_flags w ≡ a → (n ≡ length (said w)) × (room_after all_flags w room ≡ said w ++ drop (length (said w)) room)
      go (Ok i) e =
          let l = le-ltb (length room) (length (spelling i)) (omega (arith, line-between i (accepted_in_range all_flags w i e))) in
          let q : Ok (length (spelling i)) ≡ Ok n = rw l at (sym (print_accepted all_flags w (length room) i e) ∙ p) in
          rw (said-accepted w i e) (cc, rw l at (room-accepted all_flags w room i e))
      go (Err r) e = let q = sym (print_refused all_flags w (length room) r e) ∙ p in let z : ◌≡◌ {A = ℕ} 0 1 = cc in absurd (omega arith)

  pub not-printed : (r : Refusal) → print_of all_flags w (length room) ≡ Err r
      → (r ≡ Unlisted) × (room_after all_flags w room ≡ room) × (said w ≡ ascii "-7")
  not-printed r p = go (decode_of all_flags w) refl
    where
      go : (a : Result Instruction Refusal) → decode_of all_flags w ≡ a → (r ≡ Unlisted) × (room_after all_flags w room ≡ room) × (said w ≡ ascii "-7")
      go (Ok i) e =
          let l = le-ltb (length room) (length (spelling i)) (omega (arith, line-between i (accepted_in_range all_flags w i e))) in
          let q : Ok (length (spelling i)) ≡ Err r = rw l at (sym (print_accepted all_flags w (length room) i e) ∙ p) in
          let z : ◌≡◌ {A = ℕ} 0 1 = cc in
          absurd (omega arith)
      go (Err s) e =
          let q = sym (print_refused all_flags w (length room) s e) ∙ p in
          let same : r ≡ s = cc in
          (same ∙ refused_unlisted w s e, unfilled all_flags w room s e, said_refused w s e)

pub said_short : (w : ℕ) → length (said w) ≤ 47
said_short w = go (decode_of all_flags w) refl
  where
    go : (a : Result Instruction Refusal) → decode_of all_flags w ≡ a → length (said w) ≤ 47
    go (Ok i) p = rw (said-accepted w i p) (line-between i (accepted_in_range all_flags w i p)).high
    go (Err r) p = rw (said_refused w r p) (omega arith)

-- ---- a digit more of a number, put over spaces
pub digit_more : (v i : ℕ) → i < 8 → set (paste (replicate 9 32) 0 (hexadecimal 8 v) i) i (hex_digit (v / 2 ^ (28 - 4 * i) % 16)) ≡ paste (replicate 9 32) 0 (hexadecimal 8 v) (i + 1)
unfolding hexadecimal
digit_more v zero h = refl
digit_more v (suc zero) h = refl
digit_more v (suc (suc zero)) h = refl
digit_more v (suc (suc (suc zero))) h = refl
digit_more v (suc (suc (suc (suc zero)))) h = refl
digit_more v (suc (suc (suc (suc (suc zero))))) h = refl
digit_more v (suc (suc (suc (suc (suc (suc zero)))))) h = refl
digit_more v (suc (suc (suc (suc (suc (suc (suc zero))))))) h = refl
digit_more v (suc (suc (suc (suc (suc (suc (suc (suc i)))))))) h = absurd (omega arith)

-- ---- lengths
pub field-length : (v : ℕ) → length (field v) ≡ 9
unfolding hexadecimal
field-length v = refl

pub line-length : (address w : ℕ) → length (line address w) ≡ 19 + length (said w)
unfolding line
line-length address w =
    let a = field (address % 2 ^ 32) in
    let b = field w in
    omega (arith, length-append (a ++ b ++ said w) line_feed, length-append (a ++ b) (said w), length-append a b, field-length (address % 2 ^ 32), field-length w)

pub line_short : (address w : ℕ) → length (line address w) ≤ longest_line
line_short address w = omega (arith, line-length address w, said_short w)

-- a line has its address modulo 2^32
pub line_mod : (address w : ℕ) → line (address % 2 ^ 32) w ≡ line address w
unfolding line
line_mod address w = rw (mod-mod address (2 ^ 32))
