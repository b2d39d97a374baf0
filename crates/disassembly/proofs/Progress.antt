-- A piece listed word by word: what is left to list comes to what the whole does. Assumes nothing.
use Rattle.std.proofs.Common.{◌≡◌, ℕ, ◌+◌, ◌*◌, ◌%◌, ◌^◌, ◌≤◌, List, ◌++◌, length, drop, sym, refl, ap, ◌∙◌, arith, length-append}
use lib.Seq.{sets, length-sets}
use Rattle.storage.proofs.Bytes.{sets_append}
use Rattle.disassembly.specs.Listing.{line, word_lines}
use Rattle.disassembly.specs.Pieces.{pending, word_from, place_behind, longest_line}
use Rattle.disassembly.specs.Put.{Put}
use Rattle.disassembly.specs.declared.Begun.{Begun}
use Rattle.disassembly.proofs.Inputs.{four_bytes}
use Rattle.disassembly.proofs.Lines.{line_short}
use Rattle.disassembly.proofs.Listings.{no_lines, no_words, lines_mod}

-- k words of the bytes are listed, up to `at` of the room, and the next has this address
pub record Since (bytes room₀ : List ℕ) (address₀ : ℕ) (room : List ℕ) (address at k : ℕ) : Type 0 where
  pub within : 4 * k ≤ length bytes
  pub short : at ≤ longest_line * k
  pub size : length room ≡ length room₀
  pub text : sets room at (word_lines address (drop (4 * k) bytes)) ≡ sets room₀ 0 (word_lines address₀ bytes)
  pub ends : at + length (word_lines address (drop (4 * k) bytes)) ≡ length (word_lines address₀ bytes)
  pub place : place_behind address (drop (4 * k) bytes) ≡ place_behind address₀ bytes

pub begins : (bytes room : List ℕ) (address : ℕ) → Since bytes room address room address 0 0
begins bytes room address =
    record { within = omega arith; short = omega arith; size = refl; text = refl; ends = omega arith; place = refl }

-- ---- a word more
module _ (bytes : List ℕ) (address k : ℕ) (h : 4 * k + 4 ≤ length bytes) where
  abbrev next : ℕ
  next = (address + 4) % 2 ^ 32

  abbrev rest : List ℕ
  rest = drop (4 * k + 4) bytes

  next_lines : word_lines address (drop (4 * k) bytes) ≡ line address (word_from bytes (4 * k)) ++ word_lines next rest
  unfolding word_lines
  next_lines = rw (four_bytes bytes (4 * k) h, lines_mod (address + 4) rest)

  next_place : place_behind address (drop (4 * k) bytes) ≡ place_behind next rest
  unfolding place_behind
  next_place = rw (four_bytes bytes (4 * k) h)

pub goes_on : {bytes room₀ room : List ℕ} {address₀ address at k : ℕ} → Since bytes room₀ address₀ room address at k → 4 * k + 4 ≤ length bytes
    → {room' : List ℕ} {at' address' : ℕ} → Put room at room' at' (line address (word_from bytes (4 * k))) → address' ≡ (address + 4) % 2 ^ 32
    → Since bytes room₀ address₀ room' address' at' (k + 1)
goes_on {bytes} {room₀} {room} {address₀} {address} {at} {k} s h p r =
    let l = line address (word_from bytes (4 * k)) in
    let t = word_lines (next bytes address k h) (rest bytes address k h) in
    let e : 4 * (k + 1) ≡ 4 * k + 4 = omega arith in
    let n = next_lines bytes address k h in
    rw (p.text, p.ends, r)
    record {
      within = omega arith;
      short = omega (arith, s.short, line_short address (word_from bytes (4 * k)));
      size = length-sets room at l ∙ s.size;
      text = rw e (sym (sets_append l t room at) ∙ ap (sets room at) (sym n) ∙ s.text);
      ends = rw e (omega (arith, length-append l t, ap length n, s.ends));
      place = rw e (sym (next_place bytes address k h) ∙ s.place);
    }

-- the end: the bytes that are left are begun
pub all_listed : {bytes room₀ room : List ℕ} {address₀ address at k : ℕ} (b : Begun) → Since bytes room₀ address₀ room address at k
    → pending b ≡ drop (4 * k) bytes
    → (room ≡ sets room₀ 0 (word_lines address₀ bytes)) × (at ≡ length (word_lines address₀ bytes))
    × (place_behind address₀ bytes ≡ record { address = address; begun = b })
all_listed {address = address} {at = at} b s e =
    let l = ap (word_lines address) (sym e) ∙ no_lines address b in
    (rw l at s.text, omega (arith, s.ends, ap length l), sym s.place ∙ ap (place_behind address) (sym e) ∙ no_words address b)
