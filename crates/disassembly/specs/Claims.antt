-- What document 02, C-19, asks of a listing that is made piece by piece; proofs/Theorems.antt proves it for every input.
use Rattle.std.specs.Prelude.{◌≡◌, ℕ, ◌+◌, ◌*◌, ◌/◌, ◌%◌, ◌^◌, ◌<◌, ◌≤◌, ◌↔◌, List, [], ◌∷◌, ◌++◌, map, length, take, drop, ◌≢◌}
use mathlib.Core.List.{flatten}
use Rattle.isa.specs.Claims.{Listed}
use Rattle.text.specs.Ascii.{ascii}
use Rattle.text.specs.Spelling.{Text}
use Rattle.text.specs.Printing.{text_of}
use Rattle.disassembly.specs.declared.Place.{Place}
use Rattle.disassembly.specs.Listing.{said, line, word_lines, listing}
use Rattle.disassembly.specs.Pieces.{pending, at_start, joined, lines_for, after, end_for, longest_line, end_room, listed_all, list_of, room_listed}
use Rattle.disassembly.specs.Pieces.{room_finished, finish_number, finish_missing, finish_length}

-- ---- what is written for pieces in turn, and then at the end
abbrev pub written : Place → List (List ℕ) → Text
written p [] = end_for p
written p (piece ∷ pieces) = lines_for p piece ++ written (after p piece) pieces

-- however the input is cut into pieces, empty ones too, all that is written is the listing of the whole input
abbrev pub AnyCut : Type 0
AnyCut = (pieces : List (List ℕ)) → written at_start pieces ≡ listing (flatten pieces)

-- ---- how much room a piece of n bytes wants
abbrev pub room_for : ℕ → ℕ
room_for n = longest_line * ((n + 3) / 4)

-- ---- the same of calls: each is lent a piece and a room, and the last call, of finish, a room of its own
pub record Call : Type 0 where
  pub piece : List ℕ
  pub room : List ℕ

-- what stands in the rooms when the calls return, as far as their answers say
abbrev pub written_by : Place → List Call → List ℕ → Text
written_by p [] end = take (finish_length p (length end)) (room_finished p end)
written_by p (c ∷ cs) end =
    let answer = list_of p c.piece (length c.room) in
    take answer.written (room_listed p c.piece c.room) ++ written_by answer.place cs end

-- the bytes that were taken, as far as the answers say
abbrev pub taken_by : Place → List Call → List ℕ
taken_by p [] = []
taken_by p (c ∷ cs) = let answer = list_of p c.piece (length c.room) in take answer.taken c.piece ++ taken_by answer.place cs

-- each piece has room enough
abbrev pub Roomy : List Call → Type 0
Roomy [] = Unit {0}
Roomy (c ∷ cs) = (room_for (length c.piece) ≤ length c.room) × Roomy cs

pub record AnyCalls (calls : List Call) (end : List ℕ) : Type 0 where
  -- whatever the rooms, nothing is lost: what is written is the listing of what was taken
  pub of_taken : end_room ≤ length end → written_by at_start calls end ≡ listing (taken_by at_start calls)
  -- and with room enough, of all that was handed over
  pub of_all : Roomy calls → end_room ≤ length end → written_by at_start calls end ≡ listing (flatten (map (λ c. c.piece) calls))

pub record Suffices (p : Place) (piece : List ℕ) : Type 0 where
  -- in a room of so many bytes, or more, all of the piece is taken
  pub whole : (room : ℕ) → room_for (length piece) ≤ room → list_of p piece room ≡ listed_all p piece
  pub whole_room : (room : List ℕ) → room_for (length piece) ≤ length room
      → room_listed p piece room ≡ lines_for p piece ++ drop (length (lines_for p piece)) room
  -- no more is taken than there is
  pub most_taken : (room : ℕ) → (list_of p piece room).taken ≤ length piece
  -- a room for one line takes some of every piece that is not empty
  pub some_taken : (room : ℕ) → longest_line ≤ room → 0 < length piece → 0 < (list_of p piece room).taken
  -- what is written fits the room, whatever its size
  pub fits : (room : ℕ) → (list_of p piece room).written ≤ room
  -- the piece completes at most (n + 3) / 4 words, whose lines fit the room
  pub most_words : length (joined p piece) / 4 ≤ (length piece + 3) / 4
  pub most_lines : length (lines_for p piece) ≤ longest_line * (length (joined p piece) / 4)

-- ---- the end: 12 exactly where the room is shorter than its line, and then the room stays as it was; otherwise the line is there
pub record Finishes (p : Place) (room : List ℕ) : Type 0 where
  pub accepts : (finish_number p (length room) ≡ 0) ↔ (length (end_for p) ≤ length room)
  pub gives_12 : (finish_number p (length room) ≡ 12) ↔ (length room < length (end_for p))
  pub no_sum : finish_missing p (length room) ≡ 0
  pub refused : (finish_number p (length room) ≢ 0) → (room_finished p room ≡ room) × (finish_length p (length room) ≡ 0)
  pub written : finish_number p (length room) ≡ 0
      → (room_finished p room ≡ end_for p ++ drop (length (end_for p)) room) × (finish_length p (length room) ≡ length (end_for p))
  -- no line where no byte is begun, and one of six bytes otherwise
  pub no_line : length (pending p.begun) ≡ 0 → length (end_for p) ≡ 0
  pub one_line : (length (pending p.begun) ≢ 0) → length (end_for p) ≡ end_room
  pub short : length (end_for p) ≤ end_room

-- ---- a line: a listed word has its text, and any other the one refusal that there is with every feature on
pub record Says (w : ℕ) : Type 0 where
  pub listed : Listed w → said w ≡ text_of w
  pub unlisted : (Listed w → ⊥) → said w ≡ ascii "-7"

-- no line is longer, and one is that long
pub record Longest : Type 0 where
  pub most : (address w : ℕ) → length (line address w) ≤ longest_line
  pub one : length (line 0 0x811E8352) ≡ longest_line

-- ---- the address goes on modulo 2^32: behind 2^32 bytes, or a multiple, a listing goes on as it began
abbrev pub Wraps : Type 0
Wraps = (before bytes : List ℕ) → length before % 2 ^ 32 ≡ 0 → listing (before ++ bytes) ≡ word_lines 0 before ++ listing bytes
