-- Where a listing stands between two pieces of its input, what is written for a piece and at the end, and how much of a piece a
-- room takes.
use Rattle.std.specs.Prelude.{ℕ, ◌+◌, ◌-◌, ◌*◌, ◌/◌, ◌%◌, ◌^◌, min, List, [], ◌∷◌, ◌++◌, length, take, drop, nat_lt, slice_index, Result}
use Rattle.isa.specs.declared.Refusal.{Refusal}
use Rattle.isa.specs.Refusals.{Test, first_failure, missing_beside, number_in, value_in}
use Rattle.isa.specs.declared.Refusal.TheVariants.{Room}
use Rattle.text.specs.Spelling.{Text}
use Rattle.text.specs.Printing.{printed, filled}
use Rattle.disassembly.specs.Listing.{word_of, word_lines, end_line}
use Rattle.disassembly.specs.declared.Begun.{Begun}
use Rattle.disassembly.specs.declared.Begun.TheVariants.{Nothing, One, Two, Three}
use Rattle.disassembly.specs.declared.Place.{Place}
use Rattle.disassembly.specs.declared.Advance.{Advance}

-- the bytes of a word begun
abbrev pub pending : Begun → List ℕ
pending Nothing = []
pending (One a) = a ∷ []
pending (Two a b) = a ∷ b ∷ []
pending (Three a b c) = a ∷ b ∷ c ∷ []

abbrev pub at_start : Place
at_start = record { address = 0; begun = Nothing }

-- ---- a piece: its bytes stand behind those that were begun
abbrev pub joined : Place → List ℕ → List ℕ
joined p piece = pending p.begun ++ piece

-- what is written: the lines of the words that the piece completes
abbrev pub lines_for : Place → List ℕ → Text
lines_for p piece = word_lines p.address (joined p piece)

-- the place behind bytes, the first of which has this address: a whole word moves it on by 4, modulo 2^32
unfoldable pub place_behind : ℕ → List ℕ → Place
place_behind address (a ∷ b ∷ c ∷ d ∷ bytes) = place_behind ((address + 4) % 2 ^ 32) bytes
place_behind address (a ∷ b ∷ c ∷ []) = record { address = address; begun = Three a b c }
place_behind address (a ∷ b ∷ []) = record { address = address; begun = Two a b }
place_behind address (a ∷ []) = record { address = address; begun = One a }
place_behind address [] = record { address = address; begun = Nothing }

abbrev pub after : Place → List ℕ → Place
after p piece = place_behind p.address (joined p piece)

-- the word whose bytes, the lowest first, stand from i on
abbrev pub word_from : List ℕ → ℕ → ℕ
word_from bytes i = word_of (slice_index bytes i) (slice_index bytes (i + 1)) (slice_index bytes (i + 2)) (slice_index bytes (i + 3))

-- ---- the end
abbrev pub end_for : Place → Text
end_for p = end_line (length (pending p.begun))

-- ---- the room: no line of a word has more bytes than this, and that of an odd end has so many
abbrev pub longest_line : ℕ
longest_line = 66

abbrev pub end_room : ℕ
end_room = 6

-- all of a piece listed: where the listing then stands, how many bytes were taken, and how many were written
abbrev pub listed_all : Place → List ℕ → Advance
listed_all p piece = record { place = after p piece; taken = length piece; written = length (lines_for p piece) }

-- how many bytes a room takes at most: those that complete no more words than it has place for, by the longest lines
abbrev pub most : Place → ℕ → ℕ
most p room = 4 * (room / longest_line) + 3 - length (pending p.begun)

-- the part of a piece that is taken
abbrev pub taken_part : Place → List ℕ → ℕ → List ℕ
taken_part p piece room = take (min (length piece) (most p room)) piece

-- list's answer, for a room of so many bytes, and what it leaves in the room
unfoldable pub list_of : Place → List ℕ → ℕ → Advance
list_of p piece room = listed_all p (taken_part p piece room)

unfoldable pub room_listed : Place → List ℕ → List ℕ → List ℕ
room_listed p piece room = let t = lines_for p (taken_part p piece (length room)) in t ++ drop (length t) room

-- finish tests 12 alone, as print does last; its answer, and what it leaves in the room
abbrev pub end_tests : Place → ℕ → List Test
end_tests p room = record { fails = nat_lt room (length (end_for p)); gives = Room } ∷ []

unfoldable pub finish_of : Place → ℕ → Result ℕ Refusal
finish_of p room = printed (first_failure (end_tests p room)) (end_for p)

unfoldable pub room_finished : Place → List ℕ → List ℕ
room_finished p room = filled (first_failure (end_tests p (length room))) (end_for p) room

-- the paper's number, sum and value of finish's answer
abbrev pub finish_number : Place → ℕ → ℕ
finish_number p room = number_in (finish_of p room)

abbrev pub finish_missing : Place → ℕ → ℕ
finish_missing p room = missing_beside (finish_of p room)

abbrev pub finish_length : Place → ℕ → ℕ
finish_length p room = value_in (finish_of p room)
