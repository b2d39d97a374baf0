-- What documents 01 and 02 ask of a print, in their numbers; proofs/Theorems.antt proves it for every flags, word and room.
use Rattle.std.specs.Prelude.{◌≡◌, ◌↔◌, List, ◌++◌, map, ℕ, ◌+◌, ◌≤◌, ◌<◌, length, take, drop}
use Rattle.isa.specs.Answers.{decode_number}
use Rattle.isa.specs.Claims.{HandsBack}
use Rattle.names.specs.declared.TileName.{TileName}
use Rattle.names.specs.Names.{Shortest}
use Rattle.text.specs.Ascii.{ascii}
use Rattle.text.specs.Spelling.{Text, name_text, braced}
use Rattle.text.specs.Printing.{text_of, print_number, print_missing, print_length, room_after}

-- a text of at least `least` bytes and at most `most`
pub record OfLength (least most : ℕ) (t : Text) : Type 0 where
  pub low : least ≤ length t
  pub high : length t ≤ most

-- a text of n bytes is at the start of a room, and the bytes after it are as they were
pub record Holds (t : Text) (n : ℕ) (before after : List ℕ) : Type 0 where
  pub whole : n ≡ length t
  pub least : 1 ≤ n
  pub most : n ≤ 47
  pub text : take n after ≡ t
  pub rest : drop n after ≡ drop n before
  pub size : length after ≡ length before

-- what print answers, and what it leaves in the room
pub record Prints (flags w : ℕ) (room : List ℕ) : Type 0 where
  pub accepts : (print_number flags w (length room) ≡ 0) ↔ (decode_number flags w ≡ 0) × (length (text_of w) ≤ length room)
  pub gives_1 : (print_number flags w (length room) ≡ 1) ↔ (decode_number flags w ≡ 1)
  pub gives_7 : (print_number flags w (length room) ≡ 7) ↔ (decode_number flags w ≡ 7)
  pub gives_8 : (print_number flags w (length room) ≡ 8) ↔ (decode_number flags w ≡ 8)
  pub hands_back : HandsBack flags w (print_number flags w (length room)) (print_missing flags w (length room))
  pub gives_12 : (print_number flags w (length room) ≡ 12) ↔ (decode_number flags w ≡ 0) × (length room < length (text_of w))
  pub refused : (print_number flags w (length room) ≡ 0 → ⊥) → (room_after flags w room ≡ room) × (print_length flags w (length room) ≡ 0)
  pub printed : print_number flags w (length room) ≡ 0 → Holds (text_of w) (print_length flags w (length room)) room (room_after flags w room)

-- C-12: the line of a ZERO has the shortest list of names that covers its mask
abbrev pub ZeroLine : ℕ → Type 0
ZeroLine mask = (ks : List TileName) → Shortest mask ks → text_of (0xC0080000 + mask) ≡ ascii "zero " ++ braced (map name_text ks)
