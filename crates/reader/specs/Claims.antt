-- What document 02 (C-11, C-12, C-15) asks of a read, in the paper's numbers; proofs/Theorems.antt proves it for every flags and
-- line.
use Rattle.std.specs.Prelude.{◌≡◌, ◌↔◌, ◌&&◌, List, ◌++◌, map, ℕ, ◌+◌, ◌≤◌, ◌<◌, ◌^◌, eqb, length, take}
use Rattle.isa.specs.Table.{all_flags}
use Rattle.isa.specs.Claims.{Listed, FeaturesOn, HandsBack}
use Rattle.names.specs.declared.TileName.{TileName}
use Rattle.names.specs.Names.{names, inside, chosen}
use Rattle.text.specs.Ascii.{ascii}
use Rattle.text.specs.Spelling.{Text, name_text, braced}
use Rattle.text.specs.Printing.{text_of, print_number, print_length, room_after}
use Rattle.text.specs.Claims.{OfLength, Holds}
use Rattle.reader.specs.Answers.{read_number, read_missing, read_word}

-- w is a listed word, and the line is its text
pub record Spells (w : ℕ) (t : Text) : Type 0 where
  pub fits : w < 2 ^ 32
  pub listed : Listed w
  pub text : text_of w ≡ t

-- what read answers; only a word's line gets a sum
pub record Reads (flags : ℕ) (t : Text) : Type 0 where
  pub accepts : (read_number flags t ≡ 0) ↔ (flags ≤ all_flags) × ((w : ℕ) × Spells w t × FeaturesOn flags w)
  pub gives_1 : (read_number flags t ≡ 1) ↔ (all_flags < flags)
  pub gives_13 : (read_number flags t ≡ 13) ↔ (flags ≤ all_flags) × ((w : ℕ) → Spells w t → ⊥)
  pub gives_8 : (read_number flags t ≡ 8) ↔ (flags ≤ all_flags) × ((w : ℕ) × Spells w t × (FeaturesOn flags w → ⊥))
  pub hands_back : (w : ℕ) → Spells w t → HandsBack flags w (read_number flags t) (read_missing flags t)
  pub no_sum : (read_number flags t ≡ 8 → ⊥) → read_missing flags t ≡ 0
  pub word : read_number flags t ≡ 0 → Spells (read_word flags t) t × FeaturesOn flags (read_word flags t)
  pub refused : (read_number flags t ≡ 0 → ⊥) → read_word flags t ≡ 0
  pub between : read_number flags t ≡ 0 → OfLength 1 47 t

-- no two words share a line
abbrev pub OneWord : Type 0
OneWord = (v w : ℕ) (t : Text) → Spells v t → Spells w t → v ≡ w

-- and no word is read from two lines
abbrev pub OneSpelling : Type 0
OneSpelling = (f g : ℕ) (s t : Text) → read_number f s ≡ 0 → read_number g t ≡ 0 → read_word f s ≡ read_word g t → s ≡ t

-- a line is read as w, and w is printed as this text into a room
abbrev pub ReadAs : ℕ → ℕ → Text → Type 0
ReadAs flags w t = (read_number flags t ≡ 0) × (read_word flags t ≡ w)

abbrev pub PrintedAs : ℕ → ℕ → Text → List ℕ → Type 0
PrintedAs flags w t room = (print_number flags w (length room) ≡ 0) × Holds t (print_length flags w (length room)) room (room_after flags w room)

-- what was printed is read back, and what was read is printed again: the lines that are read are those that are printed
pub record Undo (flags : ℕ) : Type 0 where
  pub read_printed : (w : ℕ) (room : List ℕ) → w < 2 ^ 32 → print_number flags w (length room) ≡ 0
      → ReadAs flags w (take (print_length flags w (length room)) (room_after flags w room))
  pub print_read : (t : Text) (room : List ℕ) → read_number flags t ≡ 0 → length t ≤ length room → PrintedAs flags (read_word flags t) t room
  pub printed_lines : (t : Text) → (read_number flags t ≡ 0) ↔ ((w : ℕ) × (w < 2 ^ 32) × ((room : List ℕ) × PrintedAs flags w t room))

-- ZERO's line as document 01 had it: the mask's 64-bit tiles, rising
abbrev pub old_line : ℕ → Text
old_line m = ascii "zero " ++ braced (map name_text (chosen (λ (k : TileName). eqb k.bytes 8 && inside m k) names))

-- where that is not the line of today, it is refused by 13
abbrev pub OldRefused : Type 0
OldRefused = (flags m : ℕ) → flags ≤ all_flags → m < 256 → (old_line m ≡ text_of (0xC0080000 + m) → ⊥) → read_number flags (old_line m) ≡ 13
