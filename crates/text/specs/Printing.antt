-- What print answers and what it leaves in the room (document 01, "Text" and "Refusal numbers", and document 02, C-15).
use Rattle.std.specs.Prelude.{List, [], ◌++◌, ℕ, length, drop, Err, Ok, Result}
use Rattle.std.proofs.Math.Option.{Option, none, some}
use Rattle.isa.specs.Refusals.{number_in, missing_beside, value_in, Test, first_failure}
use Rattle.isa.specs.Answers.{describe, room_tests}
use Rattle.isa.specs.declared.Instruction.{Instruction}
use Rattle.isa.specs.declared.Refusal.{Refusal}
use Rattle.text.specs.Spelling.{Text, spelling}

-- the text of a word; none of it where the table does not list the word
abbrev pub spelt : Option Instruction → Text
spelt none = []
spelt (some i) = spelling i

unfoldable pub text_of : ℕ → Text
text_of w = spelt (describe w)

-- tests 1, 7, 8, 12
abbrev pub print_tests : ℕ → ℕ → ℕ → List Test
print_tests flags w room = room_tests flags w room (length (text_of w))

abbrev pub printed : Option Refusal → Text → Result ℕ Refusal
printed none t = Ok (length t)
printed (some r) t = Err r

-- the answer, for a room of so many bytes
unfoldable pub print_of : ℕ → ℕ → ℕ → Result ℕ Refusal
print_of flags w room = printed (first_failure (print_tests flags w room)) (text_of w)

-- the text at the start, and the bytes after it as they were; refused, all of them as they were
abbrev pub filled : Option Refusal → List ℕ → List ℕ → List ℕ
filled none t room = t ++ drop (length t) room
filled (some r) t room = room

unfoldable pub room_after : ℕ → ℕ → List ℕ → List ℕ
room_after flags w room = filled (first_failure (print_tests flags w (length room))) (text_of w) room

-- the number, the sum and the length of print's answer, for a room of so many bytes
abbrev pub print_number : ℕ → ℕ → ℕ → ℕ
print_number flags w room = number_in (print_of flags w room)

abbrev pub print_missing : ℕ → ℕ → ℕ → ℕ
print_missing flags w room = missing_beside (print_of flags w room)

abbrev pub print_length : ℕ → ℕ → ℕ → ℕ
print_length flags w room = value_in (print_of flags w room)
