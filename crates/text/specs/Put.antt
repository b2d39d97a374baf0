-- The parts of a line that are no part of the grammar, and what print does with the line: the words of its own contracts.
use Rattle.std.specs.Prelude.{cond, List, [], ◌∷◌, ◌++◌, ℕ, eqb, ltb, length, drop, Err, Ok, Result}
use Rattle.isa.specs.declared.Instruction.{Instruction}
use Rattle.isa.specs.declared.Refusal.{Refusal}
use Rattle.isa.specs.declared.Refusal.TheVariants.{Room}
use Rattle.names.specs.declared.TileName.{TileName}
use Rattle.names.specs.Lists.{name_of}
use Rattle.text.specs.Ascii.{ascii}
use Rattle.text.specs.Spelling.{Text, decimal, suffix, name_text, further, spelling}

-- names as they stand behind ZERO's opening brace: a space before the first, a comma and a space before each other
abbrev pub shown : List Text → Text
shown [] = []
shown (t ∷ ts) = ascii " " ++ t ++ further ts

-- where the first stands: behind `zero {`
abbrev pub first_name_at : ℕ
first_name_at = length (ascii "zero {")

-- the name of a list's digit as it stands there; 0 is none
abbrev pub listed : ℕ → ℕ → Text
listed at d = cond (eqb d 0) [] (cond (eqb at first_name_at) (ascii " ") (ascii ", ") ++ name_text (name_of d))

-- a name behind a lead that ends with its za
abbrev pub behind : Text → TileName → Text
behind lead k = cond (eqb k.bytes 1) lead (lead ++ decimal k.tile.0 ++ suffix k.bytes)

-- what print answers and leaves: for a word that passed 1, 7 and 8, its instruction alone decides
abbrev pub printed_in : Instruction → ℕ → Result ℕ Refusal
printed_in i room = cond (ltb room (length (spelling i))) (Err Room) (Ok (length (spelling i)))

abbrev pub filled_with : Instruction → List ℕ → List ℕ
filled_with i room = cond (ltb (length room) (length (spelling i))) room (spelling i ++ drop (length (spelling i)) room)
