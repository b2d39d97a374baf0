-- What demand 2, and document 02, C-15, ask of words and descriptions, as statements; proofs/Theorems.antt proves each for
-- every input.
use Rattle.std.specs.Prelude.{◌≡◌, true, false, cond, ◌↔◌, ℕ, ◌≤◌, ◌<◌, ◌^◌, length, Ok}
use mathlib.Core.List.{List, [], ◌∷◌, Memᴰ}
use Rattle.std.proofs.Math.Option.{some}
use Rattle.isa.specs.Row.{matches}
use Rattle.isa.specs.Table.{Feature, Entry, table, all_flags, on, entry_of, in_range}
use Rattle.isa.specs.Answers.{describe, missing, decode_of, decode_number, decode_missing, encode_of, encode_number, encode_word}
use Rattle.isa.specs.declared.Instruction.{Instruction}

-- a word matches some line of the table
abbrev pub Listed : ℕ → Type 0
Listed w = (e : Entry) × Memᴰ e table × (matches e.row w ≡ true)

-- every feature of a list is on
abbrev pub AllOn : ℕ → List Feature → Type 0
AllOn flags fs = (f : Feature) → Memᴰ f fs → on flags f ≡ true

-- every feature that a word's line needs is on
abbrev pub FeaturesOn : ℕ → ℕ → Type 0
FeaturesOn flags w = (e : Entry) → Memᴰ e table → matches e.row w ≡ true → AllOn flags e.needs

-- a word's line needs a feature
abbrev pub Needs : ℕ → Feature → Type 0
Needs w f = (e : Entry) × Memᴰ e table × (matches e.row w ≡ true) × Memᴰ f e.needs

-- C-15: beside an answer's number stands a sum of flags; w is the word that the answer is about. 8 comes with exactly the
-- flags that w needs and that are off, and any other number with none.
pub record HandsBack (flags w number sum : ℕ) : Type 0 where
  pub beside_8 : number ≡ 8 → sum ≡ missing flags w
  pub never_0 : number ≡ 8 → 0 < sum
  pub beside_others : (number ≡ 8 → ⊥) → sum ≡ 0

-- which words decode accepts, and what the others get
pub record Decodes (flags w : ℕ) : Type 0 where
  pub accepts : (decode_number flags w ≡ 0) ↔ (flags ≤ all_flags) × Listed w × FeaturesOn flags w
  pub gives_1 : (decode_number flags w ≡ 1) ↔ (all_flags < flags)
  pub gives_7 : (decode_number flags w ≡ 7) ↔ (flags ≤ all_flags) × (Listed w → ⊥)
  pub gives_8 : (decode_number flags w ≡ 8) ↔ (flags ≤ all_flags) × Listed w × (FeaturesOn flags w → ⊥)
  pub describes : (i : Instruction) → decode_of flags w ≡ Ok i → describe w ≡ some i
  pub missing_none : (missing flags w ≡ 0) ↔ FeaturesOn flags w
  pub missing_is : (f : Feature) → (on (missing flags w) f ≡ true) ↔ Needs w f × (on flags f ≡ false)
  pub missing_most : missing flags w ≤ all_flags
  pub hands_back : HandsBack flags w (decode_number flags w) (decode_missing flags w)

-- w is the only word that is i
pub record OnlyWord (i : Instruction) (w : ℕ) : Type 0 where
  pub fits : w < 2 ^ 32
  pub is : describe w ≡ some i
  pub only : (v : ℕ) → v < 2 ^ 32 → describe v ≡ some i → v ≡ w

-- a description in range has one word, which encode gives and decode takes back; any other gets 11
pub record Encodes (i : Instruction) : Type 0 where
  pub word : in_range i ≡ true → (w : ℕ) × (encode_of i ≡ Ok w) × OnlyWord i w
  pub back : (flags w : ℕ) → encode_of i ≡ Ok w → flags ≤ all_flags → AllOn flags (entry_of i).needs → decode_of flags w ≡ Ok i
  pub only_word : encode_number i ≡ 0 → OnlyWord i (encode_word i)
  pub accepts : (encode_number i ≡ 0) ↔ (in_range i ≡ true)
  pub gives_11 : (encode_number i ≡ 11) ↔ (in_range i ≡ false)

-- a listed word is the word of one description, which is in range
pub record Describes (w : ℕ) (i : Instruction) : Type 0 where
  pub is : describe w ≡ some i
  pub is_in_range : in_range i ≡ true
  pub encoded : encode_of i ≡ Ok w
  pub only : (j : Instruction) → encode_of j ≡ Ok w → j ≡ i

-- the lines of a table that a word matches
abbrev pub lines_of : List Entry → ℕ → List Entry
lines_of [] w = []
lines_of (e ∷ es) w = cond (matches e.row w) (e ∷ lines_of es w) (lines_of es w)

abbrev pub OneLine : ℕ → Type 0
OneLine w = length (lines_of table w) ≤ 1
