-- What decode and encode answer, by the table (document 01, "Encodings" and "Refusal numbers", and document 02, C-15).
use Rattle.std.specs.Prelude.{Bool, true, false, not, cond, List, [], ◌∷◌, ◌++◌, ℕ, eqb, ltb, Result, Ok, Err}
use Rattle.std.proofs.Math.Option.{Option, none, some}
use Rattle.isa.specs.Row.{matches}
use Rattle.isa.specs.Refusals.{refusal_in, number_in, missing_beside, value_in, Test, first_failure}
use Rattle.isa.specs.Table.{Feature, Entry, table, all_flags, lacking, described, in_range, word_for}
use Rattle.isa.specs.declared.Instruction.{Instruction}
use Rattle.isa.specs.declared.Refusal.{Refusal}
use Rattle.isa.specs.declared.Refusal.TheVariants.{Flags, Unlisted, FeatureOff, OutOfRange, Room}

-- ---- a word's line of the table: the first that it matches, and there is never a second
abbrev pub lookup : List Entry → ℕ → Option Entry
lookup [] w = none
lookup (e ∷ es) w = cond (matches e.row w) (some e) (lookup es w)

abbrev pub described_by : Option Entry → ℕ → Option Instruction
described_by none w = none
described_by (some e) w = some (described e w)

abbrev pub needed_by : Option Entry → List Feature
needed_by none = []
needed_by (some e) = e.needs

-- the description of a word; none where the table does not list it
unfoldable pub describe : ℕ → Option Instruction
describe w = described_by (lookup table w) w

-- the sum of the features that a word needs and flags lack; 0 where the table does not list it
unfoldable pub missing : ℕ → ℕ → ℕ
missing flags w = lacking flags (needed_by (lookup table w))

-- ---- decode: tests 1, 7, 8
abbrev pub absent : Option Instruction → Bool
absent none = true
absent (some i) = false

abbrev pub flags_test : ℕ → Test
flags_test flags = record { fails = ltb all_flags flags; gives = Flags }

-- 7 and 8, which every function that takes a word makes
abbrev pub listing_tests : ℕ → ℕ → List Test
listing_tests flags w =
    record { fails = absent (describe w); gives = Unlisted }
    ∷ record { fails = not (eqb (missing flags w) 0); gives = FeatureOff (missing flags w) }
    ∷ []

abbrev pub decode_tests : ℕ → ℕ → List Test
decode_tests flags w = flags_test flags ∷ listing_tests flags w

-- and 12, where the word's k bytes or numbers are to go to a room of n
abbrev pub room_tests : ℕ → ℕ → ℕ → ℕ → List Test
room_tests flags w n k = decode_tests flags w ++ (record { fails = ltb n k; gives = Room } ∷ [])

-- a refusal, or the description; the last line is there for form, as a word with no description fails its test
abbrev pub decided : Option Refusal → Option Instruction → Result Instruction Refusal
decided (some r) d = Err r
decided none (some i) = Ok i
decided none none = Err Unlisted

unfoldable pub decode_of : ℕ → ℕ → Result Instruction Refusal
decode_of flags w = decided (first_failure (decode_tests flags w)) (describe w)

-- and of that answer the refusal, the number and the sum; check gives the refusal alone
abbrev pub decode_refusal : ℕ → ℕ → Option Refusal
decode_refusal flags w = refusal_in (decode_of flags w)

abbrev pub decode_number : ℕ → ℕ → ℕ
decode_number flags w = number_in (decode_of flags w)

abbrev pub decode_missing : ℕ → ℕ → ℕ
decode_missing flags w = missing_beside (decode_of flags w)

-- ---- encode: test 11
unfoldable pub encode_of : Instruction → Result ℕ Refusal
encode_of i = cond (in_range i) (Ok (word_for i)) (Err OutOfRange)

abbrev pub encode_number : Instruction → ℕ
encode_number i = number_in (encode_of i)

abbrev pub encode_word : Instruction → ℕ
encode_word i = value_in (encode_of i)
