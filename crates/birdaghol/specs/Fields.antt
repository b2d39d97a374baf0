-- The description of a word as numbers, which `birdaghol_describe` hands out: its kind, then the arguments of that kind's
-- encode in their order.
use Rattle.std.specs.Prelude.{Bool, cond, List, [], ◌∷◌, ◌++◌, ℕ, eqb, length, get_or}
use Rattle.std.proofs.Math.Option.{Option, none, some}
use Rattle.isa.specs.Refusals.{refusal_number, refusal_missing, Test, first_failure}
use Rattle.isa.specs.Table.{bit, is_pair, register, element_bytes, products_of}
use Rattle.isa.specs.Answers.{describe, room_tests}
use Rattle.isa.specs.declared.Refusal.{Refusal}
use Rattle.isa.specs.declared.Operation.{Operation}
use Rattle.isa.specs.declared.Instruction.{Instruction}
use Rattle.isa.specs.declared.Instruction.TheVariants.{Predicated, Quarter, Zero}
use Rattle.text.specs.Printing.{filled}
use Rattle.birdaghol.specs.Calls.{answer, encode_call, predicated_call, quarter_call, zero_call}

-- element bytes, products, signs and subtract
abbrev pub operation_numbers : Operation → List ℕ
operation_numbers op = element_bytes op ∷ products_of op ∷ bit op.u0 ∷ bit op.u1 ∷ bit op.subtract ∷ []

abbrev pub numbers_of : Instruction → List ℕ
numbers_of (Predicated p) = 1 ∷ (operation_numbers p.op ++ (p.tile.0 ∷ p.pn.0 ∷ p.pm.0 ∷ p.zn.0 ∷ p.zm.0 ∷ []))
numbers_of (Quarter q) =
    2 ∷ (operation_numbers q.op ++ (q.tile.0 ∷ register q.first ∷ bit (is_pair q.first) ∷ register q.second ∷ bit (is_pair q.second) ∷ []))
numbers_of (Zero mask) = 3 ∷ mask ∷ 0 ∷ 0 ∷ 0 ∷ 0 ∷ 0 ∷ 0 ∷ 0 ∷ 0 ∷ 0 ∷ []

-- of a word; none where the table does not list it
abbrev pub numbers_in : Option Instruction → List ℕ
numbers_in none = []
numbers_in (some i) = numbers_of i

-- how many there are
abbrev pub field_count : ℕ
field_count = 11

-- tests 1, 7, 8, and 12: fewer places than numbers
abbrev pub describe_tests : ℕ → ℕ → ℕ → List Test
describe_tests flags w places = room_tests flags w places (length (numbers_in (describe w)))

abbrev pub describe_refusal : ℕ → ℕ → ℕ → Option Refusal
describe_refusal flags w places = first_failure (describe_tests flags w places)

-- the paper's number and sum of the answer, for so many places, and the answer
abbrev pub describe_number : ℕ → ℕ → ℕ → ℕ
describe_number flags w places = refusal_number (describe_refusal flags w places)

abbrev pub describe_missing : ℕ → ℕ → ℕ → ℕ
describe_missing flags w places = refusal_missing (describe_refusal flags w places)

abbrev pub describe_call : ℕ → ℕ → ℕ → ℕ
describe_call flags w places = answer 0 (describe_refusal flags w places)

-- the numbers at the start, and those after them as they were; refused, all of them as they were
abbrev pub fields_after : ℕ → ℕ → List ℕ → List ℕ
fields_after flags w fields = filled (describe_refusal flags w (length fields)) (numbers_in (describe w)) fields

-- what the encode of their kind answers, given these numbers; another kind has none
abbrev pub place : List ℕ → ℕ → ℕ
place fields i = get_or fields i 0

abbrev pub truth : List ℕ → ℕ → Bool
truth fields i = eqb (place fields i) 1

abbrev pub encode_predicated : List ℕ → ℕ
encode_predicated f =
    predicated_call (place f 1) (place f 2) (truth f 3) (truth f 4) (truth f 5) (place f 6) (place f 7) (place f 8) (place f 9) (place f 10)

abbrev pub encode_quarter : List ℕ → ℕ
encode_quarter f =
    quarter_call (place f 1) (place f 2) (truth f 3) (truth f 4) (truth f 5) (place f 6) (place f 7) (truth f 8) (place f 9) (truth f 10)

abbrev pub encode_numbers : List ℕ → ℕ
encode_numbers f =
    cond (eqb (place f 0) 1) (encode_predicated f)
    (cond (eqb (place f 0) 2) (encode_quarter f) (cond (eqb (place f 0) 3) (zero_call (place f 1)) (encode_call none)))
