-- The encoding table (document 01, "Encodings", and document 02, C-14): its rows, the features that each needs, and the
-- description that its fields are.
use Rattle.std.specs.Prelude.{Bool, true, false, not, cond, ◌&&◌, List, [], ◌∷◌, ◌++◌, ℕ, ◌+◌, ◌-◌, ◌*◌, ◌/◌, ◌%◌, eqb, ltb, leb}
use Rattle.isa.specs.Row.{Name, same, u0, u1, S, ZAda, Zn, Zm, Pn, Pm, N, M, mask, fixed, field, Row, Fields, word_of, field_of, every}
use Rattle.isa.specs.declared.Shape.{Shape}
use Rattle.isa.specs.declared.Shape.TheVariants.{Bytes32, Halves64, Halves32}
use Rattle.isa.specs.declared.Operation.{Operation}
use Rattle.isa.specs.declared.Source.{Source}
use Rattle.isa.specs.declared.Source.TheVariants.{One, Pair}
use Rattle.isa.specs.declared.Instruction.{Instruction}
use Rattle.isa.specs.declared.Instruction.TheVariants.{Predicated, Quarter, Zero}

-- ---- the rows, from bit 31 down

-- 1010000 u0 10 u1 Zm(5) Pm(3) Pn(3) Zn(5) S 00 ZAda(2)
abbrev pub predicated32 : Row
predicated32 =
    fixed 7 0b1010000 ∷ field u0 1 ∷ fixed 2 0b10 ∷ field u1 1 ∷ field Zm 5
    ∷ field Pm 3 ∷ field Pn 3 ∷ field Zn 5 ∷ field S 1 ∷ fixed 2 0b00 ∷ field ZAda 2 ∷ []

-- 1010000 u0 11 u1 Zm(5) Pm(3) Pn(3) Zn(5) S 0 ZAda(3)
abbrev pub predicated64 : Row
predicated64 =
    fixed 7 0b1010000 ∷ field u0 1 ∷ fixed 2 0b11 ∷ field u1 1 ∷ field Zm 5
    ∷ field Pm 3 ∷ field Pn 3 ∷ field Zn 5 ∷ field S 1 ∷ fixed 1 0b0 ∷ field ZAda 3 ∷ []

-- 1000000 u0 00 u1 M Zm(3) 0 100000 N Zn(3) 0 S 00 ZAda(2)
abbrev pub quarter32 : Row
quarter32 =
    fixed 7 0b1000000 ∷ field u0 1 ∷ fixed 2 0b00 ∷ field u1 1 ∷ field M 1 ∷ field Zm 3 ∷ fixed 1 0b0
    ∷ fixed 6 0b100000 ∷ field N 1 ∷ field Zn 3 ∷ fixed 1 0b0 ∷ field S 1 ∷ fixed 2 0b00 ∷ field ZAda 2 ∷ []

-- 1010000 u0 11 u1 M Zm(3) 0 000000 N Zn(3) 0 S 1 ZAda(3)
abbrev pub quarter64 : Row
quarter64 =
    fixed 7 0b1010000 ∷ field u0 1 ∷ fixed 2 0b11 ∷ field u1 1 ∷ field M 1 ∷ field Zm 3 ∷ fixed 1 0b0
    ∷ fixed 6 0b000000 ∷ field N 1 ∷ field Zn 3 ∷ fixed 1 0b0 ∷ field S 1 ∷ fixed 1 0b1 ∷ field ZAda 3 ∷ []

-- 110000000000100000000000 mask(8)
abbrev pub zero8 : Row
zero8 = fixed 24 0b110000000000100000000000 ∷ field mask 8 ∷ []

-- the 2-way forms: u0 is the sign of both sources

-- 1010000 u0 10 0 Zm(5) Pm(3) Pn(3) Zn(5) S 10 ZAda(2)
abbrev pub predicated_two_way : Row
predicated_two_way =
    fixed 7 0b1010000 ∷ field u0 1 ∷ fixed 2 0b10 ∷ fixed 1 0b0 ∷ field Zm 5
    ∷ field Pm 3 ∷ field Pn 3 ∷ field Zn 5 ∷ field S 1 ∷ fixed 2 0b10 ∷ field ZAda 2 ∷ []

-- 1000000 u0 00 0 M Zm(3) 0 100000 N Zn(3) 0 S 10 ZAda(2)
abbrev pub quarter_two_way : Row
quarter_two_way =
    fixed 7 0b1000000 ∷ field u0 1 ∷ fixed 2 0b00 ∷ fixed 1 0b0 ∷ field M 1 ∷ field Zm 3 ∷ fixed 1 0b0
    ∷ fixed 6 0b100000 ∷ field N 1 ∷ field Zn 3 ∷ fixed 1 0b0 ∷ field S 1 ∷ fixed 2 0b10 ∷ field ZAda 2 ∷ []

-- ---- features: FEAT_SME, FEAT_SME_I16I64, FEAT_SME_MOP4 and FEAT_SME2; the flags of a bench are the sum of those that are on
pub data Feature : Type 0 where
  SME I16I64 MOP4 SME2 : Feature

abbrev pub flag : Feature → ℕ
flag SME = 1
flag I16I64 = 2
flag MOP4 = 4
flag SME2 = 8

-- every feature on; a larger number is no sum of features
abbrev pub all_flags : ℕ
all_flags = 15

abbrev pub on : ℕ → Feature → Bool
on flags f = eqb (flags / flag f % 2) 1

-- the sum of the features of a list that flags lack
abbrev pub lacking : ℕ → List Feature → ℕ
lacking flags [] = 0
lacking flags (f ∷ fs) = cond (on flags f) 0 (flag f) + lacking flags fs

-- ---- the shapes that the table has: by the size of a tile element, and how many products come to it
abbrev pub is_wide : Shape → Bool
is_wide Bytes32 = false
is_wide Halves64 = true
is_wide Halves32 = false

abbrev pub is_two_way : Shape → Bool
is_two_way Bytes32 = false
is_two_way Halves64 = false
is_two_way Halves32 = true

-- the field that has the second source's sign
abbrev pub second_sign : Shape → Name
second_sign Bytes32 = u1
second_sign Halves64 = u1
second_sign Halves32 = u0

-- ---- a description from its fields
abbrev pub one? : ℕ → Bool
one? v = eqb v 1

abbrev pub operation_of_fields : Shape → Fields → Operation
operation_of_fields s f =
    record { wide = is_wide s; two_way = is_two_way s; u0 = one? (f u0); u1 = one? (f (second_sign s)); subtract = one? (f S) }

abbrev pub source : Bool → ℕ → Source
source pair n = cond pair (Pair (record { 0 = n })) (One (record { 0 = n }))

abbrev pub predicated_of_fields : Shape → Fields → Instruction
predicated_of_fields s f =
    Predicated
    (record {
      op = operation_of_fields s f;
      tile = record { 0 = f ZAda };
      pn = record { 0 = f Pn };
      pm = record { 0 = f Pm };
      zn = record { 0 = f Zn };
      zm = record { 0 = f Zm };
    })

-- the first source starts at register 2·Zn, the second at 16 + 2·Zm
abbrev pub quarter_of_fields : Shape → Fields → Instruction
quarter_of_fields s f =
    Quarter
    (record {
      op = operation_of_fields s f;
      tile = record { 0 = f ZAda };
      first = source (one? (f N)) (2 * f Zn);
      second = source (one? (f M)) (16 + 2 * f Zm);
    })

abbrev pub zero_of_fields : Fields → Instruction
zero_of_fields f = Zero (f mask)

-- ---- the table
pub record Entry : Type 0 where
  pub row : Row
  pub needs : List Feature
  pub make : Fields → Instruction

abbrev pub predicated_row : Shape → Row
predicated_row Bytes32 = predicated32
predicated_row Halves64 = predicated64
predicated_row Halves32 = predicated_two_way

abbrev pub predicated_needs : Shape → List Feature
predicated_needs Bytes32 = SME ∷ []
predicated_needs Halves64 = I16I64 ∷ []
predicated_needs Halves32 = SME2 ∷ []

abbrev pub predicated : Shape → Entry
predicated s = record { row = predicated_row s; needs = predicated_needs s; make = predicated_of_fields s }

abbrev pub quarter_row : Shape → Row
quarter_row Bytes32 = quarter32
quarter_row Halves64 = quarter64
quarter_row Halves32 = quarter_two_way

abbrev pub quarter_needs : Shape → List Feature
quarter_needs Bytes32 = MOP4 ∷ []
quarter_needs Halves64 = MOP4 ∷ I16I64 ∷ []
quarter_needs Halves32 = MOP4 ∷ []

abbrev pub quarter : Shape → Entry
quarter s = record { row = quarter_row s; needs = quarter_needs s; make = quarter_of_fields s }

abbrev pub zeroing : Entry
zeroing = record { row = zero8; needs = SME ∷ []; make = zero_of_fields }

-- document 01's five lines, and the two of C-14
abbrev pub base_table : List Entry
base_table = predicated Bytes32 ∷ predicated Halves64 ∷ quarter Bytes32 ∷ quarter Halves64 ∷ zeroing ∷ []

abbrev pub table : List Entry
table = base_table ++ (predicated Halves32 ∷ quarter Halves32 ∷ [])

-- what a word is by a line of the table
abbrev pub described : Entry → ℕ → Instruction
described e w = e.make (field_of e.row w)

-- ---- a description's line, its fields, and which descriptions are in range

-- 2-way comes before wide: an operation that is both has no line of its own, and is out of range
abbrev pub shape_of : Operation → Shape
shape_of op = cond op.two_way Halves32 (cond op.wide Halves64 Bytes32)

abbrev pub entry_of : Instruction → Entry
entry_of (Predicated p) = predicated (shape_of p.op)
entry_of (Quarter q) = quarter (shape_of q.op)
entry_of (Zero m) = zeroing

abbrev pub bit : Bool → ℕ
bit true = 1
bit false = 0

abbrev pub is_pair : Source → Bool
is_pair (One v) = false
is_pair (Pair v) = true

abbrev pub register : Source → ℕ
register (One v) = v.0
register (Pair v) = v.0

-- the value that a list gives a name, and 0 for a name that it lacks
abbrev pub assign : List (Name × ℕ) → Fields
assign [] n = 0
assign (a ∷ more) n = cond (same a.0 n) a.1 (assign more n)

abbrev pub fields_from : Instruction → Fields
fields_from (Predicated p) =
    assign
    ((u0, bit p.op.u0) ∷ (u1, bit p.op.u1) ∷ (Zm, p.zm.0) ∷ (Pm, p.pm.0) ∷ (Pn, p.pn.0) ∷ (Zn, p.zn.0)
    ∷ (S, bit p.op.subtract) ∷ (ZAda, p.tile.0) ∷ [])
fields_from (Quarter q) =
    assign
    ((u0, bit q.op.u0) ∷ (u1, bit q.op.u1) ∷ (M, bit (is_pair q.second)) ∷ (Zm, (register q.second - 16) / 2)
    ∷ (N, bit (is_pair q.first)) ∷ (Zn, register q.first / 2) ∷ (S, bit q.op.subtract) ∷ (ZAda, q.tile.0) ∷ [])
fields_from (Zero m) = assign ((mask, m) ∷ [])

-- the word of a description
abbrev pub word_for : Instruction → ℕ
word_for i = word_of (entry_of i).row (fields_from i)

-- bytes of an operation's tile elements, how many products come to each, and bytes of its source elements
abbrev pub element_bytes : Operation → ℕ
element_bytes op = cond op.wide 8 4

abbrev pub products_of : Operation → ℕ
products_of op = cond op.two_way 2 4

abbrev pub source_bytes : Operation → ℕ
source_bytes op = element_bytes op / products_of op

-- how many tiles there are with elements of E bytes: as many as an element has bytes
abbrev pub tiles_of : ℕ → ℕ
tiles_of E = E

-- a 2-way operation is on a 32-bit tile, and its sources have one sign
abbrev pub is_formed : Operation → Bool
is_formed op = cond op.two_way (not op.wide && eqb (bit op.u0) (bit op.u1)) true

abbrev pub ranges : Instruction → List Bool
ranges (Predicated p) =
    is_formed p.op ∷ ltb p.tile.0 (tiles_of (element_bytes p.op))
    ∷ ltb p.pn.0 8 ∷ ltb p.pm.0 8 ∷ ltb p.zn.0 32 ∷ ltb p.zm.0 32 ∷ []
ranges (Quarter q) =
    is_formed q.op ∷ ltb q.tile.0 (tiles_of (element_bytes q.op))
    ∷ eqb (register q.first % 2) 0 ∷ leb (register q.first) 14
    ∷ eqb (register q.second % 2) 0 ∷ leb 16 (register q.second) ∷ leb (register q.second) 30 ∷ []
ranges (Zero m) = ltb m 256 ∷ []

abbrev pub in_range : Instruction → Bool
in_range i = every (ranges i)
