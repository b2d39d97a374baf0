-- Words and what they are, and what each line misses with which flags, as rows of tables; proofs/Examples.antt shows that
-- each comes out as it says. The paper's marked examples are in crates/bench/specs/Examples.antt. Here are words of an independent
-- disassembler: three for each row of the table that has two fields or more, in which every two of its fields differ
-- somewhere, both signs stand alone and, where the row allows it, mixed, and both values of S, N and M occur; each with the
-- least flags that allow it; then words that are refused.
use Rattle.std.specs.Prelude.{Bool, true, false, List, [], ◌∷◌, ℕ, zero, suc, ◌-◌, Err, Ok, Result}
use Rattle.std.proofs.Math.Option.{Option, none, some}
use Rattle.isa.specs.Refusals.{missing_beside, number_in}
use Rattle.isa.specs.Table.{all_flags, is_wide, is_two_way, lacking, Entry}
use Rattle.isa.specs.Answers.{decode_of}
use Rattle.isa.specs.declared.Refusal.{Refusal}
use Rattle.isa.specs.declared.Shape.{Shape}
use Rattle.isa.specs.declared.Shape.TheVariants.{Bytes32, Halves64, Halves32}
use Rattle.isa.specs.declared.Operation.{Operation}
use Rattle.isa.specs.declared.Source.{Source}
use Rattle.isa.specs.declared.Source.TheVariants.{One, Pair}
use Rattle.isa.specs.declared.Instruction.{Instruction}
use Rattle.isa.specs.declared.Instruction.TheVariants.{Predicated, Quarter, Zero}

-- ---- words
-- the number that decode gives with these flags (0: accepted), the sum that it hands back, and the instruction
pub record Example : Type 0 where
  pub flags : ℕ
  pub word : ℕ
  pub number : ℕ
  pub missing : ℕ
  pub is : Option Instruction

-- operations by the letters of their mnemonics and the suffixes of tile and sources, as `umop sb adds` for UMOPA or UMOP4A
-- of bytes on a 32-bit tile
abbrev pub sb : Shape
sb = Bytes32

abbrev pub dh : Shape
dh = Halves64

abbrev pub sh : Shape
sh = Halves32

abbrev pub adds : Bool
adds = false

abbrev pub subtracts : Bool
subtracts = true

abbrev pub mop : Bool → Bool → Shape → Bool → Operation
mop u0 u1 shape subtract = record { wide = is_wide shape; two_way = is_two_way shape; u0 = u0; u1 = u1; subtract = subtract }

abbrev pub smop : Shape → Bool → Operation
smop = mop false false

abbrev pub sumop : Shape → Bool → Operation
sumop = mop false true

abbrev pub umop : Shape → Bool → Operation
umop = mop true true

-- an instruction by its operands, in the order of its text
abbrev pub a_predicated : Operation → ℕ → ℕ → ℕ → ℕ → ℕ → Option Instruction
a_predicated op tile pn pm zn zm =
    some (Predicated (record { op = op; tile = record { 0 = tile }; pn = record { 0 = pn }; pm = record { 0 = pm }; zn = record { 0 = zn }; zm = record { 0 = zm } }))

abbrev pub a_quarter : Operation → ℕ → Source → Source → Option Instruction
a_quarter op tile first second = some (Quarter (record { op = op; tile = record { 0 = tile }; first = first; second = second }))

abbrev pub z : ℕ → Source
z n = One (record { 0 = n })

abbrev pub zz : ℕ → Source
zz n = Pair (record { 0 = n })

abbrev pub examples : List Example
examples =
    -- smops za3.s, p5/m, p4/m, z13.b, z7.b
    record { flags = 1; word = 0xA08795B3; number = 0; missing = 0; is = a_predicated (smop sb subtracts) 3 5 4 13 7 }
    -- umopa za2.s, p7/m, p3/m, z24.b, z19.b
    ∷ record { flags = 1; word = 0xA1B37F02; number = 0; missing = 0; is = a_predicated (umop sb adds) 2 7 3 24 19 }
    -- sumopa za3.s, p5/m, p6/m, z28.b, z25.b
    ∷ record { flags = 1; word = 0xA0B9D783; number = 0; missing = 0; is = a_predicated (sumop sb adds) 3 5 6 28 25 }
    -- smops za2.d, p6/m, p3/m, z24.h, z22.h
    ∷ record { flags = 2; word = 0xA0D67B12; number = 0; missing = 0; is = a_predicated (smop dh subtracts) 2 6 3 24 22 }
    -- umopa za7.d, p4/m, p6/m, z23.h, z26.h
    ∷ record { flags = 2; word = 0xA1FAD2E7; number = 0; missing = 0; is = a_predicated (umop dh adds) 7 4 6 23 26 }
    -- sumopa za3.d, p7/m, p4/m, z14.h, z11.h
    ∷ record { flags = 2; word = 0xA0EB9DC3; number = 0; missing = 0; is = a_predicated (sumop dh adds) 3 7 4 14 11 }
    -- smop4s za3.s, { z12.b-z13.b }, z30.b
    ∷ record { flags = 4; word = 0x800E8393; number = 0; missing = 0; is = a_quarter (smop sb subtracts) 3 (zz 12) (z 30) }
    -- umop4a za3.s, { z14.b-z15.b }, z26.b
    ∷ record { flags = 4; word = 0x812A83C3; number = 0; missing = 0; is = a_quarter (umop sb adds) 3 (zz 14) (z 26) }
    -- sumop4s za2.s, z12.b, { z26.b-z27.b }
    ∷ record { flags = 4; word = 0x803A8192; number = 0; missing = 0; is = a_quarter (sumop sb subtracts) 2 (z 12) (zz 26) }
    -- smop4s za4.d, { z4.h-z5.h }, { z30.h-z31.h }
    ∷ record { flags = 6; word = 0xA0DE029C; number = 0; missing = 0; is = a_quarter (smop dh subtracts) 4 (zz 4) (zz 30) }
    -- umop4s za7.d, z8.h, z22.h
    ∷ record { flags = 6; word = 0xA1E6011F; number = 0; missing = 0; is = a_quarter (umop dh subtracts) 7 (z 8) (z 22) }
    -- sumop4a za6.d, { z6.h-z7.h }, z20.h
    ∷ record { flags = 6; word = 0xA0E402CE; number = 0; missing = 0; is = a_quarter (sumop dh adds) 6 (zz 6) (z 20) }
    -- zero { za0.d, za1.s, za2.d, za7.d }
    ∷ record { flags = 1; word = 0xC00800A7; number = 0; missing = 0; is = some (Zero 0b10100111) }
    -- umopa za2.s, p7/m, p0/m, z31.h, z1.h
    ∷ record { flags = 8; word = 0xA1811FEA; number = 0; missing = 0; is = a_predicated (umop sh adds) 2 7 0 31 1 }
    -- smopa za2.s, p0/m, p4/m, z25.h, z26.h
    ∷ record { flags = 8; word = 0xA09A832A; number = 0; missing = 0; is = a_predicated (smop sh adds) 2 0 4 25 26 }
    -- umops za1.s, p5/m, p4/m, z14.h, z5.h
    ∷ record { flags = 8; word = 0xA18595D9; number = 0; missing = 0; is = a_predicated (umop sh subtracts) 1 5 4 14 5 }
    -- smop4s za3.s, { z14.h-z15.h }, z16.h
    ∷ record { flags = 4; word = 0x800083DB; number = 0; missing = 0; is = a_quarter (smop sh subtracts) 3 (zz 14) (z 16) }
    -- smop4s za1.s, z0.h, { z18.h-z19.h }
    ∷ record { flags = 4; word = 0x80128019; number = 0; missing = 0; is = a_quarter (smop sh subtracts) 1 (z 0) (zz 18) }
    -- umop4a za0.s, z6.h, z22.h
    ∷ record { flags = 4; word = 0x810680C8; number = 0; missing = 0; is = a_quarter (umop sh adds) 0 (z 6) (z 22) }
    -- no 2-way word has sources of different signs, and no other flag stands in for SME2's
    ∷ record { flags = 15; word = 0xA0A00008; number = 7; missing = 0; is = none }
    ∷ record { flags = 15; word = 0x80208008; number = 7; missing = 0; is = none }
    ∷ record { flags = 7; word = 0xA0800008; number = 8; missing = 8; is = none }
    -- a word that needs two features, with neither of them, and with either
    ∷ record { flags = 0; word = 0xA1C0001F; number = 8; missing = 6; is = none }
    ∷ record { flags = 4; word = 0xA1C0001F; number = 8; missing = 2; is = none }
    ∷ record { flags = 11; word = 0xA1C0001F; number = 8; missing = 4; is = none }
    -- flags above 15 hide even a listed word
    ∷ record { flags = 16; word = 0xA0B9D783; number = 1; missing = 0; is = none }
    ∷ []

abbrev pub accepted : Result Instruction Refusal → Option Instruction
accepted (Ok i) = some i
accepted (Err r) = none

-- an example with what decode answers in place of what it should
abbrev pub replayed : Example → Example
replayed e =
    let answer = decode_of e.flags e.word in
    record {
      flags = e.flags;
      word = e.word;
      number = number_in answer;
      missing = missing_beside answer;
      is = accepted answer;
    }

-- ---- features
-- the sums that each line of the table misses, with flags 0 to 15
abbrev pub missing_sums : List (List ℕ)
missing_sums =
    (1 ∷ 0 ∷ 1 ∷ 0 ∷ 1 ∷ 0 ∷ 1 ∷ 0 ∷ 1 ∷ 0 ∷ 1 ∷ 0 ∷ 1 ∷ 0 ∷ 1 ∷ 0 ∷ [])
    ∷ (2 ∷ 2 ∷ 0 ∷ 0 ∷ 2 ∷ 2 ∷ 0 ∷ 0 ∷ 2 ∷ 2 ∷ 0 ∷ 0 ∷ 2 ∷ 2 ∷ 0 ∷ 0 ∷ [])
    ∷ (4 ∷ 4 ∷ 4 ∷ 4 ∷ 0 ∷ 0 ∷ 0 ∷ 0 ∷ 4 ∷ 4 ∷ 4 ∷ 4 ∷ 0 ∷ 0 ∷ 0 ∷ 0 ∷ [])
    ∷ (6 ∷ 6 ∷ 4 ∷ 4 ∷ 2 ∷ 2 ∷ 0 ∷ 0 ∷ 6 ∷ 6 ∷ 4 ∷ 4 ∷ 2 ∷ 2 ∷ 0 ∷ 0 ∷ [])
    ∷ (1 ∷ 0 ∷ 1 ∷ 0 ∷ 1 ∷ 0 ∷ 1 ∷ 0 ∷ 1 ∷ 0 ∷ 1 ∷ 0 ∷ 1 ∷ 0 ∷ 1 ∷ 0 ∷ [])
    ∷ (8 ∷ 8 ∷ 8 ∷ 8 ∷ 8 ∷ 8 ∷ 8 ∷ 8 ∷ 0 ∷ 0 ∷ 0 ∷ 0 ∷ 0 ∷ 0 ∷ 0 ∷ 0 ∷ [])
    ∷ (4 ∷ 4 ∷ 4 ∷ 4 ∷ 0 ∷ 0 ∷ 0 ∷ 0 ∷ 4 ∷ 4 ∷ 4 ∷ 4 ∷ 0 ∷ 0 ∷ 0 ∷ 0 ∷ [])
    ∷ []

-- what a line misses with the last k of the flags 0 to 15
abbrev pub sums_of : ℕ → Entry → List ℕ
sums_of zero e = []
sums_of (suc k) e = lacking (all_flags - k) e.needs ∷ sums_of k e
