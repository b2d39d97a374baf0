-- The paper's twelve marked bench examples as rows of one table (document 01, "Bench examples"), and 2-way words executed.
-- proofs/Examples.antt shows that every question has the answer that stands beside it.
use Rattle.std.specs.Prelude.{true, List, [], ◌∷◌, ◌++◌, map, ℕ, length, take, replicate}
use Rattle.std.proofs.Math.Option.{Option, none, some}
use Rattle.isa.specs.Answers.{describe, decode_number}
use Rattle.text.specs.Ascii.{ascii}
use Rattle.text.specs.Printing.{print_length, room_after}
use Rattle.storage.specs.Tile.{start, element}
use Rattle.machine.specs.Machine.{on}
use Rattle.machine.specs.Instructions.{TileName, tile_named}
use Rattle.machine.specs.Lists.{played}
use Rattle.machine.specs.declared.Bench.{Bench}

-- ---- what the examples ask
pub data Question : Type 0 where
  text : (flags word : ℕ) → Question
  number : (flags word : ℕ) → Question
  tile : (word : ℕ) → Question
  address : (E vb t row col : ℕ) → Question
  -- all of ZA, or one element of a tile, after a list of words on a bench of 16-byte vectors
  za-after : (flags : ℕ) (z p za words : List ℕ) → Question
  element-after : (flags E t row col : ℕ) (z p za words : List ℕ) → Question

abbrev pub number_of : Option TileName → List ℕ
number_of none = []
number_of (some n) = n.tile ∷ []

abbrev pub room : List ℕ
room = replicate 64 0

abbrev pub bench16 : ℕ → Bench
bench16 flags = record { flags = flags; sm = true; za = true; vb = 16 }

abbrev pub answer_to : Question → List ℕ
answer_to (text flags w) = take (print_length flags w (length room)) (room_after flags w room)
answer_to (number flags w) = decode_number flags w ∷ []
answer_to (tile w) = number_of (tile_named (describe w))
answer_to (address E vb t row col) = start E vb t row col ∷ []
answer_to (za-after flags z p za ws) = (played (on (bench16 flags) z p za) ws).za
answer_to (element-after flags E t row col z p za ws) = element E 16 t (played (on (bench16 flags) z p za) ws).za row col ∷ []

-- ---- their buffers: 32 vectors of 16 bytes, 16 predicates of 2 bytes, 16 rows of ZA
abbrev pub full : ℕ → List ℕ
full n = replicate n 0xFF

abbrev pub blank : ℕ → List ℕ
blank n = replicate n 0

-- the first element of z0 is 1 at either width, and every other byte is 0
abbrev pub one_z : List ℕ
one_z = 1 ∷ blank 511

-- p0 has every bit set, the others none
abbrev pub full_p0 : List ℕ
full_p0 = full 2 ++ blank 30

-- four bytes in each element of ZA0.S, and 0 in every other row
abbrev pub in_za0 : List ℕ → List ℕ
in_za0 e = let rows = e ++ e ++ e ++ e ++ blank 48 in rows ++ rows ++ rows ++ rows

-- ---- the table
pub record Example : Type 0 where
  pub questions : List Question
  pub answers : List (List ℕ)

abbrev pub examples : List Example
examples =
    record {
      questions = text 7 0xA0A00010 ∷ [];
      answers = ascii "sumops za0.s, p0/m, p0/m, z0.b, z0.b" ∷ [];
    }
    ∷ record {
      questions = text 7 0xA0B1A873 ∷ [];
      answers = ascii "sumops za3.s, p2/m, p5/m, z3.b, z17.b" ∷ [];
    }
    ∷ record {
      questions = text 7 0x811E8352 ∷ [];
      answers = ascii "usmop4s za2.s, { z10.b-z11.b }, { z30.b-z31.b }" ∷ [];
    }
    ∷ record {
      questions = number 7 0x81000010 ∷ text 7 0x81008010 ∷ [];
      answers = (7 ∷ []) ∷ ascii "usmop4s za0.s, z0.b, z16.b" ∷ [];
    }
    ∷ record {
      questions = text 7 0xA0E00018 ∷ number 7 0xA0E10018 ∷ number 7 0xA0E00038 ∷ [];
      answers = ascii "sumop4s za0.d, z0.h, z16.h" ∷ (7 ∷ []) ∷ (7 ∷ []) ∷ [];
    }
    ∷ record {
      questions = number 4 0xA1C0001F ∷ number 6 0xA1C0001F ∷ tile 0xA1C0001F ∷ [];
      answers = (8 ∷ []) ∷ (0 ∷ []) ∷ (7 ∷ []) ∷ [];
    }
    ∷ record {
      questions = number 7 0xC0080100 ∷ za-after 7 (full 512) (full 32) (full 256) (0xC00800FF ∷ []) ∷ [];
      answers = (7 ∷ []) ∷ blank 256 ∷ [];
    }
    ∷ record {
      questions = address 4 16 1 2 3 ∷ address 8 16 5 1 1 ∷ [];
      answers = (156 ∷ []) ∷ (216 ∷ []) ∷ [];
    }
    -- SUMOPA and SUMOPS of z0 with itself, to ZA0.S
    ∷ record {
      questions =
          za-after 7 (full 512) (full 32) (blank 256) (0xA0A00000 ∷ [])
          ∷ element-after 7 4 0 3 3 (full 512) (full 32) (blank 256) (0xA0A00000 ∷ [])
          ∷ za-after 7 (full 512) (full 32) (blank 256) (0xA0A00010 ∷ [])
          ∷ element-after 7 4 0 3 3 (full 512) (full 32) (blank 256) (0xA0A00010 ∷ [])
          ∷ [];
      answers = in_za0 (0x04 ∷ 0xFC ∷ 0xFF ∷ 0xFF ∷ []) ∷ (0xFFFFFC04 ∷ []) ∷ in_za0 (0xFC ∷ 0x03 ∷ 0 ∷ 0 ∷ []) ∷ (1020 ∷ []) ∷ [];
    }
    -- UMOPA; then with the second predicate empty, and with the first
    ∷ record {
      questions =
          element-after 7 4 0 3 3 (full 512) (full 32) (blank 256) (0xA1A00000 ∷ [])
          ∷ za-after 7 (full 512) full_p0 (full 256) (0xA1A02000 ∷ [])
          ∷ za-after 7 (full 512) full_p0 (full 256) (0xA1A00400 ∷ [])
          ∷ [];
      answers = (260100 ∷ []) ∷ full 256 ∷ full 256 ∷ [];
    }
    -- UMOPA whose total is 1 at (0, 0) and 0 elsewhere, on elements that are all FFFFFFFF
    ∷ record {
      questions = za-after 7 one_z (full 32) (full 256) (0xA1A00000 ∷ []) ∷ [];
      answers = (blank 4 ++ full 252) ∷ [];
    }
    -- the same on ZA0.S and on ZA0.D, in both orders
    ∷ record {
      questions =
          element-after 7 8 0 0 0 one_z (full 32) (full 4 ++ blank 252) (0xA1A00000 ∷ 0xA1E00000 ∷ [])
          ∷ element-after 7 8 0 0 0 one_z (full 32) (full 4 ++ blank 252) (0xA1E00000 ∷ 0xA1A00000 ∷ [])
          ∷ [];
      answers = (1 ∷ []) ∷ (0x0000000100000001 ∷ []) ∷ [];
    }
    ∷ []

-- ---- the 2-way forms, with flags 15

-- vectors of the same halfword throughout, given by its two bytes
abbrev pub halves : ℕ → ℕ → List ℕ
halves low high = let pair = low ∷ high ∷ [] in let two = pair ++ pair in let four = two ++ two in four ++ four

-- z0 has 0 to 7 in its halfwords, z1 ones
abbrev pub ramp_z : List ℕ
ramp_z = (0 ∷ 0 ∷ 1 ∷ 0 ∷ 2 ∷ 0 ∷ 3 ∷ 0 ∷ 4 ∷ 0 ∷ 5 ∷ 0 ∷ 6 ∷ 0 ∷ 7 ∷ 0 ∷ []) ++ halves 1 0 ++ blank 480

-- 1 in z0, 2 in z1, 3 in z16 and -5 in z17
abbrev pub pairs_z : List ℕ
pairs_z = halves 1 0 ++ halves 2 0 ++ blank 224 ++ halves 3 0 ++ halves 0xFB 0xFF ++ blank 224

abbrev pub two_way_examples : List Example
two_way_examples =
    -- SMOPA of z0 with itself, all -1; then with every even predicate bit alone, and with every odd one
    record {
      questions =
          za-after 15 (full 512) (full 32) (blank 256) (0xA0800008 ∷ [])
          ∷ za-after 15 (full 512) (replicate 32 0x55) (blank 256) (0xA0800008 ∷ [])
          ∷ za-after 15 (full 512) (replicate 32 0xAA) (full 256) (0xA0800008 ∷ [])
          ∷ [];
      answers = in_za0 (2 ∷ 0 ∷ 0 ∷ 0 ∷ []) ∷ in_za0 (2 ∷ 0 ∷ 0 ∷ 0 ∷ []) ∷ full 256 ∷ [];
    }
    -- UMOPA and UMOPS of them: twice 65,535 times itself, modulo 2^32
    ∷ record {
      questions =
          element-after 15 4 0 3 3 (full 512) (full 32) (blank 256) (0xA1800008 ∷ [])
          ∷ element-after 15 4 0 3 3 (full 512) (full 32) (blank 256) (0xA1800018 ∷ [])
          ∷ [];
      answers = (0xFFFC0002 ∷ []) ∷ (0x0003FFFE ∷ []) ∷ [];
    }
    -- SMOPA of a ramp and ones, (3, 1) of ZA1.S: 6 + 7; of ones and a ramp: 2 + 3
    ∷ record {
      questions =
          element-after 15 4 1 3 1 ramp_z (full 32) (blank 256) (0xA0810009 ∷ [])
          ∷ element-after 15 4 1 3 1 ramp_z (full 32) (blank 256) (0xA0800029 ∷ [])
          ∷ [];
      answers = (13 ∷ []) ∷ (5 ∷ []) ∷ [];
    }
    -- SMOP4S of the pairs { z0, z1 } and { z16, z17 }: the first by the column's half, the second by the row's
    ∷ record {
      questions =
          element-after 15 4 0 0 0 pairs_z (blank 32) (blank 256) (0x80108218 ∷ [])
          ∷ element-after 15 4 0 0 2 pairs_z (blank 32) (blank 256) (0x80108218 ∷ [])
          ∷ element-after 15 4 0 2 0 pairs_z (blank 32) (blank 256) (0x80108218 ∷ [])
          ∷ element-after 15 4 0 2 2 pairs_z (blank 32) (blank 256) (0x80108218 ∷ [])
          ∷ [];
      answers = (0xFFFFFFFA ∷ []) ∷ (0xFFFFFFF4 ∷ []) ∷ (10 ∷ []) ∷ (20 ∷ []) ∷ [];
    }
    ∷ []

-- every question has its answer
abbrev pub answered : List Example → List Example
answered [] = []
answered (e ∷ es) = record { questions = e.questions; answers = map answer_to e.questions } ∷ answered es
