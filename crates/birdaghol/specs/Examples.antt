-- Calls and their answers, as rows of one table: which argument is which, and what stands beside a refusal.
-- proofs/Examples.antt shows that each comes out so.
use Rattle.std.specs.Prelude.{Bool, true, false, List, [], ◌∷◌, ◌++◌, ℕ, ◌+◌, ◌*◌, replicate}
use Rattle.text.specs.Ascii.{ascii}
use Rattle.text.specs.Spelling.{Text}
use Rattle.machine.specs.Machine.{on}
use Rattle.birdaghol.specs.Calls.{decode_call, print_call, predicated_call, quarter_call, zero_call, bench_of, execute_call, run_call}
use Rattle.birdaghol.specs.Fields.{describe_call, fields_after}

pub record Example : Type 0 where
  pub call : ℕ
  pub gives : ℕ

-- buffers of zeros for vectors of 16 bytes; P of another length too
abbrev zeros : ℕ → List ℕ
zeros n = replicate n 0

abbrev executed : ℕ → Bool → Bool → ℕ → ℕ → ℕ
executed flags streaming za_on vb w = execute_call (on (bench_of flags streaming za_on vb) (zeros 512) (zeros 32) (zeros 256)) w

abbrev ran : Bool → Bool → ℕ → List ℕ → ℕ
ran streaming za_on p ws = run_call (on (bench_of 7 streaming za_on 16) (zeros 512) (zeros p) (zeros 256)) ws

abbrev pub examples : List Example
examples =
    record { call = decode_call 6 0xA1C0001F; gives = 0 }
    ∷ record { call = decode_call 4 0xA1C0001F; gives = 2 * 256 + 8 }
    ∷ record { call = decode_call 0 0xA1C0001F; gives = 6 * 256 + 8 }
    ∷ record { call = decode_call 7 0xA0800008; gives = 8 * 256 + 8 }
    ∷ record { call = decode_call 0 0x81000010; gives = 7 }
    ∷ record { call = decode_call 16 0xA1C0001F; gives = 1 }
    -- flags, word, places
    ∷ record { call = describe_call 8 0xA18595D9 11; gives = 0 }
    ∷ record { call = describe_call 8 0xA18595D9 10; gives = 12 }
    ∷ record { call = describe_call 7 0xA18595D9 10; gives = 8 * 256 + 8 }
    ∷ record { call = describe_call 16 0xA18595D9 10; gives = 1 }
    ∷ record { call = describe_call 15 0x81000010 11; gives = 7 }
    ∷ record { call = print_call 7 0x811E8352 64; gives = 47 * 65536 }
    ∷ record { call = print_call 7 0xC00800FF 10; gives = 12 }
    ∷ record { call = print_call 2 0x811E8352 10; gives = 4 * 256 + 8 }
    ∷ record { call = print_call 16 0xC00800FF 64; gives = 1 }
    -- element bytes, products, signs, subtract, tile, Pn, Pm, Zn, Zm
    ∷ record { call = predicated_call 4 4 false true true 3 2 5 3 17; gives = 0xA0B1A873 * 65536 }
    ∷ record { call = predicated_call 8 4 true false false 0 7 3 6 12; gives = 0xA1CC7CC0 * 65536 }
    ∷ record { call = predicated_call 4 4 false false false 4 0 0 0 0; gives = 11 }
    ∷ record { call = predicated_call 4 2 true true true 1 5 4 14 5; gives = 0xA18595D9 * 65536 }
    ∷ record { call = predicated_call 4 2 false true false 0 0 0 0 0; gives = 11 }
    ∷ record { call = predicated_call 8 2 false false false 0 0 0 0 0; gives = 11 }
    ∷ record { call = predicated_call 4 3 false false false 0 0 0 0 0; gives = 11 }
    ∷ record { call = predicated_call 2 4 false false false 0 0 0 0 0; gives = 11 }
    ∷ record { call = predicated_call 16 4 false false false 0 0 0 0 0; gives = 11 }
    -- element bytes, products, signs, subtract, tile, first source, pair, second source, pair
    ∷ record { call = quarter_call 4 4 true false true 2 10 true 30 true; gives = 0x811E8352 * 65536 }
    ∷ record { call = quarter_call 8 4 false true true 4 12 false 18 true; gives = 0xA0F2019C * 65536 }
    ∷ record { call = quarter_call 4 2 false false true 3 14 true 16 false; gives = 0x800083DB * 65536 }
    ∷ record { call = quarter_call 4 2 true false false 0 0 false 16 false; gives = 11 }
    ∷ record { call = quarter_call 4 4 false false false 0 1 false 16 false; gives = 11 }
    ∷ record { call = quarter_call 0 4 false false false 0 0 false 16 false; gives = 11 }
    ∷ record { call = zero_call 0x11; gives = 0xC0080011 * 65536 }
    -- flags, streaming mode, ZA, vector length; the words are SMOPA and ZERO
    ∷ record { call = executed 7 true true 16 0xA0800000; gives = 0 }
    ∷ record { call = executed 7 false true 16 0xA0800000; gives = 9 }
    ∷ record { call = executed 6 false false 16 0xA0800000; gives = 256 + 8 }
    ∷ record { call = executed 7 true false 16 0xA0800000; gives = 10 }
    ∷ record { call = executed 7 false true 16 0xC00800FF; gives = 0 }
    ∷ record { call = executed 7 true true 15 0xC00800FF; gives = 2 }
    ∷ record { call = executed 16 true true 7 0xC00800FF; gives = 1 }
    -- a run that ends, some that stop at their second word, and one that does not begin
    ∷ record { call = ran true true 32 (0xC00800FF ∷ 0xA0800000 ∷ []); gives = 2 * 65536 }
    ∷ record { call = ran true true 32 (0xC00800FF ∷ 0x81000010 ∷ 0xA0800000 ∷ []); gives = 65536 + 7 }
    ∷ record { call = ran true true 32 (0xC00800FF ∷ 0xA0800008 ∷ 0xA0800000 ∷ []); gives = 65536 + 8 * 256 + 8 }
    ∷ record { call = ran false true 32 (0xC00800FF ∷ 0xA0800000 ∷ []); gives = 65536 + 9 }
    ∷ record { call = ran true true 31 []; gives = 4 }
    -- runs on a tile that is not cleared, or half of it; 10 before 14; and its rows cleared, no others
    ∷ record { call = ran true true 32 (0xA0800000 ∷ 0xC00800FF ∷ []); gives = 14 }
    ∷ record { call = ran true true 32 (0xC00800FE ∷ 0xA0800000 ∷ []); gives = 65536 + 14 }
    ∷ record { call = ran true true 32 (0xC0080001 ∷ 0xA0800000 ∷ []); gives = 65536 + 14 }
    ∷ record { call = ran true false 32 (0xA0800000 ∷ []); gives = 10 }
    ∷ record { call = ran true true 32 (0xC0080011 ∷ 0xA0800000 ∷ []); gives = 2 * 65536 }
    ∷ []

-- ---- reads: flags, a line, and the answer
pub record Read : Type 0 where
  pub flags : ℕ
  pub line : Text
  pub gives : ℕ

abbrev pub reads : List Read
reads =
    record { flags = 7; line = ascii "usmop4s za2.s, { z10.b-z11.b }, { z30.b-z31.b }"; gives = 0x811E8352 * 65536 }
    ∷ record { flags = 8; line = ascii "umops za1.s, p5/m, p4/m, z14.h, z5.h"; gives = 0xA18595D9 * 65536 }
    ∷ record { flags = 1; line = ascii "zero { za0.h, za1.d }"; gives = 0xC0080057 * 65536 }
    ∷ record { flags = 7; line = ascii "umops za1.s, p5/m, p4/m, z14.h, z5.h"; gives = 8 * 256 + 8 }
    ∷ record { flags = 7; line = ascii "umops za1.s, p5/m, p4/m, z14.h, z05.h"; gives = 13 }
    ∷ record { flags = 16; line = []; gives = 1 }
    ∷ []

-- ---- words and the numbers that describe them, with every feature on; a twelfth place stays
pub record Description : Type 0 where
  pub word : ℕ
  pub numbers : List ℕ

abbrev pub descriptions : List Description
descriptions =
    -- sumops za3.s, p2/m, p5/m, z3.b, z17.b
    record { word = 0xA0B1A873; numbers = 1 ∷ 4 ∷ 4 ∷ 0 ∷ 1 ∷ 1 ∷ 3 ∷ 2 ∷ 5 ∷ 3 ∷ 17 ∷ [] }
    -- umops za1.s, p5/m, p4/m, z14.h, z5.h
    ∷ record { word = 0xA18595D9; numbers = 1 ∷ 4 ∷ 2 ∷ 1 ∷ 1 ∷ 1 ∷ 1 ∷ 5 ∷ 4 ∷ 14 ∷ 5 ∷ [] }
    -- usmopa za0.d, p7/m, p3/m, z6.h, z12.h
    ∷ record { word = 0xA1CC7CC0; numbers = 1 ∷ 8 ∷ 4 ∷ 1 ∷ 0 ∷ 0 ∷ 0 ∷ 7 ∷ 3 ∷ 6 ∷ 12 ∷ [] }
    -- sumop4s za4.d, z12.h, { z18.h-z19.h }
    ∷ record { word = 0xA0F2019C; numbers = 2 ∷ 8 ∷ 4 ∷ 0 ∷ 1 ∷ 1 ∷ 4 ∷ 12 ∷ 0 ∷ 18 ∷ 1 ∷ [] }
    -- smop4s za3.s, { z14.h-z15.h }, z16.h
    ∷ record { word = 0x800083DB; numbers = 2 ∷ 4 ∷ 2 ∷ 0 ∷ 0 ∷ 1 ∷ 3 ∷ 14 ∷ 1 ∷ 16 ∷ 0 ∷ [] }
    -- zero { za0.s }
    ∷ record { word = 0xC0080011; numbers = 3 ∷ 17 ∷ 0 ∷ 0 ∷ 0 ∷ 0 ∷ 0 ∷ 0 ∷ 0 ∷ 0 ∷ 0 ∷ [] }
    ∷ []

-- a description with what stands in twelve places in place of what should
abbrev pub described : Description → List ℕ
described d = fields_after 15 d.word (replicate 12 99)

abbrev pub expected : Description → List ℕ
expected d = d.numbers ++ (99 ∷ [])
