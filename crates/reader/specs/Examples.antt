-- Reads as rows of one table: lines of every family, the order of the tests, and near misses of each kind.
-- proofs/Examples.antt shows that each comes out so.
use Rattle.std.specs.Prelude.{List, [], ◌∷◌, ℕ, Result}
use Rattle.isa.specs.declared.Refusal.{Refusal}
use Rattle.isa.specs.Refusals.{missing_beside, number_in, value_in}
use Rattle.text.specs.Ascii.{ascii}
use Rattle.text.specs.Spelling.{Text}

-- with these flags: the number (0: read), the sum that it hands back, and the word
pub record Example : Type 0 where
  pub flags : ℕ
  pub line : Text
  pub number : ℕ
  pub missing : ℕ
  pub word : ℕ

abbrev pub examples : List Example
examples =
    record { flags = 7; line = ascii "sumops za0.s, p0/m, p0/m, z0.b, z0.b"; number = 0; missing = 0; word = 0xA0A00010 }
    ∷ record { flags = 7; line = ascii "sumops za3.s, p2/m, p5/m, z3.b, z17.b"; number = 0; missing = 0; word = 0xA0B1A873 }
    ∷ record { flags = 7; line = ascii "smopa za7.d, p1/m, p6/m, z9.h, z10.h"; number = 0; missing = 0; word = 0xA0CAC527 }
    ∷ record { flags = 8; line = ascii "umops za1.s, p5/m, p4/m, z14.h, z5.h"; number = 0; missing = 0; word = 0xA18595D9 }
    ∷ record { flags = 7; line = ascii "umops za3.s, p7/m, p7/m, z31.b, z31.b"; number = 0; missing = 0; word = 0xA1BFFFF3 }
    ∷ record { flags = 7; line = ascii "usmop4s za2.s, { z10.b-z11.b }, { z30.b-z31.b }"; number = 0; missing = 0; word = 0x811E8352 }
    ∷ record { flags = 7; line = ascii "smop4a za3.s, z14.b, { z16.b-z17.b }"; number = 0; missing = 0; word = 0x801081C3 }
    ∷ record { flags = 7; line = ascii "sumop4s za0.d, z0.h, z16.h"; number = 0; missing = 0; word = 0xA0E00018 }
    ∷ record { flags = 4; line = ascii "smop4s za3.s, { z14.h-z15.h }, z16.h"; number = 0; missing = 0; word = 0x800083DB }
    ∷ record { flags = 7; line = ascii "zero { za0.d, za5.d }"; number = 0; missing = 0; word = 0xC0080021 }
    ∷ record { flags = 7; line = ascii "zero { za0.s }"; number = 0; missing = 0; word = 0xC0080011 }
    ∷ record { flags = 7; line = ascii "zero { za0.h, za1.d }"; number = 0; missing = 0; word = 0xC0080057 }
    ∷ record { flags = 7; line = ascii "zero { za0.h, za1.s }"; number = 0; missing = 0; word = 0xC0080077 }
    ∷ record { flags = 7; line = ascii "zero {}"; number = 0; missing = 0; word = 0xC0080000 }
    ∷ record { flags = 1; line = ascii "zero { za }"; number = 0; missing = 0; word = 0xC00800FF }
    -- flags, a feature that is off, and the order of the tests
    ∷ record { flags = 16; line = ascii "zero {}"; number = 1; missing = 0; word = 0 }
    ∷ record { flags = 16; line = ascii "zero"; number = 1; missing = 0; word = 0 }
    ∷ record { flags = 7; line = ascii "umops za1.s, p5/m, p4/m, z14.h, z5.h"; number = 8; missing = 8; word = 0 }
    ∷ record { flags = 4; line = ascii "usmop4s za7.d, z0.h, z16.h"; number = 8; missing = 2; word = 0 }
    ∷ record { flags = 0; line = ascii "usmop4s za7.d, z0.h, z16.h"; number = 8; missing = 6; word = 0 }
    ∷ record { flags = 6; line = ascii "usmop4s za7.d, z0.h, z16.h"; number = 0; missing = 0; word = 0xA1C0001F }
    ∷ record { flags = 0; line = ascii "zero {}"; number = 8; missing = 1; word = 0 }
    ∷ record { flags = 0; line = ascii "zero { }"; number = 13; missing = 0; word = 0 }
    -- no second spelling
    ∷ record { flags = 15; line = []; number = 13; missing = 0; word = 0 }
    ∷ record { flags = 15; line = 0 ∷ 255 ∷ 128 ∷ 10 ∷ []; number = 13; missing = 0; word = 0 }
    ∷ record { flags = 15; line = ascii " zero {}"; number = 13; missing = 0; word = 0 }
    ∷ record { flags = 15; line = ascii "zero {} "; number = 13; missing = 0; word = 0 }
    ∷ record { flags = 15; line = ascii "zero  {}"; number = 13; missing = 0; word = 0 }
    ∷ record { flags = 15; line = ascii "zero {}\n"; number = 13; missing = 0; word = 0 }
    ∷ record { flags = 15; line = ascii "zero {}\r"; number = 13; missing = 0; word = 0 }
    ∷ record { flags = 15; line = ascii "zero {"; number = 13; missing = 0; word = 0 }
    ∷ record { flags = 15; line = ascii "ZERO {}"; number = 13; missing = 0; word = 0 }
    ∷ record { flags = 15; line = ascii "zero { ZA0.d }"; number = 13; missing = 0; word = 0 }
    ∷ record { flags = 15; line = ascii "zero { za0.d, za4.d }"; number = 13; missing = 0; word = 0 }
    ∷ record { flags = 15; line = ascii "zero { za0.d, za1.d, za2.d, za3.d, za4.d, za5.d, za6.d, za7.d }"; number = 13; missing = 0; word = 0 }
    ∷ record { flags = 15; line = ascii "zero { za0.h, za1.h }"; number = 13; missing = 0; word = 0 }
    ∷ record { flags = 15; line = ascii "zero { za1.d, za0.h }"; number = 13; missing = 0; word = 0 }
    ∷ record { flags = 15; line = ascii "zero { za0.h, za2.d }"; number = 13; missing = 0; word = 0 }
    ∷ record { flags = 15; line = ascii "zero { za5.d, za0.d }"; number = 13; missing = 0; word = 0 }
    ∷ record { flags = 15; line = ascii "zero { za0.d, za0.d }"; number = 13; missing = 0; word = 0 }
    ∷ record { flags = 15; line = ascii "zero { za8.d }"; number = 13; missing = 0; word = 0 }
    ∷ record { flags = 15; line = ascii "zero { za4.s }"; number = 13; missing = 0; word = 0 }
    ∷ record { flags = 15; line = ascii "zero { za0.b }"; number = 13; missing = 0; word = 0 }
    ∷ record { flags = 15; line = ascii "sumops za00.s, p0/m, p0/m, z0.b, z0.b"; number = 13; missing = 0; word = 0 }
    ∷ record { flags = 15; line = ascii "sumops za100.s, p0/m, p0/m, z0.b, z0.b"; number = 13; missing = 0; word = 0 }
    ∷ record { flags = 15; line = ascii "sumops za4.s, p0/m, p0/m, z0.b, z0.b"; number = 13; missing = 0; word = 0 }
    ∷ record { flags = 15; line = ascii "sumops za0.s, p8/m, p0/m, z0.b, z0.b"; number = 13; missing = 0; word = 0 }
    ∷ record { flags = 15; line = ascii "sumops za0.s, p0/m, p0/m, z0.b, z32.b"; number = 13; missing = 0; word = 0 }
    ∷ record { flags = 15; line = ascii "sumops za0.s, p0/z, p0/m, z0.b, z0.b"; number = 13; missing = 0; word = 0 }
    ∷ record { flags = 15; line = ascii "sumops za0.s, p0/m, p0/m, z0.h, z0.b"; number = 13; missing = 0; word = 0 }
    ∷ record { flags = 15; line = ascii "sumops za0.s, p0/m, p0/m, z0.h, z0.h"; number = 13; missing = 0; word = 0 }
    ∷ record { flags = 15; line = ascii "sumops za0.s,p0/m,p0/m,z0.b,z0.b"; number = 13; missing = 0; word = 0 }
    ∷ record { flags = 15; line = ascii "sumops za0.s, p0/m, p0/m, z0.b"; number = 13; missing = 0; word = 0 }
    ∷ record { flags = 15; line = ascii "usmop4s za0.s, z1.b, z16.b"; number = 13; missing = 0; word = 0 }
    ∷ record { flags = 15; line = ascii "usmop4s za0.s, z16.b, z0.b"; number = 13; missing = 0; word = 0 }
    ∷ record { flags = 15; line = ascii "usmop4s za2.s, { z10.b-z12.b }, { z30.b-z31.b }"; number = 13; missing = 0; word = 0 }
    ∷ record { flags = 15; line = ascii "usmop4s za2.s, { z10.b-z11.h }, { z30.b-z31.b }"; number = 13; missing = 0; word = 0 }
    ∷ record { flags = 15; line = ascii "usmop4s za2.s, {z10.b-z11.b}, { z30.b-z31.b }"; number = 13; missing = 0; word = 0 }
    ∷ record { flags = 15; line = ascii "usmop4s za2.s, { z10.b, z11.b }, { z30.b-z31.b }"; number = 13; missing = 0; word = 0 }
    ∷ []

-- an example with what a reader answers in place of what it should
abbrev pub outcome : (ℕ → Text → Result ℕ Refusal) → Example → Example
outcome f e =
    let answer = f e.flags e.line in
    record { flags = e.flags; line = e.line; number = number_in answer; missing = missing_beside answer; word = value_in answer }
