-- Prints as rows of one table: names of every size and shape, rooms, and the order of the refusals.
-- proofs/Examples.antt shows that each comes out so. The paper's own examples are rows of crates/bench/specs/Examples.antt.
use Rattle.std.specs.Prelude.{List, [], ◌∷◌, map, ℕ, take, replicate}
use Rattle.text.specs.Ascii.{ascii}
use Rattle.text.specs.Spelling.{Text}
use Rattle.text.specs.Printing.{print_number, print_missing, print_length, room_after}

-- with these flags, into a room of so many bytes: the number (0: printed), the sum that it hands back, how many bytes were
-- printed, and these
pub record Example : Type 0 where
  pub flags : ℕ
  pub word : ℕ
  pub room : ℕ
  pub number : ℕ
  pub missing : ℕ
  pub bytes : ℕ
  pub text : Text

abbrev pub examples : List Example
examples =
    record { flags = 7; word = 0xA0CAC527; room = 64; number = 0; missing = 0; bytes = 36; text = ascii "smopa za7.d, p1/m, p6/m, z9.h, z10.h" }
    ∷ record { flags = 7; word = 0xA1A01FF1; room = 64; number = 0; missing = 0; bytes = 36; text = ascii "umops za1.s, p7/m, p0/m, z31.b, z0.b" }
    ∷ record { flags = 7; word = 0x801081C3; room = 64; number = 0; missing = 0; bytes = 36; text = ascii "smop4a za3.s, z14.b, { z16.b-z17.b }" }
    ∷ record { flags = 7; word = 0xA1EE021D; room = 64; number = 0; missing = 0; bytes = 34; text = ascii "umop4s za5.d, { z0.h-z1.h }, z30.h" }
    ∷ record { flags = 15; word = 0xA0800008; room = 64; number = 0; missing = 0; bytes = 35; text = ascii "smopa za0.s, p0/m, p0/m, z0.h, z0.h" }
    ∷ record { flags = 15; word = 0xA1800018; room = 64; number = 0; missing = 0; bytes = 35; text = ascii "umops za0.s, p0/m, p0/m, z0.h, z0.h" }
    ∷ record { flags = 15; word = 0x80008008; room = 64; number = 0; missing = 0; bytes = 25; text = ascii "smop4a za0.s, z0.h, z16.h" }
    ∷ record { flags = 15; word = 0x81008018; room = 64; number = 0; missing = 0; bytes = 25; text = ascii "umop4s za0.s, z0.h, z16.h" }
    ∷ record { flags = 15; word = 0x80168358; room = 64; number = 0; missing = 0; bytes = 46; text = ascii "smop4s za0.s, { z10.h-z11.h }, { z22.h-z23.h }" }
    ∷ record { flags = 7; word = 0xC0080000; room = 64; number = 0; missing = 0; bytes = 7; text = ascii "zero {}" }
    ∷ record { flags = 7; word = 0xC0080011; room = 64; number = 0; missing = 0; bytes = 14; text = ascii "zero { za0.s }" }
    ∷ record { flags = 7; word = 0xC0080055; room = 64; number = 0; missing = 0; bytes = 14; text = ascii "zero { za0.h }" }
    ∷ record { flags = 7; word = 0xC0080057; room = 64; number = 0; missing = 0; bytes = 21; text = ascii "zero { za0.h, za1.d }" }
    ∷ record { flags = 7; word = 0xC0080077; room = 64; number = 0; missing = 0; bytes = 21; text = ascii "zero { za0.h, za1.s }" }
    ∷ record { flags = 7; word = 0xC0080088; room = 64; number = 0; missing = 0; bytes = 14; text = ascii "zero { za3.s }" }
    ∷ record { flags = 7; word = 0xC0080078; room = 64; number = 0; missing = 0; bytes = 35; text = ascii "zero { za3.d, za4.d, za5.d, za6.d }" }
    ∷ record { flags = 7; word = 0xC00800FE; room = 64; number = 0; missing = 0; bytes = 28; text = ascii "zero { za1.h, za2.s, za4.d }" }
    ∷ record { flags = 7; word = 0xC00800FF; room = 11; number = 0; missing = 0; bytes = 11; text = ascii "zero { za }" }
    ∷ record { flags = 7; word = 0xC00800FF; room = 10; number = 12; missing = 0; bytes = 0; text = [] }
    ∷ record { flags = 7; word = 0x811E8352; room = 47; number = 0; missing = 0; bytes = 47; text = ascii "usmop4s za2.s, { z10.b-z11.b }, { z30.b-z31.b }" }
    ∷ record { flags = 7; word = 0x811E8352; room = 46; number = 12; missing = 0; bytes = 0; text = [] }
    ∷ record { flags = 7; word = 0xC0080000; room = 0; number = 12; missing = 0; bytes = 0; text = [] }
    ∷ record { flags = 7; word = 0x81000010; room = 0; number = 7; missing = 0; bytes = 0; text = [] }
    ∷ record { flags = 4; word = 0xA1C0001F; room = 0; number = 8; missing = 2; bytes = 0; text = [] }
    ∷ record { flags = 0; word = 0xA1C0001F; room = 64; number = 8; missing = 6; bytes = 0; text = [] }
    ∷ record { flags = 6; word = 0xA1C0001F; room = 0; number = 12; missing = 0; bytes = 0; text = [] }
    ∷ record { flags = 16; word = 0xC00800FF; room = 0; number = 1; missing = 0; bytes = 0; text = [] }
    ∷ record { flags = 16; word = 0x81000010; room = 64; number = 1; missing = 0; bytes = 0; text = [] }
    ∷ []

-- what print does with an example's word; the room holds zeros before
abbrev pub outcome : Example → Example
outcome e =
    let printed = print_length e.flags e.word e.room in
    record {
      flags = e.flags;
      word = e.word;
      room = e.room;
      number = print_number e.flags e.word e.room;
      missing = print_missing e.flags e.word e.room;
      bytes = printed;
      text = take printed (room_after e.flags e.word (replicate e.room 0));
    }

abbrev pub outcomes : List Example
outcomes = map outcome examples
