-- Listings as rows of one table: the request's own, the empty one, odd ends, and words of every family; and a place at which the
-- address wraps. proofs/Examples.antt shows that each comes out so.
use Rattle.std.specs.Prelude.{ℕ, List, [], ◌∷◌, ◌++◌, map}
use Rattle.text.specs.Ascii.{ascii}
use Rattle.text.specs.Spelling.{Text}
use Rattle.disassembly.specs.Listing.{line_feed, listing}
use Rattle.disassembly.specs.declared.Begun.TheVariants.{One, Two}
use Rattle.disassembly.specs.declared.Place.{Place}

-- each with its line feed
abbrev pub lines : List Text → Text
lines [] = []
lines (t ∷ ts) = t ++ line_feed ++ lines ts

pub record Example : Type 0 where
  pub bytes : List ℕ
  pub text : Text

abbrev pub examples : List Example
examples =
    record {
      bytes = 0x10 ∷ 0x00 ∷ 0xA0 ∷ 0xA0 ∷ 0x10 ∷ 0x00 ∷ 0x00 ∷ 0x81 ∷ 0x05 ∷ [];
      text = lines (ascii "00000000 a0a00010 sumops za0.s, p0/m, p0/m, z0.b, z0.b" ∷ ascii "00000004 81000010 -7" ∷ ascii "end 1" ∷ []);
    }
    ∷ record { bytes = []; text = [] }
    ∷ record { bytes = 0xFF ∷ []; text = lines (ascii "end 1" ∷ []) }
    ∷ record { bytes = 0x11 ∷ 0x00 ∷ []; text = lines (ascii "end 2" ∷ []) }
    ∷ record { bytes = 0x11 ∷ 0x00 ∷ 0x08 ∷ []; text = lines (ascii "end 3" ∷ []) }
    ∷ record { bytes = 0x11 ∷ 0x00 ∷ 0x08 ∷ 0xC0 ∷ []; text = lines (ascii "00000000 c0080011 zero { za0.s }" ∷ []) }
    ∷ record {
      bytes =
          0x37 ∷ 0xC5 ∷ 0xCA ∷ 0xA1 ∷ 0xCB ∷ 0x95 ∷ 0x9F ∷ 0xA1 ∷ 0x52 ∷ 0x83 ∷ 0x1E ∷ 0x81 ∷ 0x8C ∷ 0x01 ∷ 0xF2 ∷ 0xA0
          ∷ 0xD9 ∷ 0x83 ∷ 0x00 ∷ 0x80 ∷ 0xEF ∷ 0xBE ∷ 0xAD ∷ 0xDE ∷ 0x00 ∷ 0x00 ∷ 0xA0 ∷ 0xA0 ∷ [];
      text =
          lines
          (ascii "00000000 a1cac537 usmops za7.d, p1/m, p6/m, z9.h, z10.h"
          ∷ ascii "00000004 a19f95cb umopa za3.s, p5/m, p4/m, z14.h, z31.h"
          ∷ ascii "00000008 811e8352 usmop4s za2.s, { z10.b-z11.b }, { z30.b-z31.b }"
          ∷ ascii "0000000c a0f2018c sumop4a za4.d, z12.h, { z18.h-z19.h }"
          ∷ ascii "00000010 800083d9 smop4s za1.s, { z14.h-z15.h }, z16.h"
          ∷ ascii "00000014 deadbeef -7"
          ∷ ascii "00000018 a0a00000 sumopa za0.s, p0/m, p0/m, z0.b, z0.b"
          ∷ []);
    }
    ∷ []

abbrev pub texts : List Text
texts = map (λ e. e.text) examples

abbrev pub listings : List Text
listings = map (λ e. listing e.bytes) examples

-- two bytes of the last word below 2^32 have come; the piece completes it and the next
abbrev pub last_word : Place
last_word = record { address = 0xFFFFFFFC; begun = Two 0x10 0x00 }

abbrev pub piece : List ℕ
piece = 0xA0 ∷ 0xA0 ∷ 0x10 ∷ 0x00 ∷ 0x00 ∷ 0x81 ∷ 0x05 ∷ []

abbrev pub wrapped : Text
wrapped = lines (ascii "fffffffc a0a00010 sumops za0.s, p0/m, p0/m, z0.b, z0.b" ∷ ascii "00000000 81000010 -7" ∷ [])

-- and the last byte begins the second word of the next round
abbrev pub behind_wrap : Place
behind_wrap = record { address = 4; begun = One 0x05 }
