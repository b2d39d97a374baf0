-- What a print into the part of a room from `at` on leaves in the whole room, with every feature on. Assumes nothing.
use Rattle.std.proofs.Common.{◌≡◌, ℕ, ◌+◌, ◌-◌, ◌<◌, ◌≤◌, List, ◌++◌, length, take, drop, ◌∙◌, arith, length-drop}
use borrow.Rule.Slice.PartMut.{put_mid}
use Rattle.std.specs.Prelude.{Err, Ok}
use Rattle.isa.specs.Table.{all_flags}
use Rattle.isa.specs.Refusals.{number}
use Rattle.isa.specs.declared.Refusal.{Refusal}
use Rattle.text.specs.Ascii.{ascii}
use Rattle.text.specs.Spelling.{decimal}
use Rattle.text.specs.Printing.{print_of, room_after}
use Rattle.disassembly.specs.Listing.{said}
use Rattle.disassembly.specs.Put.{Put}
use Rattle.disassembly.proofs.Rooms.{put_as, part_is, part_same, put_back}
use Rattle.disassembly.proofs.Lines.{said_short, printed-said, not-printed}

module _ (w : ℕ) (room : List ℕ) (at : ℕ) (left : List ℕ) (fits : at + 47 ≤ length room) where
  abbrev part : List ℕ
  part = take (length room - at) (drop at room)

  large : 47 ≤ length part
  large = rw (part_is room at) (omega (arith, length-drop at room))

  pub printed_there : (n : ℕ) → print_of all_flags w (length part) ≡ Ok n → left ≡ room_after all_flags w part
      → Put room at (put_mid at (length room - at) room left) (at + n) (said w)
  printed_there n p e =
      let (l, t) = printed-said w part large n p in
      record {
        ends = rw l;
        text = put_back room left at (said w) (omega (arith, said_short w)) (e ∙ t ∙ rw (part_is room at));
      }

  pub printed-most : (n : ℕ) → print_of all_flags w (length part) ≡ Ok n → n ≤ 47
  printed-most n p = omega (arith, (printed-said w part large n p).0, said_short w)

  -- refused, print leaves the room as it was, and the refusal is the one that is said
  module _ (r : Refusal) (p : print_of all_flags w (length part) ≡ Err r) (e : left ≡ room_after all_flags w part) where
    pub refused_there : (put_mid at (length room - at) room left ≡ room) × (number r < 10)
    refused_there =
        let (u, same, s) = not-printed w part large r p in
        (part_same room left at (e ∙ same ∙ part_is room at), rw u (omega arith))

    pub refused_put : {after : List ℕ} {next : ℕ} → Put (put_mid at (length room - at) room left) at after next (ascii "-" ++ decimal (number r)) → Put room at after next (said w)
    refused_put q =
        let (u, same, s) = not-printed w part large r p in
        rw (← refused_there.0, s) (put_as q (rw u))
