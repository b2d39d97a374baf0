-- The end of a listing, by how many bytes are begun. Assumes nothing.
use Rattle.std.proofs.Common.{◌≡◌, ℕ, ◌+◌, ◌<◌, ◌≤◌, List, [], ◌∷◌, length, refl, arith, le-ltb, lt-ltb, ne_eqb}
use lib.Seq.{sets}
use Rattle.std.specs.Prelude.{Err, Ok}
use Rattle.isa.specs.declared.Refusal.TheVariants.{Room}
use Rattle.text.specs.Spelling.{Text}
use Rattle.disassembly.specs.Listing.{end_line}
use Rattle.disassembly.specs.Pieces.{pending, end_for, end_room, finish_of, room_finished}
use Rattle.disassembly.specs.declared.Place.{Place}
use Rattle.disassembly.proofs.Rooms.{at_front}
use Rattle.disassembly.proofs.Inputs.{begun_short}

-- `end`, a space, a digit and a line feed
abbrev end_text : ℕ → Text
end_text n = 101 ∷ 110 ∷ 100 ∷ 32 ∷ (48 + n) ∷ 10 ∷ []

end_text_lem : (n : ℕ) → (n ≡ 0 → ⊥) → n ≤ 3 → end_line n ≡ end_text n
unfolding end_line
end_text_lem n h l = rw (ne_eqb n 0 h, lt-ltb n 10 (omega arith))

module _ (p : Place) (room : List ℕ) where
  abbrev begun : ℕ
  begun = length (pending p.begun)

  pub no_end : begun ≡ 0 → (Ok 0 ≡ finish_of p (length room)) × (room ≡ room_finished p room)
  unfolding end_line finish_of room_finished
  no_end e = rw (e, le-ltb (length room) 0 (omega arith)) (refl, refl)

  module _ (h : begun ≡ 0 → ⊥) where
    end_is : end_for p ≡ end_text begun
    end_is = end_text_lem begun h (begun_short p.begun)

    pub end_refused : length room < end_room → (Err Room ≡ finish_of p (length room)) × (room ≡ room_finished p room)
    unfolding finish_of room_finished
    end_refused l = rw (end_is, lt-ltb (length room) end_room l) (refl, refl)

    pub end_put : end_room ≤ length room → (Ok end_room ≡ finish_of p (length room)) × (sets room 0 (end_text begun) ≡ room_finished p room)
    unfolding finish_of room_finished
    end_put l = rw (end_is, le-ltb (length room) end_room l) (refl, at_front room (end_text begun) l)
