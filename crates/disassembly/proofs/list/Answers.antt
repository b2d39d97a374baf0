-- `disassembly::list` meets its contract: the part that is taken has room, and is listed whole. Assumes nothing.
use Rattle.std.proofs.Common.{◌≡◌, ℕ, ◌+◌, ◌-◌, ◌*◌, ◌/◌, min, List, length, take, sym, ap, ◌∙◌, arith, length-take-le}
use native.Mathlib.Nat.{min-le_left}
use lib.Seq.{sets}
use Rattle.disassembly.specs.Pieces.{pending, joined, lines_for, longest_line, listed_all, most, taken_part, list_of, room_listed}
use Rattle.disassembly.specs.declared.Place.{Place}
use Rattle.disassembly.proofs.Rooms.{at_front}
use Rattle.disassembly.proofs.Theorems.{taken_fits, written_fits}
use Rattle.disassembly.proofs.list.Goals as goal

-- what is taken is the least of the piece and what has room
module _ (p : Place) (piece : List ℕ) (room n begun : ℕ) (e : begun ≡ length (pending p.begun))
    (l : n ≡ min (length piece) (4 * (room / longest_line) + 3 - begun)) where
  taken : n ≡ min (length piece) (most p room)
  taken = l ∙ ap (λ (k : ℕ). min (length piece) (4 * (room / longest_line) + 3 - k)) e

  -- what is made of the part that is taken
  part_taken : {X : Type 0} (f : List ℕ → X) → f (take n piece) ≡ f (taken_part p piece room)
  part_taken f = ap (λ (k : ℕ). f (take k piece)) taken

pub slice_bounds-list_all-end : goal.slice_bounds-list_all-end
slice_bounds-list_all-end c =
    let a = c.args in
    let h = min-le_left (length a.piece.now) (most a.place (length a.room.now)) in
    let t = taken a.place a.piece.now (length a.room.now) _ _ c.count.ensures.answer c.min-taken.ensures in
    sym (length-take-le c.min-taken.result a.piece.now (omega arith))

pub list_all-requires : goal.list_all-requires
list_all-requires c =
    let a = c.args in
    let t = part_taken a.place a.piece.now (length a.room.now) _ _ c.count.ensures.answer c.min-taken.ensures (λ s. length (joined a.place s)) in
    omega (arith, t, taken_fits a.place a.piece.now (length a.room.now))

pub returns : goal.returns
unfolding list_of room_listed
returns c =
    let a = c.args in
    let room = length a.room.now in
    let n = c.count.ensures.answer in
    let l = c.min-taken.ensures in
    let lines = lines_for a.place (taken_part a.place a.piece.now room) in
    record {
      answer = c.list_all.ensures.answer ∙ part_taken a.place a.piece.now room _ _ n l (listed_all a.place);
      room_after =
          c.list_all.ensures.room_after
          ∙ part_taken a.place a.piece.now room _ _ n l (λ s. sets a.room.now 0 (lines_for a.place s))
          ∙ at_front a.room.now lines (written_fits a.place a.piece.now room);
    }
