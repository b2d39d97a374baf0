-- `picture::put_pixels` meets its contract: after i turns, i pixels stand in the room. Assumes nothing.
use Rattle.std.proofs.Common.{◌≡◌, length, take}
use lib.Seq.{sets}
use Rattle.picture.specs.Images.{pixels}
use Rattle.picture.proofs.put_pixels.Given as goal

abbrev pub invariant-loop-i : goal.invariant-loop-i
invariant-loop-i l = (length l.room ≡ length l.initial.room) × (l.room ≡ sets l.initial.room 15 (pixels 0 (take l.i l.za)))
