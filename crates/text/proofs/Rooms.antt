-- What print answers and leaves, by what decode answers. Assumes nothing.
use mathlib.Core.Path.{◌≡◌, ◌∙◌, refl}
use mathlib.Core.Bool.{Bool, true, false, cond}
use mathlib.Core.List.{List, ◌++◌}
use mathlib.Core.Option.{none, some}
use Prim.Native.Nat.{ℕ, ◌≤◌, ◌<◌}
use lib.Dec.{ltb}
use borrow.Author.Tests.{lt-ltb, le-ltb}
use lib.ListN.{length, take, drop}
use Rattle.std.specs.Prelude.{Err, Ok}
use Rattle.isa.specs.Refusals.{first_failure}
use Rattle.isa.specs.Answers.{decode_of}
use Rattle.isa.specs.declared.Instruction.{Instruction}
use Rattle.isa.specs.declared.Refusal.{Refusal}
use Rattle.isa.specs.declared.Refusal.TheVariants.{Room}
use Rattle.isa.proofs.Answers.{decode_passed, room_refused, room_passed}
use Rattle.text.specs.Spelling.{spelling}
use Rattle.text.specs.Put.{printed_in, filled_with}
use Rattle.text.specs.Printing.{text_of, printed, filled, print_tests, print_of, room_after}

-- ---- the text fits the room, or does not
pub too_short : (i : Instruction) (room : List ℕ) → length room < length (spelling i) → (Err Room ≡ printed_in i (length room)) × (room ≡ filled_with i room)
too_short i room h = (rw (lt-ltb (length room) (length (spelling i)) h), rw (lt-ltb (length room) (length (spelling i)) h))

pub long_enough : (i : Instruction) (room line : List ℕ) (n : ℕ) → n ≡ length (spelling i) → take n line ≡ spelling i → n ≤ length room
    → (Ok n ≡ printed_in i (length room)) × (take n line ++ drop n room ≡ filled_with i room)
long_enough i room line n e t h =
    let l = le-ltb (length room) (length (spelling i)) (rw e at h) in
    (rw (l, e), rw (l, t, e))

-- ---- the tests before the room's
pub accepted_text : (flags w : ℕ) (i : Instruction) → decode_of flags w ≡ Ok i → text_of w ≡ spelling i
unfolding text_of
accepted_text flags w i p = rw (decode_passed flags w i p).1

accepted-tests : (flags w n : ℕ) (i : Instruction) → decode_of flags w ≡ Ok i
    → first_failure (print_tests flags w n) ≡ cond (ltb n (length (spelling i))) (some Room) none
accepted-tests flags w n i p = room_passed flags w n (length (text_of w)) i p ∙ rw (accepted_text flags w i p)

pub print_accepted : (flags w n : ℕ) (i : Instruction) → decode_of flags w ≡ Ok i → print_of flags w n ≡ printed_in i n
unfolding print_of
print_accepted flags w n i p = rw (accepted-tests flags w n i p, accepted_text flags w i p) (go (ltb n (length (spelling i))))
  where
    go : (b : Bool) → printed (cond b (some Room) none) (spelling i) ≡ cond b (Err Room) (Ok (length (spelling i)))
    go true = refl
    go false = refl

pub room-accepted : (flags w : ℕ) (room : List ℕ) (i : Instruction) → decode_of flags w ≡ Ok i → room_after flags w room ≡ filled_with i room
unfolding room_after
room-accepted flags w room i p = rw (accepted-tests flags w (length room) i p, accepted_text flags w i p) (go (ltb (length room) (length (spelling i))))
  where
    go : (b : Bool) → filled (cond b (some Room) none) (spelling i) room ≡ cond b room (spelling i ++ drop (length (spelling i)) room)
    go true = refl
    go false = refl

pub print_refused : (flags w n : ℕ) (r : Refusal) → decode_of flags w ≡ Err r → print_of flags w n ≡ Err r
unfolding print_of
print_refused flags w n r p = rw (room_refused flags w n (length (text_of w)) r p)

pub unfilled : (flags w : ℕ) (room : List ℕ) (r : Refusal) → decode_of flags w ≡ Err r → room_after flags w room ≡ room
unfolding room_after
unfilled flags w room r p = rw (room_refused flags w (length room) (length (text_of w)) r p)
