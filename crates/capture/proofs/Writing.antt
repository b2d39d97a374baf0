-- What write leaves: parts put one behind the other are the file, and the tests decide. Assumes nothing.
use mathlib.Core.Path.{◌≡◌, refl, sym, ap, ◌∙◌}
use mathlib.Core.Bool.{Bool, true, false}
use mathlib.Core.List.{List, [], ◌∷◌, ◌++◌, append-nil}
use mathlib.Core.Option.{none, some}
use Prim.Native.Nat.{ℕ, ◌+◌, ◌*◌, ◌/◌, ◌%◌, ◌≤◌, ◌<◌}
use native.Mathlib.Nat.{zero-add}
use native.Mathlib.Omega.{arith}
use lib.Dec.{ltb}
use lib.ListN.{length}
use lib.Seq.{sets, sets-eq}
use borrow.Author.Tests.{lt-ltb, le-ltb}
use Rattle.std.specs.Prelude.{Err, Ok, Result}
use Rattle.isa.specs.Refusals.{first_failure, number_in, value_in}
use Rattle.isa.specs.declared.Refusal.{Refusal}
use Rattle.isa.specs.declared.Refusal.TheVariants.{Room}
use Rattle.isa.proofs.Refusals.{failed_before, passed_before}
use Rattle.storage.proofs.Bytes.{sets_append}
use Rattle.machine.specs.declared.Bench.{Bench}
use Rattle.capture.specs.Format.{version, Capture, big4, modes, head_of, word_bytes, part, joined, bytes_of_capture}
use Rattle.capture.specs.Outcomes.{capture_tests, room_test, write_tests, over, write_of, room_written}
use Rattle.capture.proofs.Numbers.{length_word_bytes}
use Rattle.capture.proofs.Partition.{length_part}
use Rattle.capture.proofs.Captures.{length_capture}

-- ---- one behind the other
behind : (xs ys l : List ℕ) (i j : ℕ) → j ≡ i + length xs → sets (sets l i xs) j ys ≡ sets l i (xs ++ ys)
behind xs ys l i j e = rw e (sym (sets_append xs ys l i))

put_length : (t room : List ℕ) (i : ℕ) → sets (sets room i (big4 (length t))) (i + 4) t ≡ sets room i (part t)
unfolding part
put_length t room i = behind (big4 (length t)) t room i (i + 4) refl

put_all : (c : Capture) (room : List ℕ)
    → sets
    (sets
    (sets (sets (sets room 0 (version ∷ part (head_of c.bench))) 9 (part (word_bytes c.words))) (13 + 4 * length c.words) (part c.z))
    (13 + 4 * length c.words + 4 + length c.z)
    (part c.p))
    (13 + 4 * length c.words + 4 + length c.z + 4 + length c.p)
    (part c.za)
    ≡ sets room 0 (bytes_of_capture c)
unfolding bytes_of_capture joined
put_all c room = go (head_of c.bench) (word_bytes c.words) c.z c.p c.za (length c.words) refl (length_word_bytes c.words)
  where
    go : (h w z p a : List ℕ) (n : ℕ) → length h ≡ 4 → length w ≡ 4 * n
        → sets (sets (sets (sets (sets room 0 (version ∷ part h)) 9 (part w)) (13 + 4 * n) (part z)) (13 + 4 * n + 4 + length z) (part p)) (13 + 4 * n + 4 + length z + 4 + length p) (part a)
        ≡ sets room 0 (version ∷ joined (h ∷ w ∷ z ∷ p ∷ a ∷ []))
    go h w z p a n eh ew =
        let l1 = length_part h in
        let l2 = length_part w in
        let l3 = length_part z in
        let l4 = length_part p in
        let r1 : List ℕ = sets room 0 (version ∷ part h) in
        let r2 : List ℕ = sets r1 9 (part w) in
        let r3 : List ℕ = sets r2 (13 + 4 * n) (part z) in
        let i2 : 13 + 4 * n ≡ 9 + length (part w) = omega arith in
        let i3 : 13 + 4 * n + 4 + length z ≡ 13 + 4 * n + length (part z) = omega arith in
        let i4 : 13 + 4 * n + 4 + length z + 4 + length p ≡ 13 + 4 * n + 4 + length z + length (part p) = omega arith in
        let i1 : 9 ≡ 0 + length (version ∷ part h) = omega arith in
        behind (part p) (part a) r3 (13 + 4 * n + 4 + length z) _ i4
        ∙ behind (part z) (part p ++ part a) r2 (13 + 4 * n) _ i3
        ∙ behind (part w) (part z ++ (part p ++ part a)) r1 9 _ i2
        ∙ behind (version ∷ part h) (part w ++ (part z ++ (part p ++ part a))) room 0 9 i1
        ∙ ap (λ (l : List ℕ). sets room 0 (version ∷ (part h ++ (part w ++ (part z ++ (part p ++ l)))))) (sym (append-nil (part a)))

-- ---- the same, by what each function leaves
pub head_put : (room : List ℕ) (b : Bench) (m : ℕ) → m ≡ modes b.sm b.za
    → sets room 0 (1 ∷ 0 ∷ 0 ∷ 0 ∷ 4 ∷ b.flags ∷ m ∷ b.vb / 256 % 256 ∷ b.vb % 256 ∷ []) ≡ sets room 0 (version ∷ part (head_of b))
unfolding part
head_put room b m e = rw e

pub part_put : (room next last t : List ℕ) (i n : ℕ) → n ≡ length t → next ≡ sets room i (big4 n) → last ≡ sets next (i + 4) t → last ≡ sets room i (part t)
part_put room next last t i n l e f = f ∙ rw (e, l) (put_length t room i)

pub all_put : (c : Capture) (room r1 r2 r3 r4 r5 : List ℕ)
    → r1 ≡ sets room 0 (version ∷ part (head_of c.bench))
    → r2 ≡ sets r1 9 (part (word_bytes c.words))
    → r3 ≡ sets r2 (13 + 4 * length c.words) (part c.z)
    → r4 ≡ sets r3 (13 + 4 * length c.words + 4 + length c.z) (part c.p)
    → r5 ≡ sets r4 (13 + 4 * length c.words + 4 + length c.z + 4 + length c.p) (part c.za)
    → r5 ≡ sets room 0 (bytes_of_capture c)
all_put c room r1 r2 r3 r4 r5 e1 e2 e3 e4 e5 = e5 ∙ rw (e4, e3, e2, e1) (put_all c room)

pub put_over : (t room : List ℕ) → length t ≤ length room → sets room 0 t ≡ over t room
put_over t room h = sets-eq t room 0 (omega arith) ∙ rw (zero-add (length t))

-- ---- an answer and its numbers
pub numbered : {a w : Result ℕ Refusal} {A : Type 0} → (a ≡ w) × A
    → record { answer : a ≡ w; room_after : A; number : number_in a ≡ number_in w; len : value_in a ≡ value_in w }
numbered h = record { answer = h.0; room_after = h.1; number = ap number_in h.0; len = ap value_in h.0 }

-- ---- the tests decide
module _ (c : Capture) (room : List ℕ) where
  pub write_refused : (r : Refusal) → first_failure (capture_tests c) ≡ some r → (Err r ≡ write_of c (length room)) × (room ≡ room_written c room)
  unfolding write_of room_written
  write_refused r h =
      let e : first_failure (write_tests c (length room)) ≡ some r = failed_before (capture_tests c) (room_test c (length room) ∷ []) r h in
      (rw e, rw e)

  tested : (b : Bool) → first_failure (capture_tests c) ≡ none → ltb (length room) (length (bytes_of_capture c)) ≡ b → first_failure (write_tests c (length room)) ≡ first_failure (record { fails = b; gives = Room } ∷ [])
  tested b h e = passed_before (capture_tests c) (room_test c (length room) ∷ []) h ∙ rw e

  pub write_short : first_failure (capture_tests c) ≡ none → length room < 25 + 4 * length c.words + length c.z + length c.p + length c.za
      → (Err Room ≡ write_of c (length room)) × (room ≡ room_written c room)
  unfolding write_of room_written
  write_short h s =
      let e = tested true h (lt-ltb (length room) (length (bytes_of_capture c)) (rw (length_capture c) s)) in
      (rw e, rw e)

  pub write_done : (n : ℕ) → first_failure (capture_tests c) ≡ none → n ≡ 25 + 4 * length c.words + length c.z + length c.p + length c.za → n ≤ length room
      → (Ok n ≡ write_of c (length room)) × (sets room 0 (bytes_of_capture c) ≡ room_written c room)
  unfolding write_of room_written
  write_done n h m s =
      let l : length (bytes_of_capture c) ≡ n = length_capture c ∙ sym m in
      let q : length (bytes_of_capture c) ≤ length room = omega arith in
      let e = tested false h (le-ltb _ _ q) in
      (rw (e, l), rw e (sets-eq (bytes_of_capture c) room 0 (omega arith) ∙ rw (zero-add (length (bytes_of_capture c)))))
