-- What documents 01 and 02 ask of a print: the claims of specs/Claims.antt hold for every flags, word, room and mask. Assumes nothing.
use mathlib.Core.Path.{◌≡◌, refl, subst}
use mathlib.Core.Bool.{Bool, true, false, not, cond}
use mathlib.Core.Logic.{◌↔◌}
use mathlib.Core.List.{List, [], ◌∷◌, ◌++◌}
use mathlib.Core.Option.{Option, none, some}
use Prim.Native.Nat.{ℕ, ◌+◌, ◌≤◌, ◌<◌}
use native.Mathlib.Omega.{arith}
use lib.Dec.{eqb, ltb}
use lib.ListN.{length, drop, length-append, length-drop}
use lib.Seq.{take-append_seam, drop-append_seam}
use borrow.Author.Tests.{ltb-true, ltb-false, lt-ltb}
use Rattle.std.specs.Prelude.{Err, Ok, Result}
use Rattle.isa.specs.Refusals.{number, refusal_number, first_failure, refusal_in, value_in}
use Rattle.isa.specs.Table.{all_flags, word_for}
use Rattle.isa.specs.Answers.{describe, missing, absent, room_tests, decode_of, decode_number}
use Rattle.isa.specs.Claims.{HandsBack}
use Rattle.isa.specs.declared.Instruction.{Instruction}
use Rattle.isa.specs.declared.Instruction.TheVariants.{Zero}
use Rattle.isa.specs.declared.Refusal.{Refusal}
use Rattle.isa.specs.declared.Refusal.TheVariants.{Flags, Unlisted, FeatureOff, Room}
use Rattle.isa.proofs.Answers.{decode_refused, room_refused, room_passed}
use Rattle.isa.proofs.Tests.{all_every}
use Rattle.isa.proofs.Sums.{handed, room_fair}
use Rattle.isa.proofs.Theorems.{describe-word, accepted_in_range}
use Rattle.names.proofs.Theorems.{one_list}
use Rattle.text.specs.Spelling.{Text, spelling}
use Rattle.text.specs.Printing.{text_of, print_tests, printed, print_of, filled, print_number, print_missing, print_length, room_after}
use Rattle.text.specs.Claims.{OfLength, Holds, Prints, ZeroLine}
use Rattle.text.proofs.Rooms.{accepted_text}
use Rattle.text.proofs.Lengths.{line-between}

-- decode refuses with 1, 7 or 8: with a number that a short room never gets
pub decode_number_lem : (flags w : ℕ) (r : Refusal) → decode_of flags w ≡ Err r → (0 < number r) × (number r < 12)
decode_number_lem flags w r p = go (ltb all_flags flags) (absent (describe w)) (not (eqb (missing flags w) 0)) (missing flags w) (decode_refused flags w r p)
  where
    at : {q : Refusal} → q ≡ r → (0 < number q) × (number q < 12) → (0 < number r) × (number r < 12)
    at e h = subst (λ (q : Refusal). (0 < number q) × (number q < 12)) e h

    go : (a b c : Bool) (sum : ℕ) → cond a (some Flags) (cond b (some Unlisted) (cond c (some (FeatureOff sum)) none)) ≡ some r → (0 < number r) × (number r < 12)
    go true b c sum q = let e : Flags ≡ r = cc in at e (omega arith, omega arith)
    go false true c sum q = let e : Unlisted ≡ r = cc in at e (omega arith, omega arith)
    go false false true sum q = let e : FeatureOff sum ≡ r = cc in at e (omega arith, omega arith)
    go false false false sum q = let z : ◌≡◌ {A = ℕ} 0 1 = cc in absurd (omega arith)

-- what comes of putting t, if a word has it, at the start of a room: by decode's number, the number given, how much was put,
-- and what the room then holds. Q is known of the t of an accepted word.
pub data Outcome (Q : Type 0) (t room : List ℕ) : ℕ → ℕ → ℕ → List ℕ → Type 0 where
  fits : length t ≤ length room → Q → Outcome Q t room 0 0 (length t) (t ++ drop (length t) room)
  short : length room < length t → Q → Outcome Q t room 0 12 0 room
  refused : {k : ℕ} → 0 < k → k < 12 → Outcome Q t room k k 0 room

module _ {Q : Type 0} {t room : List ℕ} where
  pub accepts : {d p n : ℕ} {after : List ℕ} → Outcome Q t room d p n after → (p ≡ 0) ↔ (d ≡ 0) × (length t ≤ length room)
  accepts (fits h l) = (λ e. (refl, h), λ c. refl)
  accepts (short h l) = (λ e. absurd (omega arith), λ c. absurd (omega arith))
  accepts (refused h l) = (λ e. absurd (omega arith), λ c. absurd (omega arith))

  -- a number of decode's is given, and has come from decode alone
  pub same : {d p n : ℕ} {after : List ℕ} (k : ℕ) → 0 < k → k < 12 → Outcome Q t room d p n after → (p ≡ k) ↔ (d ≡ k)
  same k a b (fits h l) = (λ e. e, λ e. e)
  same k a b (short h l) = (λ e. absurd (omega arith), λ e. absurd (omega arith))
  same k a b (refused h l) = (λ e. e, λ e. e)

  pub gives_12 : {d p n : ℕ} {after : List ℕ} → Outcome Q t room d p n after → (p ≡ 12) ↔ (d ≡ 0) × (length room < length t)
  gives_12 (fits h l) = (λ e. absurd (omega arith), λ c. absurd (omega arith))
  gives_12 (short h l) = (λ e. (refl, h), λ c. refl)
  gives_12 (refused h l) = (λ e. absurd (omega arith), λ c. absurd (omega arith))

  pub known : {d p n : ℕ} {after : List ℕ} → Outcome Q t room d p n after → d ≡ 0 → Q
  known (fits h l) e = l
  known (short h l) e = l
  known (refused h l) e = absurd (omega arith)

  pub unchanged : {d p n : ℕ} {after : List ℕ} → Outcome Q t room d p n after → (p ≡ 0 → ⊥) → (after ≡ room) × (n ≡ 0)
  unchanged (fits h l) z = absurd (z refl)
  unchanged (short h l) z = (refl, refl)
  unchanged (refused h l) z = (refl, refl)

holds : {t room : List ℕ} {d p n : ℕ} {after : List ℕ} → Outcome (OfLength 1 47 t) t room d p n after → p ≡ 0 → Holds t n room after
holds {t} {room} (fits h l) e =
    record {
      whole = refl;
      least = l.low;
      most = l.high;
      text = take-append_seam t (drop (length t) room);
      rest = drop-append_seam t (drop (length t) room);
      size = simp (length-append, length-drop) (omega arith);
    }
holds (short h l) e = absurd (omega arith)
holds (refused h l) e = absurd (omega arith)

-- how much is put
abbrev pub put_length : Option Refusal → List ℕ → ℕ
put_length none t = length t
put_length (some r) t = 0

-- every call that puts t has one of these outcomes
module _ (Q : Type 0) (flags w : ℕ) (t room : List ℕ) (about : (i : Instruction) → decode_of flags w ≡ Ok i → Q) where
  abbrev failure : Option Refusal
  failure = first_failure (room_tests flags w (length room) (length t))

  pub put_outcome : Outcome Q t room (decode_number flags w) (refusal_number failure) (put_length failure t) (filled failure t room)
  put_outcome = by_answer (decode_of flags w) refl
    where
      by_room : (b : Bool) → ltb (length room) (length t) ≡ b → Q
          → (let o = cond b (some Room) none in Outcome Q t room 0 (refusal_number o) (put_length o t) (filled o t room))
      by_room true q k = short (ltb-true (length room) (length t) q) k
      by_room false q k = fits (ltb-false (length room) (length t) q) k

      by_answer : (a : Result Instruction Refusal) → decode_of flags w ≡ a
          → Outcome Q t room (decode_number flags w) (refusal_number failure) (put_length failure t) (filled failure t room)
      by_answer (Err r) e =
          let (h, l) = decode_number_lem flags w r e in
          rw (room_refused flags w (length room) (length t) r e, e) (refused h l)
      by_answer (Ok i) e = rw (room_passed flags w (length room) (length t) i e, e) (by_room (ltb (length room) (length t)) refl (about i e))

-- a print's refusal and length, by its failure
printed_refusal_lem : (o : Option Refusal) (t : Text) → refusal_in (printed o t) ≡ o
printed_refusal_lem none t = refl
printed_refusal_lem (some r) t = refl

printed_length_lem : (o : Option Refusal) (t : Text) → value_in (printed o t) ≡ put_length o t
printed_length_lem none t = refl
printed_length_lem (some r) t = refl

outcome : (flags w : ℕ) (room : List ℕ)
    → (let n = length room in
    Outcome (OfLength 1 47 (text_of w)) (text_of w) room (decode_number flags w) (print_number flags w n) (print_length flags w n) (room_after flags w room))
unfolding print_of room_after
outcome flags w room =
    rw (printed_refusal_lem (first_failure (print_tests flags w (length room))) (text_of w), printed_length_lem (first_failure (print_tests flags w (length room))) (text_of w))
    (put_outcome (OfLength 1 47 (text_of w)) flags w (text_of w) room (λ i e. rw (accepted_text flags w i e) (line-between i (accepted_in_range flags w i e))))

hands_back : (flags w n : ℕ) → HandsBack flags w (print_number flags w n) (print_missing flags w n)
unfolding print_of
hands_back flags w n =
    rw (printed_refusal_lem (first_failure (print_tests flags w n)) (text_of w)) (handed flags w (print_tests flags w n) (room_fair flags w n (length (text_of w))))

-- what print answers, and what it leaves in the room
pub prints : (flags w : ℕ) (room : List ℕ) → Prints flags w room
prints flags w room =
    let o = outcome flags w room in
    record {
      accepts = accepts o;
      gives_1 = same 1 (omega arith) (omega arith) o;
      gives_7 = same 7 (omega arith) (omega arith) o;
      gives_8 = same 8 (omega arith) (omega arith) o;
      hands_back = hands_back flags w (length room);
      gives_12 = gives_12 o;
      refused = unchanged o;
      printed = holds o;
    }

-- the line of each ZERO
pub zero-lines : (mask : ℕ) → mask < 256 → ZeroLine mask
unfolding text_of spelling
zero-lines mask h ks s =
    let e : word_for (Zero mask) ≡ 0xC0080000 + mask = omega arith in
    let d = describe-word (Zero mask) (all_every (ltb mask 256 ∷ []) (lt-ltb mask 256 h, tt)) in
    rw (← e, d, (one_list mask h).only ks s)
