-- A room with a text put into it: texts one behind the other, and a part that was lent to a call. Assumes nothing.
use Rattle.std.proofs.Common.{◌≡◌, ℕ, ◌+◌, ◌-◌, ◌≤◌, List, [], ◌++◌, length, take, drop, sym, ap, ◌∙◌, append_assoc, append-nil, arith, length-append, length-drop, take-append-drop, drop_of_length-le, take_all, drop-drop}
use borrow.Rule.Slice.PartMut.{put_mid}
use lib.Seq.{sets, length-sets, sets-eq}
use Rattle.storage.proofs.Bytes.{sets_append}
use Rattle.disassembly.specs.Put.{Put}

-- ---- texts one behind the other
module _ {before after : List ℕ} {at next : ℕ} where
  infixl 20 ◌then◌
  pub ◌then◌ : {mid : List ℕ} {k : ℕ} {s t : List ℕ} → Put before at mid k s → Put mid k after next t → Put before at after next (s ++ t)
  ◌then◌ {s = s} {t = t} p q =
      record {
        ends = omega (arith, p.ends, q.ends, length-append s t);
        text = q.text ∙ rw (p.text, p.ends) (sym (sets_append s t before at));
      }

  pub put_size : {t : List ℕ} → Put before at after next t → length after ≡ length before
  put_size {t} p = ap length p.text ∙ length-sets before at t

  pub put_as : {s t : List ℕ} → Put before at after next s → s ≡ t → Put before at after next t
  put_as p e = record { ends = rw (← e) p.ends; text = rw (← e) p.text }

-- what a call left at the start of the part that it was lent, said of the whole room
pub part-set : (room : List ℕ) (i : ℕ) (t : List ℕ) → i + length t ≤ length room → take i room ++ (t ++ drop (length t) (drop i room)) ≡ sets room i t
part-set room i t h =
    ap (λ (r : List ℕ). take i room ++ (t ++ r)) (drop-drop (length t) i room)
    ∙ sym (append_assoc (take i room) t (drop (i + length t) room))
    ∙ sym (sets-eq t room i h)

-- a text at the start
pub at_front : (room t : List ℕ) → length t ≤ length room → sets room 0 t ≡ t ++ drop (length t) room
at_front room t h = sym (part-set room 0 t (omega arith))

-- ---- a part from i to the end, lent to a call and given back
pub part_is : (room : List ℕ) (i : ℕ) → take (length room - i) (drop i room) ≡ drop i room
part_is room i = take_all (length room - i) (drop i room) (omega (arith, length-drop i room))

part_back : (room part : List ℕ) (i : ℕ) → put_mid i (length room - i) room part ≡ take i room ++ part
part_back room part i =
    let e : drop (length room - i) (drop i room) ≡ [] = drop_of_length-le (drop i room) {i = length room - i} (omega (arith, length-drop i room)) in
    ap (λ (r : List ℕ). take i room ++ (part ++ r)) e ∙ ap (λ (r : List ℕ). take i room ++ r) (append-nil part)

-- given back as it was
pub part_same : (room part : List ℕ) (i : ℕ) → part ≡ drop i room → put_mid i (length room - i) room part ≡ room
part_same room part i e = part_back room part i ∙ ap (λ (r : List ℕ). take i room ++ r) e ∙ take-append-drop i room

-- a text put at the start of the part is put at i of the room
pub put_back : (room part : List ℕ) (i : ℕ) (t : List ℕ) → i + length t ≤ length room → part ≡ t ++ drop (length t) (drop i room)
    → put_mid i (length room - i) room part ≡ sets room i t
put_back room part i t h e = part_back room part i ∙ ap (λ (r : List ℕ). take i room ++ r) e ∙ part-set room i t h
