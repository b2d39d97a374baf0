-- What 16 stands for: a file of bytes is no capture, and has no other version, exactly where it has a fault. Assumes nothing.
use mathlib.Core.Path.{◌≡◌, refl, sym, ap, ap₂, ◌∙◌}
use mathlib.Core.Bool.{Bool, true, false, true≢false}
use mathlib.Core.Logic.{◌⊎◌, inl, inr}
use mathlib.Core.List.{List, [], ◌∷◌}
use Prim.Native.Nat.{ℕ, ◌+◌, ◌*◌, ◌/◌, ◌%◌, ◌≤◌, ◌<◌}
use native.Mathlib.Omega.{arith}
use lib.Dec.{eqb, leb, ltb}
use lib.ListN.{length, drop}
use lib.Seq.{drop-cons, get_or-take, get_or-drop}
use borrow.Author.Tests.{leb-true, leb-false, ltb-true, ltb-false, eqb-true, eqb-false}
use Rattle.isa.specs.Table.{all_flags}
use Rattle.storage.specs.Sizes.{legal, z_size, p_size, za_size}
use Rattle.storage.specs.Bytes.{at}
use Rattle.machine.specs.Lists.{most_words}
use Rattle.machine.specs.Claims.{Passes}
use Rattle.capture.specs.Format.{version, Capture, head_of, parts_of, bytes_of_capture, Below, Holds, NoCapture, number2}
use Rattle.capture.specs.Outcomes.{OtherVersion}
use Rattle.capture.specs.Steps.{number4, bytes_at, PartAt, NoPart, NoParts, FiveParts, bench_at}
use Rattle.capture.specs.Faults.{Parted, Fault, Malformed}
use Rattle.capture.specs.Faults.Fault.{not_4_bytes, flags, modes_above_3, vector_length, no_multiple_of_4, too_many_words, z_length, p_length, za_length}
use Rattle.capture.specs.Faults.Malformed.{empty, missing_or_left-over, faulty}
use Rattle.capture.specs.Claims.{Faults}
use Rattle.capture.proofs.Numbers.{length_bytes_at, length_word_bytes}
use Rattle.capture.proofs.Partition.{no_length, no_bytes, whole_part, no_more, then_none, left_over, joined_same, five_joined, five_short}
use Rattle.capture.proofs.Recovery.{this_version}
use Rattle.capture.proofs.Captures.{nth, modes-most, vb_back, bounds, short_parts, found}

-- ---- a fault is no capture's
module _ (file head words z p za : List ℕ) (q : Parted file head words z p za) (k : Capture) (h : Holds file k) where
  same : head ∷ words ∷ z ∷ p ∷ za ∷ [] ≡ parts_of k
  unfolding bytes_of_capture
  same = joined_same (head ∷ words ∷ z ∷ p ∷ za ∷ []) (parts_of k) refl q.short (short_parts k h.lawful) (ap (drop 1) (sym q.bytes ∙ h.bytes))

  head_is : head ≡ head_of k.bench
  head_is = ap (λ ts. nth ts 0) same

  words_is : length words ≡ 4 * length k.words
  words_is = ap (λ ts. length (nth ts 1)) same ∙ length_word_bytes k.words

  vb_is : number2 head 2 ≡ k.bench.vb
  vb_is = rw head_is (vb_back k.bench.vb (bounds _ _ _ _ h.lawful.passes).vb_most)

  faultless : Fault head words z p za → ⊥
  faultless (not_4_bytes e) = e (ap length head_is)
  faultless (flags e) = omega (arith, ap (λ t. at t 0) head_is, h.lawful.passes.flags)
  faultless (modes_above_3 e) = omega (arith, ap (λ t. at t 1) head_is, modes-most k.bench.sm k.bench.za)
  faultless (vector_length e) = true≢false (sym h.lawful.passes.length_legal ∙ rw vb_is at e)
  faultless (no_multiple_of_4 e) = let w = words_is in e (omega arith)
  faultless (too_many_words e) = omega (arith, words_is, h.lawful.words_most)
  faultless (z_length e) = e (ap (λ ts. length (nth ts 2)) same ∙ h.lawful.passes.z_sized ∙ ap z_size (sym vb_is))
  faultless (p_length e) = e (ap (λ ts. length (nth ts 3)) same ∙ h.lawful.passes.p_sized ∙ ap p_size (sym vb_is))
  faultless (za_length e) = e (ap (λ ts. length (nth ts 4)) same ∙ h.lawful.passes.za_sized ∙ ap za_size (sym vb_is))

refused : (file : List ℕ) → Malformed file → (OtherVersion file → ⊥) × NoCapture file
unfolding bytes_of_capture
refused file (empty e) = (λ o. omega (arith, ap length (sym e ∙ o.is)), record { never = λ c h. omega (arith, ap length (sym e ∙ h.bytes)) })
refused file (missing_or_left-over v n) =
    (this_version file v, record { never = λ c h. n _ _ _ _ _ (record { bytes = h.bytes; short = short_parts c h.lawful }) })
refused file (faulty head words z p za q f) =
    (this_version file (ap (λ (l : List ℕ). at l 0) q.bytes), record { never = λ c h. faultless file head words z p za q c h f })

-- ---- a file of bytes has five parts, or not
module _ (file : List ℕ) (bytes : Below 256 file) where
  peel : (i : ℕ) → i ≤ length file → ((n : ℕ) × PartAt file i n) ⊎ NoPart file i
  peel i h = by_length (leb (i + 4) (length file)) refl
    where
      by_bytes : i + 4 ≤ length file → (t : Bool) → leb (i + 4 + number4 file i) (length file) ≡ t → ((n : ℕ) × PartAt file i n) ⊎ NoPart file i
      by_bytes l true e = inl (number4 file i, whole_part file i bytes (leb-true _ _ e))
      by_bytes l false e = inr (no_bytes file i l (leb-false _ _ e))

      by_length : (t : Bool) → leb (i + 4) (length file) ≡ t → ((n : ℕ) × PartAt file i n) ⊎ NoPart file i
      by_length true e = by_bytes (leb-true _ _ e) (leb (i + 4 + number4 file i) (length file)) refl
      by_length false e = inr (no_length file i (leb-false _ _ e) h)

  data Split : Type 0 where
    whole : (a b c d e : ℕ) → FiveParts file a b c d e → Split
    not_five : NoParts file 1 5 → Split

  split : 1 ≤ length file → Split
  split h = one (peel 1 h)
    where
      ends : (a b c d e : ℕ) → PartAt file 1 a → PartAt file (5 + a) b → PartAt file (5 + a + 4 + b) c → PartAt file (5 + a + 4 + b + 4 + c) d → PartAt file (5 + a + 4 + b + 4 + c + 4 + d) e
          → (t : Bool) → eqb (5 + a + 4 + b + 4 + c + 4 + d + 4 + e) (length file) ≡ t → Split
      ends a b c d e f g h i j true q = whole a b c d e (record { first = f; second = g; third = h; fourth = i; fifth = j; ends = sym (eqb-true _ _ q) })
      ends a b c d e f g h i j false q =
          not_five (then_none file _ _ _ f (then_none file _ _ _ g (then_none file _ _ _ h (then_none file _ _ _ i (then_none file _ _ _ j (left_over file _ j.within (eqb-false _ _ q)))))))

      five_parts : (a b c d : ℕ) → PartAt file 1 a → PartAt file (5 + a) b → PartAt file (5 + a + 4 + b) c → PartAt file (5 + a + 4 + b + 4 + c) d
          → ((n : ℕ) × PartAt file (5 + a + 4 + b + 4 + c + 4 + d) n) ⊎ NoPart file (5 + a + 4 + b + 4 + c + 4 + d) → Split
      five_parts a b c d f g h i (inl (e, j)) = ends a b c d e f g h i j (eqb (5 + a + 4 + b + 4 + c + 4 + d + 4 + e) (length file)) refl
      five_parts a b c d f g h i (inr q) = not_five (then_none file _ _ _ f (then_none file _ _ _ g (then_none file _ _ _ h (then_none file _ _ _ i (no_more file _ _ q)))))

      four : (a b c : ℕ) → PartAt file 1 a → PartAt file (5 + a) b → PartAt file (5 + a + 4 + b) c
          → ((n : ℕ) × PartAt file (5 + a + 4 + b + 4 + c) n) ⊎ NoPart file (5 + a + 4 + b + 4 + c) → Split
      four a b c f g h (inl (d, i)) = five_parts a b c d f g h i (peel _ i.within)
      four a b c f g h (inr q) = not_five (then_none file _ _ _ f (then_none file _ _ _ g (then_none file _ _ _ h (no_more file _ _ q))))

      three : (a b : ℕ) → PartAt file 1 a → PartAt file (5 + a) b → ((n : ℕ) × PartAt file (5 + a + 4 + b) n) ⊎ NoPart file (5 + a + 4 + b) → Split
      three a b f g (inl (c, h)) = four a b c f g h (peel _ h.within)
      three a b f g (inr q) = not_five (then_none file _ _ _ f (then_none file _ _ _ g (no_more file _ _ q)))

      two : (a : ℕ) → PartAt file 1 a → ((n : ℕ) × PartAt file (5 + a) n) ⊎ NoPart file (5 + a) → Split
      two a f (inl (b, g)) = three a b f g (peel _ g.within)
      two a f (inr q) = not_five (then_none file _ _ _ f (no_more file _ _ q))

      one : ((n : ℕ) × PartAt file 1 n) ⊎ NoPart file 1 → Split
      one (inl (a, f)) = two a f (peel _ f.within)
      one (inr q) = not_five (no_more file _ _ q)

  -- ---- five parts of a file that is no capture have a fault
  module _ (front : at file 0 ≡ version) (a b c d e : ℕ) (f : FiveParts file a b c d e) (n : NoCapture file) where
    abbrev head : List ℕ
    head = bytes_at file 5 a

    abbrev vb : ℕ
    vb = number2 file 7

    abbrev Faulty : Type 0
    Faulty = Fault head (bytes_at file (5 + a + 4) b) (bytes_at file (5 + a + 4 + b + 4) c) (bytes_at file (5 + a + 4 + b + 4 + c + 4) d) (bytes_at file (5 + a + 4 + b + 4 + c + 4 + d + 4) e)

    size : (i m : ℕ) → PartAt file i m → length (bytes_at file (i + 4) m) ≡ m
    size i m q = length_bytes_at file (i + 4) m q.within

    parted : Parted file head (bytes_at file (5 + a + 4) b) (bytes_at file (5 + a + 4 + b + 4) c) (bytes_at file (5 + a + 4 + b + 4 + c + 4) d) (bytes_at file (5 + a + 4 + b + 4 + c + 4 + d + 4) e)
    parted = record {
      bytes = drop-cons file 0 0 (omega (arith, f.first.within)) ∙ ap₂ ◌∷◌ front (five_joined file a b c d e f);
      short = five_short file a b c d e f;
    }

    module _ (four : a ≡ 4) where
      head_byte : (j : ℕ) → j < 4 → at head j ≡ at file (5 + j)
      head_byte j l = get_or-take a (drop 5 file) j 0 (omega arith) ∙ get_or-drop 5 file j 0

      vb_there : number2 head 2 ≡ vb
      vb_there = rw (head_byte 2 (omega arith), head_byte 3 (omega arith))

      -- by each test in turn
      by_words-most : b % 4 ≡ 0 → at file 6 ≤ 3 → Passes (bench_at file) c d e → (t : Bool) → ltb most_words (b / 4) ≡ t → Faulty
      by_words-most w m p true q = let l = ltb-true most_words (b / 4) q in too_many_words (rw (size _ b f.second) (omega arith))
      by_words-most w m p false q =
          let x : b ≡ 4 * (b / 4) = omega (arith, w) in
          absurd (n.never _ (found file a b c d e f (b / 4) bytes front four x m p (ltb-false _ _ q)).holds)

      by_za : b % 4 ≡ 0 → at file 6 ≤ 3 → at file 5 ≤ all_flags → legal vb ≡ true → c ≡ z_size vb → d ≡ p_size vb → (t : Bool) → eqb e (za_size vb) ≡ t → Faulty
      by_za w m g l z p true q = by_words-most w m (record { flags = g; length_legal = l; z_sized = z; p_sized = p; za_sized = eqb-true _ _ q }) (ltb most_words (b / 4)) refl
      by_za w m g l z p false q = za_length (λ k. eqb-false _ _ q (sym (size _ e f.fifth) ∙ k ∙ ap za_size vb_there))

      by_p : b % 4 ≡ 0 → at file 6 ≤ 3 → at file 5 ≤ all_flags → legal vb ≡ true → c ≡ z_size vb → (t : Bool) → eqb d (p_size vb) ≡ t → Faulty
      by_p w m g l z true q = by_za w m g l z (eqb-true _ _ q) (eqb e (za_size vb)) refl
      by_p w m g l z false q = p_length (λ k. eqb-false _ _ q (sym (size _ d f.fourth) ∙ k ∙ ap p_size vb_there))

      by_z : b % 4 ≡ 0 → at file 6 ≤ 3 → at file 5 ≤ all_flags → legal vb ≡ true → (t : Bool) → eqb c (z_size vb) ≡ t → Faulty
      by_z w m g l true q = by_p w m g l (eqb-true _ _ q) (eqb d (p_size vb)) refl
      by_z w m g l false q = z_length (λ k. eqb-false _ _ q (sym (size _ c f.third) ∙ k ∙ ap z_size vb_there))

      by_length : b % 4 ≡ 0 → at file 6 ≤ 3 → at file 5 ≤ all_flags → (t : Bool) → legal vb ≡ t → Faulty
      by_length w m g true q = by_z w m g q (eqb c (z_size vb)) refl
      by_length w m g false q = vector_length (ap legal vb_there ∙ q)

      by_flags : b % 4 ≡ 0 → at file 6 ≤ 3 → (t : Bool) → ltb all_flags (at file 5) ≡ t → Faulty
      by_flags w m true q = flags (rw (head_byte 0 (omega arith)) (ltb-true _ _ q))
      by_flags w m false q = by_length w m (ltb-false _ _ q) (legal vb) refl

      by_modes : b % 4 ≡ 0 → (t : Bool) → ltb 3 (at file 6) ≡ t → Faulty
      by_modes w true q = modes_above_3 (rw (head_byte 1 (omega arith)) (ltb-true _ _ q))
      by_modes w false q = by_flags w (ltb-false _ _ q) (ltb all_flags (at file 5)) refl

      by_words : (t : Bool) → eqb (b % 4) 0 ≡ t → Faulty
      by_words true q = by_modes (eqb-true _ _ q) (ltb 3 (at file 6)) refl
      by_words false q = no_multiple_of_4 (λ k. eqb-false _ _ q (ap (λ m. m % 4) (sym (size _ b f.second)) ∙ k))

    by_head : (t : Bool) → eqb a 4 ≡ t → Faulty
    by_head true q = by_words (eqb-true _ _ q) (eqb (b % 4) 0) refl
    by_head false q = not_4_bytes (λ k. eqb-false _ _ q (sym (size 1 a f.first) ∙ k))

  faulted : at file 0 ≡ version → NoCapture file → Split → Malformed file
  faulted v n (whole a b c d e f) = faulty _ _ _ _ _ (parted v a b c d e f n) (by_head v a b c d e f n (eqb a 4) refl)
  faulted v n (not_five q) = missing_or_left-over v (λ head words z p za h. q.never (head ∷ words ∷ z ∷ p ∷ za ∷ []) refl h.short (ap (drop 1) h.bytes))

pub faults : Faults
faults file bytes = (λ h. malformed file bytes h.0 h.1, refused file)
  where
    malformed : (file : List ℕ) → Below 256 file → (OtherVersion file → ⊥) → NoCapture file → Malformed file
    malformed [] bytes o n = empty refl
    malformed (x ∷ rest) bytes o n = by_version (eqb x version) refl
      where
        by_version : (t : Bool) → eqb x version ≡ t → Malformed (x ∷ rest)
        by_version true e = faulted (x ∷ rest) bytes (eqb-true _ _ e) n (split (x ∷ rest) bytes (omega arith))
        by_version false e = absurd (o (record { first = x; rest = rest; is = refl; other = eqb-false _ _ e }))
