-- Parts, each with its length first, are told apart: joined lists have one reading. Assumes nothing.
use mathlib.Core.Path.{◌≡◌, refl, sym, ap, ap₂, ◌∙◌}
use mathlib.Core.List.{List, [], ◌∷◌, ◌++◌}
use Prim.Native.Nat.{ℕ, suc, ◌+◌, ◌≤◌, ◌<◌}
use native.Mathlib.Omega.{arith}
use lib.ListN.{length, take, drop, length-append, length-drop, drop_of_length-le, take-append-drop}
use lib.Seq.{take-append_seam, drop-append_seam, take_at, drop_at, drop-drop}
use Rattle.capture.specs.Format.{part, joined, Short, Below}
use Rattle.capture.specs.Steps.{number4, bytes_at, PartAt, NoPart, NoParts, FiveParts}
use Rattle.capture.proofs.Numbers.{number4_of, drop-big4, number4_lt, length_bytes_at}

append_same : (a b x y : List ℕ) → length a ≡ length b → a ++ x ≡ b ++ y → (a ≡ b) × (x ≡ y)
append_same a b x y h e =
    (sym (take-append_seam a x) ∙ ap (take (length a)) e ∙ take_at b y (length a) (sym h), sym (drop-append_seam a x) ∙ ap (drop (length a)) e ∙ drop_at b y (length a) (sym h))

pub length_part : (t : List ℕ) → length (part t) ≡ 4 + length t
unfolding part
length_part t = omega arith

part-number : (s t rest : List ℕ) (i : ℕ) → length t < 4294967296 → drop i s ≡ part t ++ rest → number4 s i ≡ length t
unfolding part
part-number s t rest i h e = number4_of s i (length t) (t ++ rest) h e

pub part_same : (t u x y : List ℕ) → length t < 4294967296 → length u < 4294967296 → part t ++ x ≡ part u ++ y → (t ≡ u) × (x ≡ y)
unfolding part
part_same t u x y h k e =
    append_same t u x y (sym (number4_of (part t ++ x) 0 (length t) (t ++ x) h refl) ∙ number4_of (part t ++ x) 0 (length u) (u ++ y) k e) (ap (drop 4) e)

pub joined_same : (ts us : List (List ℕ)) → length ts ≡ length us → Short ts → Short us → joined ts ≡ joined us → ts ≡ us
unfolding joined
joined_same [] [] l s r e = refl
joined_same [] (u ∷ us) l s r e = absurd (omega arith)
joined_same (t ∷ ts) [] l s r e = absurd (omega arith)
joined_same (t ∷ ts) (u ∷ us) l s r e =
    let (a, b) = part_same t u (joined ts) (joined us) s.0 r.0 e in
    ap₂ ◌∷◌ a (joined_same ts us (omega arith) s.1 r.1 b)

-- ---- one part of a file
module _ (file : List ℕ) (i : ℕ) where
  part_room : (t rest : List ℕ) → drop i file ≡ part t ++ rest → 4 + length t ≤ length (drop i file)
  part_room t rest e = omega (arith, ap length e, length-append (part t) rest, length_part t)

  pub no_length : length file < i + 4 → i ≤ length file → NoPart file i
  no_length h l = record { never = λ t rest s e. omega (arith, part_room t rest e, length-drop i file) }

  pub no_bytes : i + 4 ≤ length file → length file < i + 4 + number4 file i → NoPart file i
  no_bytes l h = record { never = λ t rest s e. omega (arith, part_room t rest e, length-drop i file, part-number file t rest i s e) }

  pub whole_part : Below 256 file → i + 4 + number4 file i ≤ length file → PartAt file i (number4 file i)
  unfolding part
  whole_part b h =
      let n = number4 file i in
      let l : length (bytes_at file (i + 4) n) ≡ n = length_bytes_at file (i + 4) n h in
      let rest : bytes_at file (i + 4) n ++ drop (i + 4 + n) file ≡ drop (i + 4) file =
      ap (λ (r : List ℕ). bytes_at file (i + 4) n ++ r) (sym (drop-drop n (i + 4) file)) ∙ take-append-drop n (drop (i + 4) file) in
      record {
        within = h;
        short = number4_lt file i b;
        stands = drop-big4 file i (omega arith) b ∙ rw (l, rest);
      }

-- ---- all of them
module _ (file : List ℕ) where
  pub no_more : (i n : ℕ) → NoPart file i → NoParts file i (suc n)
  unfolding joined
  no_more i n q = record { never = go }
    where
      go : (ts : List (List ℕ)) → length ts ≡ suc n → Short ts → drop i file ≡ joined ts → ⊥
      go [] l s e = omega arith
      go (t ∷ ts) l s e = q.never t (joined ts) s.0 e

  pub then_none : (i k n : ℕ) → PartAt file i k → NoParts file (i + 4 + k) n → NoParts file i (suc n)
  unfolding joined
  then_none i k n q f = record { never = go }
    where
      go : (ts : List (List ℕ)) → length ts ≡ suc n → Short ts → drop i file ≡ joined ts → ⊥
      go [] l s e = omega arith
      go (t ∷ ts) l s e =
          let m = length_bytes_at file (i + 4) k q.within in
          let (a, b) = part_same (bytes_at file (i + 4) k) t (drop (i + 4 + k) file) (joined ts) (rw m q.short) s.0 (sym q.stands ∙ e) in
          f.never ts (omega arith) s.1 b

  pub left_over : (i : ℕ) → i ≤ length file → (i ≡ length file → ⊥) → NoParts file i 0
  unfolding joined
  left_over i h d = record { never = go }
    where
      go : (ts : List (List ℕ)) → length ts ≡ 0 → Short ts → drop i file ≡ joined ts → ⊥
      go [] l s e = d (omega (arith, ap length e, length-drop i file))
      go (t ∷ ts) l s e = absurd (omega arith)

  abbrev pub five : ℕ → ℕ → ℕ → ℕ → ℕ → List (List ℕ)
  five a b c d e =
      bytes_at file 5 a
      ∷ bytes_at file (5 + a + 4) b
      ∷ bytes_at file (5 + a + 4 + b + 4) c
      ∷ bytes_at file (5 + a + 4 + b + 4 + c + 4) d
      ∷ bytes_at file (5 + a + 4 + b + 4 + c + 4 + d + 4) e
      ∷ []

  pub five_joined : (a b c d e : ℕ) → FiveParts file a b c d e → drop 1 file ≡ joined (five a b c d e)
  unfolding joined
  five_joined a b c d e f =
      f.first.stands
      ∙ ap (λ (r : List ℕ). part (bytes_at file 5 a) ++ r)
      (f.second.stands
      ∙ ap (λ (r : List ℕ). part (bytes_at file (5 + a + 4) b) ++ r)
      (f.third.stands
      ∙ ap (λ (r : List ℕ). part (bytes_at file (5 + a + 4 + b + 4) c) ++ r)
      (f.fourth.stands
      ∙ ap (λ (r : List ℕ). part (bytes_at file (5 + a + 4 + b + 4 + c + 4) d) ++ r)
      (f.fifth.stands
      ∙ ap (λ (r : List ℕ). part (bytes_at file (5 + a + 4 + b + 4 + c + 4 + d + 4) e) ++ r)
      (drop_of_length-le file {i = 5 + a + 4 + b + 4 + c + 4 + d + 4 + e} (omega (arith, f.ends)))))))

  pub five_short : (a b c d e : ℕ) → FiveParts file a b c d e → Short (five a b c d e)
  five_short a b c d e f =
      (short 1 a f.first, (short (5 + a) b f.second, (short (5 + a + 4 + b) c f.third, (short (5 + a + 4 + b + 4 + c) d f.fourth, (short (5 + a + 4 + b + 4 + c + 4 + d) e f.fifth, tt)))))
    where
      short : (i n : ℕ) → PartAt file i n → length (bytes_at file (i + 4) n) < 4294967296
      short i n q = rw (length_bytes_at file (i + 4) n q.within) q.short
