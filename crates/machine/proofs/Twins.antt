-- Add and subtract exchanged: a listed outer product's word with bit 4 flipped is the same instruction the other way, of the
-- same line. Assumes nothing.
use mathlib.Core.Path.{◌≡◌, refl, sym, ap, ◌∙◌}
use mathlib.Core.Bool.{Bool, true, false, false≢true, not, cond}
use mathlib.Core.List.{[], ◌∷◌, ◌++◌}
use mathlib.Core.Option.{Option, none, some}
use Prim.Native.Nat.{ℕ, ◌+◌, ◌*◌, ◌/◌, ◌%◌, ◌^◌, ◌<◌}
use native.Mathlib.Omega.{arith}
use lib.Dec.{eqb}
use borrow.Author.Tests.{eq-eqb, ne_eqb, eqb-true}
use Rattle.isa.specs.Row.{Name, S, same, fixed, field, Row, Fields, size, every, word_of}
use Rattle.isa.specs.Table.{bit, shape_of, entry_of, fields_from, in_range, word_for}
use Rattle.isa.specs.Answers.{describe, missing}
use Rattle.isa.specs.declared.Shape.{Shape}
use Rattle.isa.specs.declared.Shape.TheVariants.{Bytes32, Halves64, Halves32}
use Rattle.isa.specs.declared.Instruction.{Instruction}
use Rattle.isa.specs.declared.Instruction.TheVariants.{Predicated, Quarter, Zero}
use Rattle.isa.proofs.Tests.{All, every_all}
use Rattle.isa.proofs.Rows.{Fit, Within, fresh, soundness, Sound, over_split, agree_but, agree_word, word_lt, word-++}
use Rattle.isa.proofs.Lines.{bit_lt, Family, predicates, quarters, line, range_fit}
use Rattle.isa.proofs.Theorems.{described_is, describe-word, missing-word}
use Rattle.machine.specs.Instructions.{is_outer}
use Rattle.machine.specs.Exchange.{flip_s}
use Rattle.machine.specs.Demand3.{reversed}

-- two words that differ in bit 4 alone
flipped : (w v : ℕ) (s : Bool) → w + 16 * bit (not s) ≡ v + 16 * bit s → w / 16 % 2 ≡ bit s → flip_s w ≡ v
flipped w v true e h = rw (eq-eqb _ 1 h) (omega arith)
flipped w v false e h = rw (ne_eqb (w / 16 % 2) 1 (omega arith)) (omega arith)

-- the segments of a row above S, and below it
abbrev above_s : Row → Row
above_s [] = []
above_s (fixed k v ∷ r) = fixed k v ∷ above_s r
above_s (field n k ∷ r) = cond (same S n) [] (field n k ∷ above_s r)

abbrev below_s : Row → Row
below_s [] = []
below_s (fixed k v ∷ r) = below_s r
below_s (field n k ∷ r) = cond (same S n) r (below_s r)

-- S stands at bit 4, and nowhere else
record SAtBit4 (r : Row) : Type 0 where
  is : r ≡ above_s r ++ (field S 1 ∷ below_s r)
  lowest : size (below_s r) ≡ 4
  sound : Sound (below_s r)
  once_above : All (fresh S (above_s r))
  once_below : All (fresh S (below_s r))

at-bit_4 : (r : Row) → r ≡ above_s r ++ (field S 1 ∷ below_s r)
    → every (eqb (size (below_s r)) 4 ∷ every (soundness (below_s r)) ∷ every (fresh S (above_s r)) ∷ every (fresh S (below_s r)) ∷ []) ≡ true → SAtBit4 r
at-bit_4 r e h =
    let t = every_all (eqb (size (below_s r)) 4 ∷ every (soundness (below_s r)) ∷ every (fresh S (above_s r)) ∷ every (fresh S (below_s r)) ∷ []) h in
    record {
      is = e;
      lowest = eqb-true _ 4 t.0;
      sound = every_all (soundness (below_s r)) t.1.0;
      once_above = every_all (fresh S (above_s r)) t.1.1.0;
      once_below = every_all (fresh S (below_s r)) t.1.1.1.0;
    }

line_s : (k : Family) (s : Shape) → SAtBit4 (line k s).row
line_s predicates Bytes32 = at-bit_4 _ refl refl
line_s predicates Halves64 = at-bit_4 _ refl refl
line_s predicates Halves32 = at-bit_4 _ refl refl
line_s quarters Bytes32 = at-bit_4 _ refl refl
line_s quarters Halves64 = at-bit_4 _ refl refl
line_s quarters Halves32 = at-bit_4 _ refl refl

-- values that differ in S alone make words that differ in bit 4 alone
row_flipped : (r : Row) (f g : Fields) (s : Bool) → SAtBit4 r → Fit r f → ((n : Name) → same S n ≡ false → f n ≡ g n) → f S ≡ bit s → g S ≡ bit (not s)
    → flip_s (word_of r f) ≡ word_of r g
row_flipped r f g s a t h p q =
    let low = (over_split (Within f) (above_s r) (field S 1 ∷ below_s r) (rw a.is at t)).1.1 in
    let l = rw a.lowest at (word_lt (below_s r) f a.sound low) in
    let u = agree_word (above_s r) f g (agree_but S f g h (above_s r) a.once_above) in
    let v = agree_word (below_s r) f g (agree_but S f g h (below_s r) a.once_below) in
    let x = word-at f in
    let y = word-at g in
    flipped (word_of r f) (word_of r g) s (omega arith) (omega (arith, bit_lt s))
  where
    word-at : (e : Fields) → word_of r e ≡ word_of (above_s r) e * 32 + (e S * 16 + word_of (below_s r) e)
    word-at e =
        ap (λ (q : Row). word_of q e) a.is ∙ word-++ (above_s r) (field S 1 ∷ below_s r) e
        ∙ rw a.lowest

-- the word v is the same as w the other way, and needs the same features
pub record Twin (flags w v : ℕ) : Type 0 where
  pub is : describe v ≡ reversed (describe w)
  pub needs_same : missing flags v ≡ missing flags w

pub twin : (flags w : ℕ) → w < 2 ^ 32 → is_outer (describe w) ≡ true → Twin flags w (flip_s w)
twin flags w h o = go (describe w) refl o
  where
    by : (i j : Instruction) → describe w ≡ some i → some j ≡ reversed (some i) → in_range j ≡ in_range i → entry_of j ≡ entry_of i
        → (Fit (entry_of i).row (fields_from i) → flip_s (word_for i) ≡ word_for j) → Twin flags w (flip_s w)
    by i j d e r l f =
        let (k, u) = described_is w i h d in
        let q : flip_s w ≡ word_for j = ap flip_s (sym u) ∙ f (range_fit i k) in
        record {
          is = rw (q, d) (describe-word j (r ∙ k) ∙ e);
          needs_same = rw q (missing-word flags j (r ∙ k) ∙ rw l (sym (missing-word flags i k)) ∙ ap (missing flags) u);
        }

    go : (d : Option Instruction) → describe w ≡ d → is_outer d ≡ true → Twin flags w (flip_s w)
    go none d n = absurd (false≢true n)
    go (some (Predicated p)) d n =
        by _ _ d refl refl refl (λ t. row_flipped _ _ _ p.op.subtract (line_s predicates (shape_of p.op)) t (λ n e. rw e) refl refl)
    go (some (Quarter q)) d n =
        by _ _ d refl refl refl (λ t. row_flipped _ _ _ q.op.subtract (line_s quarters (shape_of q.op)) t (λ n e. rw e) refl refl)
    go (some (Zero m)) d n = absurd (false≢true n)
