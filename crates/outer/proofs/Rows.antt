-- Clearing a row, and the rows of a mask row by row. Assumes nothing.
use Rattle.std.proofs.Common.{◌≡◌, ℕ, ◌+◌, ◌-◌, ◌*◌, ◌/◌, ◌%◌, ◌<◌, ◌≤◌, Bool, true, cond, ◌&&◌, eqb, ltb, List, length, replicate, drop, length-drop, ◌⊎◌, inl, inr, sym, refl, ap, ◌∙◌, mod-lt, div-lt_iff_lt-mul, div-add-mod', arith, ext_get_or, lt-ltb, eq-eqb, ne_eqb}
use native.Mathlib.Decide.{ℕ_discrete, dec_lt}
use lib.Arith.{digits_div}
use lib.Seq.{sets, length-sets}
use Rattle.std.proofs.lemmas.List.{length-take, length-replicate, get_or-replicate}
use borrow.Rule.Slice.PartMut.{mid_of, put_mid}
use Rattle.storage.specs.Bytes.{at}
use Rattle.storage.proofs.Bytes.{at-sets_in, at-sets_out, part_put}
use Rattle.storage.specs.Tile.{masked, clear_at, clear}
use Rattle.storage.proofs.Changes.{at-change, length-change}
use Rattle.outer.specs.Rows.{Cleared}

-- ---- one row

-- row r, if it is one of the mask's
abbrev pub only : ℕ → ℕ → ℕ → Bool
only mask row r = eqb r row && masked mask r

-- zeros are put there
pub row_cleared : (vb mask row k : ℕ) (before zeros : List ℕ) → 0 < vb → masked mask row ≡ true → k ≡ vb
    → zeros ≡ replicate (length (mid_of (row * vb) k before)) 0 → row * vb + vb ≤ length before → Cleared vb (only mask row) before (put_mid (row * vb) k before zeros)
row_cleared vb mask row k before zeros h e s y b =
    let m : length (mid_of (row * vb) k before) ≡ vb = rw (s, length-take vb (drop (row * vb) before), length-drop (row * vb) before) (omega arith) in
    let z : zeros ≡ replicate vb 0 = rw m at y in
    let n : length zeros ≡ vb = rw z (length-replicate vb 0) in
    let q : put_mid (row * vb) k before zeros ≡ sets before (row * vb) zeros = part_put (row * vb) k before zeros (s ∙ sym n) (omega arith) in
    rw q (record { long = length-sets before (row * vb) zeros; bytes = λ p. go z n p (ℕ_discrete (p / vb) row) })
  where
    go : zeros ≡ replicate vb 0 → length zeros ≡ vb → (p : ℕ) → Dec (p / vb ≡ row) → at (sets before (row * vb) zeros) p ≡ cond (only mask row (p / vb)) 0 (at before p)
    go z n p (yes q) =
        let l = mod-lt p h in
        let m : row * vb + p % vb ≡ p = rw (sym q) (div-add-mod' p vb) in
        rw (q, eq-eqb row row refl, e)
        (ap (at (sets before (row * vb) zeros)) (sym m)
        ∙ at-sets_in zeros before (row * vb) (p % vb) (omega arith) (omega arith)
        ∙ rw z (get_or-replicate vb (p % vb) 0 0 l))
    go z n p (no d) = rw (ne_eqb (p / vb) row d) (at-sets_out zeros before (row * vb) p (beside (dec_lt p (row * vb)) (dec_lt p (row * vb + vb))))
      where
        beside : Dec (p < row * vb) → Dec (p < row * vb + vb) → (p < row * vb) ⊎ (row * vb + length zeros ≤ p)
        beside (yes l) u = inl l
        beside (no l) (no u) = inr (omega arith)
        beside (no l) (yes u) =
            let m : row * vb + (p - row * vb) ≡ p = omega arith in
            let i : p - row * vb < vb = omega arith in
            absurd (d (ap (λ (q : ℕ). q / vb) (sym m) ∙ digits_div row i))

-- ---- the rows of a mask, row by row
abbrev pub below : ℕ → ℕ → ℕ → Bool
below mask row r = ltb r row && masked mask r

pub rows_all : (vb mask : ℕ) (before za : List ℕ) → 0 < vb → length before ≡ vb * vb → Cleared vb (below mask vb) before za
    → za ≡ clear vb mask before
unfolding clear clear_at
rows_all vb mask before za h e c =
    ext_get_or 0 za (clear vb mask before) (c.long ∙ sym (length-change (clear_at vb mask) before))
    (λ p l.
    let k : p < length before = rw c.long at l in
    let r : p / vb < vb = (div-lt_iff_lt-mul h).1 (rw e at k) in
    c.bytes p ∙ rw (lt-ltb (p / vb) vb r) (sym (at-change (clear_at vb mask) before p k)))
