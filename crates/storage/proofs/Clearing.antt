-- The laws of clearing rows: a row of the mask is 0 whatever it held, every other byte stays. Assumes nothing.
use mathlib.Core.Path.{◌≡◌, ◌∙◌, refl, ap}
use mathlib.Core.Bool.{Bool, true, false, cond}
use mathlib.Core.List.{List}
use Prim.Native.Nat.{ℕ, ◌+◌, ◌/◌, ◌%◌, ◌^◌, ◌<◌}
use native.Mathlib.Decide.{dec_lt}
use native.Mathlib.Omega.{arith}
use lib.Dec.{eqb, lit<}
use lib.Arith.{digits_mod}
use lib.ListN.{length, get_or-eq_default}
use Rattle.storage.specs.Bytes.{at, word}
use Rattle.storage.specs.Tile.{start, element, masked, clear_at, clear}
use Rattle.storage.proofs.Bytes.{word_ext}
use Rattle.storage.proofs.Changes.{length-change, at-change}
use Rattle.storage.proofs.Tiles.{Sized}
use Rattle.storage.proofs.Laws.{Good, Inside, held, byte_row}

pub clear-length : (vb mask : ℕ) (za : List ℕ) → length (clear vb mask za) ≡ length za
unfolding clear
clear-length vb mask za = length-change (clear_at vb mask) za

clear-at : (vb mask : ℕ) (za : List ℕ) (p : ℕ) → p < length za → at (clear vb mask za) p ≡ cond (masked mask (p / vb)) 0 (at za p)
unfolding clear clear_at
clear-at vb mask za p h = at-change (clear_at vb mask) za p h

pub clear_in : (vb mask : ℕ) (za : List ℕ) (p : ℕ) → p < length za → masked mask (p / vb) ≡ true → at (clear vb mask za) p ≡ 0
clear_in vb mask za p h e = clear-at vb mask za p h ∙ rw e

pub clear_out : (vb mask : ℕ) (za : List ℕ) (p : ℕ) → p < length za → masked mask (p / vb) ≡ false → at (clear vb mask za) p ≡ at za p
clear_out vb mask za p h e = clear-at vb mask za p h ∙ rw e

pub clear_good : (vb n mask : ℕ) (za : List ℕ) → Good vb n za → Good vb n (clear vb mask za)
clear_good vb n mask za g =
    record {
      rows = record { positive = g.rows.positive; whole = clear-length vb mask za ∙ g.rows.whole };
      bytes = λ p. go p (dec_lt p (length za));
    }
  where
    either : (b : Bool) (x : ℕ) → x < 256 → cond b 0 x < 256
    either true x h = lit< tt
    either false x h = h

    go : (p : ℕ) → Dec (p < length za) → at (clear vb mask za) p < 256
    go p (yes h) = rw (clear-at vb mask za p h) (either (masked mask (p / vb)) (at za p) (g.bytes p))
    go p (no h) = rw (get_or-eq_default (clear vb mask za) 0 {n = p} (omega (arith, clear-length vb mask za))) (lit< tt)

-- bit t of a mask speaks of 64-bit tile t: its elements become 0, or stay where the bit is clear
module _ (vb n mask : ℕ) (s : Sized 8 vb) (t row col : ℕ) (za : List ℕ) (k : Good vb n za) (i : Inside 8 vb t n row col) where
  row_masked : (j : ℕ) → j < 8 → masked mask ((start 8 vb t row col + j) / vb) ≡ eqb (mask / 2 ^ t % 2) 1
  row_masked j l = ap (masked mask) (byte_row 8 vb n s t row col za k i j l) ∙ ap (λ r. eqb (mask / 2 ^ r % 2) 1) (digits_mod row i.tile)

  pub clear-element : element 8 vb t (clear vb mask za) row col ≡ cond (eqb (mask / 2 ^ t % 2) 1) 0 (element 8 vb t za row col)
  unfolding element word
  clear-element = go (eqb (mask / 2 ^ t % 2) 1) refl
    where
      at_row : (j : ℕ) → j < 8 → start 8 vb t row col + j < length za
      at_row = held 8 vb n s t row col za k i

      go : (b : Bool) → eqb (mask / 2 ^ t % 2) 1 ≡ b
          → word 8 (at (clear vb mask za)) (start 8 vb t row col) ≡ cond b 0 (word 8 (at za) (start 8 vb t row col))
      go true e = word_ext 8 (at (clear vb mask za)) (λ q. 0) _ 0 (λ j l. clear_in vb mask za _ (at_row j l) (row_masked j l ∙ e))
      go false e = word_ext 8 (at (clear vb mask za)) (at za) _ _ (λ j l. clear_out vb mask za _ (at_row j l) (row_masked j l ∙ e))
