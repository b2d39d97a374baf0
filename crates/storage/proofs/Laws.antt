-- The laws of adding to a tile, on ZA, the list of its bytes. Assumes nothing.
use mathlib.Core.Path.{◌≡◌, sym, ap, ap₂, ◌∙◌, fun_ext}
use mathlib.Core.Logic.{◌⊎◌, inl, inr}
use mathlib.Core.Bool.{false}
use mathlib.Core.List.{List}
use Prim.Native.Nat.{ℕ, ◌+◌, ◌*◌, ◌/◌, ◌%◌, ◌^◌, ◌<◌}
use native.Mathlib.Nat.{add_assoc, mul-div_cancel}
use native.Mathlib.Omega.{arith}
use lib.Arith.{digits_div, digits_mod, digits_lt}
use lib.ListN.{length, get_or-eq_default}
use lib.IntN.{ℤ, +ℤ_invr, +ℤ_comm}
use lib.Dec.{lit<}
use native.Mathlib.Decide.{dec_lt}
use borrow.Author.Tests.{eqb-false}
use Rattle.storage.specs.Bytes.{at, word}
use Rattle.storage.specs.Modulo.{plus}
use Rattle.storage.specs.Tile.{start, element, in_tile, add_at, add_to}
use Rattle.storage.proofs.Bytes.{word_ext, word_lt, word_append}
use Rattle.storage.proofs.Changes.{Disjoint, Rows, length-change, at-change, change_ext, change-same, change-change, change_comm, in_row}
use Rattle.storage.proofs.Tiles.{Sized, ◌⊕◌, nil, negated, add_local, add_only, add_add, add_nil, add_bytes, word_in, row_of}

pub record Good (vb n : ℕ) (za : List ℕ) : Type 0 where
  pub rows : Rows vb n za
  pub bytes : (p : ℕ) → at za p < 256

pub add_to-length : (E vb t : ℕ) (f : ℕ → ℕ → ℤ) (za : List ℕ) → length (add_to E vb t f za) ≡ length za
unfolding add_to
add_to-length E vb t f za = length-change (add_at E vb t f) za

pub add_to-at : (E vb t : ℕ) (f : ℕ → ℕ → ℤ) (za : List ℕ) (p : ℕ) → p < length za → at (add_to E vb t f za) p ≡ add_at E vb t f (at za) p
unfolding add_to
add_to-at E vb t f za p h = at-change (add_at E vb t f) za p h

module _ (E vb n : ℕ) (s : Sized E vb) (t : ℕ) where
  pub add_to_good : (f : ℕ → ℕ → ℤ) (za : List ℕ) → Good vb n za → Good vb n (add_to E vb t f za)
  add_to_good f za g = record {
    rows = record { positive = g.rows.positive; whole = add_to-length E vb t f za ∙ g.rows.whole };
    bytes = λ p. go p (dec_lt p (length za));
  }
    where
      go : (p : ℕ) → Dec (p < length za) → at (add_to E vb t f za) p < 256
      go p (yes h) = rw (add_to-at E vb t f za p h) (add_bytes E vb s t f (at za) g.bytes p)
      go p (no h) = rw (get_or-eq_default (add_to E vb t f za) 0 {n = p} (omega (arith, add_to-length E vb t f za))) (lit< tt)

  -- adding f and then g is adding their sum
  pub add_to-add_to : (f g : ℕ → ℕ → ℤ) (za : List ℕ) → Good vb n za → add_to E vb t g (add_to E vb t f za) ≡ add_to E vb t (f ⊕ g) za
  unfolding add_to
  add_to-add_to f g za k =
      change-change vb n (add_at E vb t g) (add_at E vb t f) za k.rows (add_local E vb s t g)
      ∙ change_ext (λ m. add_at E vb t g (add_at E vb t f m)) (add_at E vb t (f ⊕ g)) za (λ p h. add_add E vb s t f g (at za) p)

  pub add_to_nil : (za : List ℕ) → Good vb n za → add_to E vb t nil za ≡ za
  unfolding add_to
  add_to_nil za k = change-same (add_at E vb t nil) za (λ p h. add_nil E vb s t (at za) k.bytes p)

  -- what was added is taken away
  pub add_to_back : (f : ℕ → ℕ → ℤ) (za : List ℕ) → Good vb n za → add_to E vb t (negated f) (add_to E vb t f za) ≡ za
  add_to_back f za k =
      add_to-add_to f (negated f) za k
      ∙ ap (λ (h : ℕ → ℕ → ℤ). add_to E vb t h za) (fun_ext (λ r. fun_ext (λ c. +ℤ_invr (f r c))))
      ∙ add_to_nil za k

  -- two additions to one tile commute
  pub add_to_swap : (f g : ℕ → ℕ → ℤ) (za : List ℕ) → Good vb n za → add_to E vb t f (add_to E vb t g za) ≡ add_to E vb t g (add_to E vb t f za)
  add_to_swap f g za k =
      add_to-add_to g f za k
      ∙ ap (λ (h : ℕ → ℕ → ℤ). add_to E vb t h za) (fun_ext (λ r. fun_ext (λ c. +ℤ_comm (g r c) (f r c))))
      ∙ sym (add_to-add_to f g za k)

-- and so do additions to two tiles with no row in common
pub add_to_comm : (E F vb n t u : ℕ) (f g : ℕ → ℕ → ℤ) (za : List ℕ) → Sized E vb → Sized F vb → Disjoint (in_tile E t) (in_tile F u) → Good vb n za
    → add_to E vb t f (add_to F vb u g za) ≡ add_to F vb u g (add_to E vb t f za)
unfolding add_to
add_to_comm E F vb n t u f g za s r d k =
    change_comm vb n (add_at E vb t f) (add_at F vb u g) (in_tile E t) (in_tile F u)
    (add_local E vb s t f) (add_local F vb r u g) (add_only E vb s t f) (add_only F vb r u g) d za k.rows

module _ (E vb n : ℕ) (s : Sized E vb) (t : ℕ) (f : ℕ → ℕ → ℤ) where
  -- bytes of other rows stay
  pub add_to_out : (za : List ℕ) (p : ℕ) → p < length za → in_tile E t (p / vb) ≡ false → at (add_to E vb t f za) p ≡ at za p
  add_to_out za p h e = add_to-at E vb t f za p h ∙ (add_only E vb s t f).only (at za) p e

  -- what is left in a row depends on what that row held alone
  pub add_to_row : (za zb : List ℕ) (r : ℕ) → Rows vb n za → length za ≡ length zb
      → ((p : ℕ) → p < length za → p / vb ≡ r → at za p ≡ at zb p)
      → (p : ℕ) → p < length za → p / vb ≡ r → at (add_to E vb t f za) p ≡ at (add_to E vb t f zb) p
  add_to_row za zb r w e h p l i =
      add_to-at E vb t f za p l
      ∙ (add_local E vb s t f).local (at za) (at zb) p (λ q j. h q (in_row vb n za w p q j l) (j ∙ i))
      ∙ sym (add_to-at E vb t f zb p (rw e at l))

pub element_lt : (E vb t row col : ℕ) (za : List ℕ) → ((p : ℕ) → at za p < 256) → element E vb t za row col < 256 ^ E
unfolding element
element_lt E vb t row col za b = word_lt E (start E vb t row col) (at za) b

-- an element of 64-bit tile u is two neighbours of the 32-bit tile that has its row, the low half first
pub element-halves : (vb u row col : ℕ) (za : List ℕ)
    → element 8 vb u za row col
    ≡ element 4 vb (u % 4) za (2 * row + u / 4) (2 * col) + 256 ^ 4 * element 4 vb (u % 4) za (2 * row + u / 4) (2 * col + 1)
unfolding element start
element-halves vb u row col za =
    let r : (2 * row + u / 4) * 4 + u % 4 ≡ row * 8 + u = omega arith in
    let low : (row * 8 + u) * vb + col * 8 ≡ (row * 8 + u) * vb + 2 * col * 4 = omega arith in
    let high : (row * 8 + u) * vb + col * 8 + 4 ≡ (row * 8 + u) * vb + (2 * col + 1) * 4 = omega arith in
    rw r (word_append 4 4 (at za) ((row * 8 + u) * vb + col * 8) ∙ ap₂ (λ (p q : ℕ). word 4 (at za) p + 256 ^ 4 * word 4 (at za) q) low high)

-- its number among all elements of ZA, cols to a row
unfoldable pub num : ℕ → ℕ → ℕ → ℕ → ℕ → ℕ
num E cols t row col = (row * E + t) * cols + col

-- (row, col) is an element of tile t, in a ZA of so many rows
pub record Inside (E vb t rows row col : ℕ) : Type 0 where
  pub tile : t < E
  pub right : col < vb / E
  pub below : row * E + t < rows

module _ (E vb n : ℕ) (s : Sized E vb) (t row col : ℕ) (za : List ℕ) (k : Good vb n za) (i : Inside E vb t n row col) where
  pub cols_is : vb / E ≡ s.cols
  cols_is = ap (λ (x : ℕ). x / E) s.whole ∙ mul-div_cancel s.cols s.positive

  pub col_lt : col < s.cols
  col_lt = rw cols_is at i.right

  pub number : start E vb t row col ≡ num E s.cols t row col * E
  unfolding start num
  number = rw s.whole (omega arith)

  -- its bytes are bytes of ZA
  pub held : (j : ℕ) → j < E → start E vb t row col + j < length za
  unfolding start
  held j l =
      let r : col * E + j < vb = rw s.whole (digits_lt col_lt l) in
      rw (k.rows.whole, add_assoc) (digits_lt i.below r)

  pub zrow : num E s.cols t row col / s.cols ≡ row * E + t
  unfolding num
  zrow = digits_div (row * E + t) col_lt

  pub num_col : num E s.cols t row col % s.cols ≡ col
  unfolding num
  num_col = digits_mod (row * E + t) col_lt

  -- each of its bytes stands in row row * E + t of ZA
  pub byte_row : (j : ℕ) → j < E → (start E vb t row col + j) / vb ≡ row * E + t
  byte_row j l = ap (λ (x : ℕ). (x + j) / vb) number ∙ row_of E vb s (num E s.cols t row col) j l ∙ zrow

  -- an element becomes what it was plus what f gives it
  pub element_add : (f : ℕ → ℕ → ℤ) → element E vb t (add_to E vb t f za) row col ≡ plus E (element E vb t za row col) (f row col)
  unfolding element
  element_add f =
      word_ext E (at (add_to E vb t f za)) (add_at E vb t f (at za)) (start E vb t row col) (num E s.cols t row col * E)
      (λ j l. add_to-at E vb t f za (start E vb t row col + j) (held j l) ∙ ap (λ (x : ℕ). add_at E vb t f (at za) (x + j)) number)
      ∙ word_in E vb s t f (at za) (num E s.cols t row col) (ap (λ (x : ℕ). x % E) zrow ∙ digits_mod row i.tile)
      ∙ rw (zrow, digits_div row i.tile, ← number) (ap (λ (x : ℕ). plus E (word E (at za) (start E vb t row col)) (f row x)) num_col)

  -- an element of rows that another tile does not have stays
  pub element_apart : (F u : ℕ) (f : ℕ → ℕ → ℤ) → Sized F vb → Disjoint (in_tile E t) (in_tile F u)
      → element E vb t (add_to F vb u f za) row col ≡ element E vb t za row col
  unfolding element
  element_apart F u f r d =
      word_ext E (at (add_to F vb u f za)) (at za) (start E vb t row col) (start E vb t row col)
      (λ j l. add_to_out F vb n r u f za (start E vb t row col + j) (held j l) (ap (in_tile F u) (byte_row j l) ∙ other (d.apart (row * E + t))))
    where
      other : (in_tile E t (row * E + t) ≡ false) ⊎ (in_tile F u (row * E + t) ≡ false) → in_tile F u (row * E + t) ≡ false
      other (inl e) = absurd (eqb-false ((row * E + t) % E) t e (digits_mod row i.tile))
      other (inr e) = e
