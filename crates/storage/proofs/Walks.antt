-- What a walk over a tile needs: storing one element is adding at it alone. Assumes nothing.
use mathlib.Core.Path.{◌≡◌, refl, sym, ap, ◌∙◌, subst}
use mathlib.Core.Logic.{◌≢◌, ◌⊎◌, inl, inr}
use mathlib.Core.Bool.{◌&&◌, cond}
use mathlib.Core.List.{List}
use Prim.Native.Nat.{ℕ, ◌+◌, ◌*◌, ◌/◌, ◌%◌, ◌≤◌, ◌<◌}
use native.Mathlib.Nat.{mod-lt, div-add-mod', mul-le-mul_right, div-lt_iff_lt-mul}
use native.Mathlib.Omega.{arith}
use native.Mathlib.Decide.{ℕ_discrete, dec_lt}
use lib.Arith.{digits_div, digits_mod, digits_lt}
use lib.Dec.{eqb}
use lib.ListN.{length}
use lib.Seq.{sets, length-sets, ext_get_or}
use lib.IntN.{ℤ, pos}
use borrow.Author.Tests.{eq-eqb, ne_eqb}
use Rattle.storage.specs.Bytes.{at, byte_of, word, bytes_of}
use Rattle.storage.specs.Modulo.{plus}
use Rattle.storage.specs.Tile.{start, element, add_at, add_to}
use Rattle.storage.proofs.Modulo.{plus_nil}
use Rattle.storage.proofs.Bytes.{length_bytes_of, at_bytes_of, at-sets_out, at-sets_in, byte_word, word_lt}
use Rattle.storage.proofs.Changes.{change_ext}
use Rattle.storage.proofs.Tiles.{Sized, add_in, add_out, by_element, row_of}
use Rattle.storage.proofs.Laws.{Good, add_to-at, add_to-length, Inside, num, number, zrow, num_col, held}

-- z at one element, 0 at all others
abbrev pub single : ℕ → ℕ → ℤ → ℕ → ℕ → ℤ
single row col z r c = cond (eqb r row && eqb c col) z (pos 0)

pub single_other : (row col : ℕ) (z : ℤ) (r c : ℕ) → ((r ≡ row) → c ≢ col) → single row col z r c ≡ pos 0
single_other row col z r c d = go (ℕ_discrete r row)
  where
    go : Dec (r ≡ row) → single row col z r c ≡ pos 0
    go (yes e) = rw (eq-eqb r row e, ne_eqb c col (d e))
    go (no e) = rw (ne_eqb r row e)

single_here : (row col : ℕ) (z : ℤ) → single row col z row col ≡ z
single_here row col z = rw (eq-eqb row row refl, eq-eqb col col refl)

-- an element is known by its tile, row and column
num_inj : (E cols t row col e : ℕ) → e / cols % E ≡ t → e / cols / E ≡ row → e % cols ≡ col → e ≡ num E cols t row col
unfolding num
num_inj E cols t row col e a b c =
    sym (div-add-mod' e cols) ∙ ap (λ (x : ℕ). x * cols + e % cols) (sym (div-add-mod' (e / cols) E)) ∙ rw (a, b, c)

module _ (E vb n : ℕ) (s : Sized E vb) (t row col : ℕ) (za : List ℕ) (k : Good vb n za) (i : Inside E vb t n row col) (z : ℤ) where
  -- the element's new value, and ZA with it stored
  abbrev value : ℕ
  value = plus E (element E vb t za row col) z

  abbrev stored : List ℕ
  stored = sets za (start E vb t row col) (bytes_of E value)

  abbrev one : ℕ → ℕ → ℤ
  one = single row col z

  abbrev here : ℕ
  here = num E s.cols t row col

  abbrev Agrees : ℕ → Type 0
  Agrees p = at stored p ≡ add_at E vb t one (at za) p

  at-start : start E vb t row col ≡ here * E
  at-start = number E vb n s t row col za k i

  store_here : (j : ℕ) → j < E → Agrees (here * E + j)
  unfolding element
  store_here j h =
      ap (λ (x : ℕ). at stored (x + j)) (sym at-start)
      ∙ at-sets_in (bytes_of E value) za (start E vb t row col) j (rw length_bytes_of h) (held E vb n s t row col za k i j h)
      ∙ at_bytes_of E value j h
      ∙ sym (add_in E vb s t one (at za) here j h (ap (λ (x : ℕ). x % E) (zrow E vb n s t row col za k i) ∙ digits_mod row i.tile)
      ∙ rw (zrow E vb n s t row col za k i, num_col E vb n s t row col za k i, digits_div row i.tile, single_here row col z, ← at-start))

  store_there : (e j : ℕ) → j < E → e ≢ here → Agrees (e * E + j)
  store_there e j h d =
      at-sets_out (bytes_of E value) za (start E vb t row col) (e * E + j) (rw (length_bytes_of, at-start) (side (dec_lt e here)))
      ∙ sym (go (ℕ_discrete (e / s.cols % E) t))
    where
      side : Dec (e < here) → (e * E + j < here * E) ⊎ (here * E + E ≤ e * E + j)
      side (yes l) = inl (digits_lt l h)
      side (no l) = inr (let g : here < e = omega arith in omega (arith, mul-le-mul_right E g))

      go : Dec (e / s.cols % E ≡ t) → add_at E vb t one (at za) (e * E + j) ≡ at za (e * E + j)
      go (yes a) =
          let nothing : one (e / s.cols / E) (e % s.cols) ≡ pos 0 =
          single_other row col z (e / s.cols / E) (e % s.cols) (λ b c. d (num_inj E s.cols t row col e a b c)) in
          add_in E vb s t one (at za) e j h a
          ∙ ap (λ (y : ℤ). byte_of j (plus E (word E (at za) (e * E)) y)) nothing
          ∙ ap (byte_of j) (plus_nil E (word E (at za) (e * E)) (word_lt E (e * E) (at za) k.bytes))
          ∙ byte_word E j (e * E) (at za) k.bytes h
      go (no a) = add_out E vb s t one (at za) e j h a

  store_at : (e j : ℕ) → j < E → Agrees (e * E + j)
  store_at e j h = go (ℕ_discrete e here)
    where
      go : Dec (e ≡ here) → Agrees (e * E + j)
      go (yes q) = subst (λ (x : ℕ). Agrees (x * E + j)) (sym q) (store_here j h)
      go (no q) = store_there e j h q

  -- storing the element's new value is adding to it alone
  pub store_add : sets za (start E vb t row col) (bytes_of E (plus E (element E vb t za row col) z)) ≡ add_to E vb t (single row col z) za
  store_add =
      ext_get_or 0 stored (add_to E vb t one za)
      (length-sets za (start E vb t row col) (bytes_of E value) ∙ sym (add_to-length E vb t one za))
      (λ p l. by_element E vb s Agrees store_at p ∙ sym (add_to-at E vb t one za p (rw length-sets at l)))

-- only what f gives to elements of the tile counts
module _ (E vb n : ℕ) (s : Sized E vb) (t : ℕ) (f g : ℕ → ℕ → ℤ) (za : List ℕ) (k : Good vb n za) where
  abbrev SameAt : ℕ → Type 0
  SameAt p = p < length za → add_at E vb t f (at za) p ≡ add_at E vb t g (at za) p

  pub add_to_cong : ((r c : ℕ) → r * E + t < n → c < s.cols → f r c ≡ g r c) → add_to E vb t f za ≡ add_to E vb t g za
  unfolding add_to
  add_to_cong a = change_ext (add_at E vb t f) (add_at E vb t g) za (by_element E vb s SameAt (λ e j h. go e j h (ℕ_discrete (e / s.cols % E) t)))
    where
      go : (e j : ℕ) → j < E → Dec (e / s.cols % E ≡ t) → SameAt (e * E + j)
      go e j h (yes i) l =
          let b : e / s.cols < n = rw (row_of E vb s e j h) at ((div-lt_iff_lt-mul k.rows.positive).1 (rw k.rows.whole at l)) in
          add_in E vb s t f (at za) e j h i
          ∙ ap (λ (z : ℤ). byte_of j (plus E (word E (at za) (e * E)) z))
          (a (e / s.cols / E) (e % s.cols) (omega (arith, div-add-mod' (e / s.cols) E)) (mod-lt e s.wide))
          ∙ sym (add_in E vb s t g (at za) e j h i)
      go e j h (no i) l = add_out E vb s t f (at za) e j h i ∙ sym (add_out E vb s t g (at za) e j h i)
