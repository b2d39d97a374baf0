-- Adding to a tile, position by position. Assumes nothing.
use mathlib.Core.Path.{◌≡◌, refl, sym, ap, ap₂, ◌∙◌, subst}
use mathlib.Core.Logic.{◌≢◌, ◌⊎◌, inl, inr}
use mathlib.Core.Bool.{Bool, true, false, cond}
use Prim.Native.Nat.{ℕ, ◌+◌, ◌*◌, ◌/◌, ◌%◌, ◌<◌}
use native.Mathlib.Nat.{mod-lt, div-add-mod', div-div-eq-div-mul, mul_comm}
use native.Mathlib.Omega.{arith}
use lib.Arith.{digits_div, digits_mod, mod-mul}
use native.Mathlib.Decide.{ℕ_discrete}
use lib.IntN.{ℤ, pos, ◌+ℤ◌, neg_ℤ}
use borrow.Author.Tests.{eq-eqb, ne_eqb}
use Rattle.storage.specs.Bytes.{Store, byte_of, word}
use Rattle.storage.specs.Modulo.{plus}
use Rattle.storage.specs.Tile.{in_tile, add_at}
use Rattle.storage.proofs.Modulo.{plus_mod, plus-plus, plus_nil}
use Rattle.storage.proofs.Bytes.{byte_lt, word_byte, word_ext, byte_word, word_lt}
use Rattle.storage.proofs.Changes.{Local, Only, Disjoint}

-- elements of E bytes fill a row of vb
pub record Sized (E vb : ℕ) : Type 0 where
  pub positive : 0 < E
  pub cols : ℕ
  pub wide : 0 < cols
  pub whole : vb ≡ cols * E

-- element e of m, counted through all of ZA, with f's number added; cols elements to a row
abbrev pub new_at : ℕ → ℕ → (ℕ → ℕ → ℤ) → Store → ℕ → ℕ
new_at E cols f m e = plus E (word E m (e * E)) (f (e / cols / E) (e % cols))

-- the sum of two such functions, and the one that is 0
infixl 20 ◌⊕◌
abbrev pub ◌⊕◌ : (ℕ → ℕ → ℤ) → (ℕ → ℕ → ℤ) → ℕ → ℕ → ℤ
◌⊕◌ f g r c = f r c +ℤ g r c

abbrev pub nil : ℕ → ℕ → ℤ
nil r c = pos 0

abbrev pub negated : (ℕ → ℕ → ℤ) → ℕ → ℕ → ℤ
negated f r c = neg_ℤ (f r c)

module _ (E vb : ℕ) (s : Sized E vb) where
  -- the row and the column of byte k of element e, counted through all of ZA
  pub row_of : (e k : ℕ) → k < E → (e * E + k) / vb ≡ e / s.cols
  row_of e k h =
      ap (λ (x : ℕ). (e * E + k) / x) (s.whole ∙ mul_comm s.cols E) ∙ sym (div-div-eq-div-mul (e * E + k) E s.cols)
      ∙ ap (λ (x : ℕ). x / s.cols) (digits_div e h)

  pub col_of : (e k : ℕ) → k < E → (e * E + k) % vb / E ≡ e % s.cols
  col_of e k h =
      ap (λ (x : ℕ). (e * E + k) % x / E) s.whole ∙ ap (λ (x : ℕ). x / E) (mod-mul (e * E + k) s.wide s.positive)
      ∙ digits_div ((e * E + k) / E % s.cols) (mod-lt (e * E + k) s.positive) ∙ ap (λ (x : ℕ). x % s.cols) (digits_div e h)

  module _ (t : ℕ) (f : ℕ → ℕ → ℤ) (m : Store) where
    add-at : (e k : ℕ) → k < E → add_at E vb t f m (e * E + k) ≡ cond (in_tile E t (e / s.cols)) (byte_of k (new_at E s.cols f m e)) (m (e * E + k))
    unfolding add_at
    add-at e k h = rw (row_of e k h, col_of e k h, digits_div e h, digits_mod e h)

    pub add_in : (e k : ℕ) → k < E → e / s.cols % E ≡ t → add_at E vb t f m (e * E + k) ≡ byte_of k (new_at E s.cols f m e)
    add_in e k h i = add-at e k h ∙ rw (eq-eqb (e / s.cols % E) t i)

    pub add_out : (e k : ℕ) → k < E → e / s.cols % E ≢ t → add_at E vb t f m (e * E + k) ≡ m (e * E + k)
    add_out e k h i = add-at e k h ∙ rw (ne_eqb (e / s.cols % E) t i)

    -- an element, by its number, becomes what it was plus what f gives it
    pub word_in : (e : ℕ) → e / s.cols % E ≡ t → word E (add_at E vb t f m) (e * E) ≡ new_at E s.cols f m e
    word_in e i = word_byte E (new_at E s.cols f m e) (e * E) (add_at E vb t f m) (λ k h. add_in e k h i) ∙ plus_mod E _ _

  -- what holds at each byte of each element holds at each position
  pub by_element : (P : ℕ → Type 0) → ((e k : ℕ) → k < E → P (e * E + k)) → (p : ℕ) → P p
  by_element P h p = subst P (div-add-mod' p E) (h (p / E) (p % E) (mod-lt p s.positive))

  -- what is left at a position depends on its row alone
  pub add_local : (t : ℕ) (f : ℕ → ℕ → ℤ) → Local vb (add_at E vb t f)
  add_local t f = record { local = λ m n. by_element (Depends m n) (at_byte m n) }
    where
      Depends : Store → Store → ℕ → Type 0
      Depends m n p = ((q : ℕ) → q / vb ≡ p / vb → m q ≡ n q) → add_at E vb t f m p ≡ add_at E vb t f n p

      at_byte : (m n : Store) (e k : ℕ) → k < E → Depends m n (e * E + k)
      at_byte m n e k h a =
          add-at t f m e k h
          ∙ ap₂ (λ (w b : ℕ). cond (in_tile E t (e / s.cols)) (byte_of k (plus E w (f (e / s.cols / E) (e % s.cols)))) b)
          (word_ext E m n (e * E) (e * E) (λ j l. a (e * E + j) (row_of e j l ∙ sym (row_of e k h))))
          (a (e * E + k) refl)
          ∙ sym (add-at t f n e k h)

  pub add_only : (t : ℕ) (f : ℕ → ℕ → ℤ) → Only vb (in_tile E t) (add_at E vb t f)
  unfolding add_at
  add_only t f = record { only = λ m p h. rw h }

  -- adding f and then g is adding their sum
  pub add_add : (t : ℕ) (f g : ℕ → ℕ → ℤ) (m : Store) (p : ℕ) → add_at E vb t g (add_at E vb t f m) p ≡ add_at E vb t (f ⊕ g) m p
  add_add t f g m = by_element Adds (λ e k h. go e k h (ℕ_discrete (e / s.cols % E) t))
    where
      Adds : ℕ → Type 0
      Adds p = add_at E vb t g (add_at E vb t f m) p ≡ add_at E vb t (f ⊕ g) m p

      go : (e k : ℕ) → k < E → Dec (e / s.cols % E ≡ t) → Adds (e * E + k)
      go e k h (yes i) =
          add_in t g (add_at E vb t f m) e k h i
          ∙ ap (λ (w : ℕ). byte_of k (plus E w (g (e / s.cols / E) (e % s.cols)))) (word_in t f m e i)
          ∙ ap (byte_of k) (plus-plus E (word E m (e * E)) (f (e / s.cols / E) (e % s.cols)) (g (e / s.cols / E) (e % s.cols)))
          ∙ sym (add_in t (f ⊕ g) m e k h i)
      go e k h (no i) = add_out t g (add_at E vb t f m) e k h i ∙ add_out t f m e k h i ∙ sym (add_out t (f ⊕ g) m e k h i)

  pub add_nil : (t : ℕ) (m : Store) → ((q : ℕ) → m q < 256) → (p : ℕ) → add_at E vb t nil m p ≡ m p
  add_nil t m b = by_element (λ p. add_at E vb t nil m p ≡ m p) (λ e k h. go e k h (ℕ_discrete (e / s.cols % E) t))
    where
      go : (e k : ℕ) → k < E → Dec (e / s.cols % E ≡ t) → add_at E vb t nil m (e * E + k) ≡ m (e * E + k)
      go e k h (yes i) = add_in t nil m e k h i ∙ ap (byte_of k) (plus_nil E (word E m (e * E)) (word_lt E (e * E) m b)) ∙ byte_word E k (e * E) m b h
      go e k h (no i) = add_out t nil m e k h i

  pub add_bytes : (t : ℕ) (f : ℕ → ℕ → ℤ) (m : Store) → ((q : ℕ) → m q < 256) → (p : ℕ) → add_at E vb t f m p < 256
  unfolding add_at
  add_bytes t f m b p = go (in_tile E t (p / vb))
    where
      go : (c : Bool) → cond c (byte_of (p % E) (plus E (word E m (p / E * E)) (f (p / vb / E) (p % vb / E)))) (m p) < 256
      go true = byte_lt (p % E) _
      go false = b p

-- ---- rows in common

pub apart_same : (E t u : ℕ) → t ≢ u → Disjoint (in_tile E t) (in_tile E u)
apart_same E t u d = record { apart = λ r. go r (ℕ_discrete (r % E) t) }
  where
    go : (r : ℕ) → Dec (r % E ≡ t) → (in_tile E t r ≡ false) ⊎ (in_tile E u r ≡ false)
    go r (yes i) = inr (ne_eqb (r % E) u (λ j. d (sym i ∙ j)))
    go r (no i) = inl (ne_eqb (r % E) t i)

pub apart_widths : (t u : ℕ) → u % 4 ≢ t → Disjoint (in_tile 4 t) (in_tile 8 u)
apart_widths t u d = record { apart = λ r. go r (ℕ_discrete (r % 4) t) }
  where
    go : (r : ℕ) → Dec (r % 4 ≡ t) → (in_tile 4 t r ≡ false) ⊎ (in_tile 8 u r ≡ false)
    go r (yes i) = inr (ne_eqb (r % 8) u (λ j. omega arith))
    go r (no i) = inl (ne_eqb (r % 4) t i)
