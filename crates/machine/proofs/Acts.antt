-- A list of actions on ZA, each idle or adding to a tile: forward and back, in another order, the totals, and row by row; and
-- with rows cleared between them. Assumes nothing.
use mathlib.Core.Path.{◌≡◌, refl, sym, ap, ap₂, ◌∙◌, subst}
use mathlib.Core.Logic.{◌⊎◌, inl, inr}
use mathlib.Core.Bool.{Bool, true, false, false≢true, ◌&&◌, ◌||◌, cond}
use mathlib.Core.List.{List, [], ◌∷◌, map, reverse, reverse-cons, foldl, foldl-append, Mem, mem-cons_self, mem-cons_of_mem}
use mathlib.Core.List.Permᴰ
use mathlib.Core.List.{Permᴰ}
use mathlib.Core.Option.{Option, none as no_mask, some}
use Prim.Native.Nat.{ℕ, ◌/◌, ◌%◌, ◌<◌}
use native.Mathlib.Decide.{ℕ_discrete}
use lib.Dec.{eqb}
use lib.ListN.{length}
use lib.IntN.{ℤ, pos, ◌+ℤ◌}
use borrow.Author.Tests.{eqb-false, eq-eqb, ne_eqb}
use Rattle.storage.specs.Bytes.{at}
use Rattle.storage.specs.Modulo.{plus}
use Rattle.storage.specs.Tile.{in_tile, element, masked, add_to, clear}
use Rattle.storage.proofs.Modulo.{plus-plus, plus_nil}
use Rattle.storage.proofs.Changes.{Disjoint, Rows}
use Rattle.storage.proofs.Tiles.{Sized, negated, apart_same, apart_widths}
use Rattle.storage.proofs.Laws.{Good, Inside, add_to_good, add_to_back, add_to_swap, add_to_comm, add_to_row, add_to_out, add_to-length}
use Rattle.storage.proofs.Laws.{element_add, element_apart, element_lt}
use Rattle.storage.proofs.Clearing.{clear-length, clear_in, clear_out}
use Rattle.storage.proofs.Sizes.{Length, sized4, sized8}
use Rattle.machine.specs.Clearing.{in_mask}

-- what a word does: nothing, or it adds f to tile t of elements of E bytes
pub data Act : Type 0 where
  idle : Act
  add : ℕ → ℕ → (ℕ → ℕ → ℤ) → Act

abbrev pub step : ℕ → Act → List ℕ → List ℕ
step vb idle za = za
step vb (add E t f) za = add_to E vb t f za

abbrev pub undo : Act → Act
undo idle = idle
undo (add E t f) = add E t (negated f)

-- elements have 4 bytes or 8
pub data Width : ℕ → Type 0 where
  narrow : Width 4
  wide : Width 8

abbrev pub Fit : Act → Type 0
Fit idle = Unit {0}
Fit (add E t f) = Width E

-- a adds to a 32-bit tile and b to a 64-bit tile that has rows of it
abbrev pub shares : Act → Act → Bool
shares idle b = false
shares (add E t f) idle = false
shares (add E t f) (add F u g) = eqb E 4 && (eqb F 8 && eqb (u % 4) t)

-- what an action brings to element (row, col) of tile t
abbrev pub gives : ℕ → ℕ → ℕ → ℕ → Act → ℤ
gives E t row col idle = pos 0
gives E t row col (add F u f) = cond (eqb F E && eqb u t) (f row col) (pos 0)

-- x adds to tile t of elements of E bytes, or to a tile with no rows of it, or to none
data Beside (E t : ℕ) : Act → Type 0 where
  none : Beside E t idle
  this : (u : ℕ) (f : ℕ → ℕ → ℤ) → u ≡ t → Beside E t (add E u f)
  other : (F u : ℕ) (f : ℕ → ℕ → ℤ) → Width F → eqb F E && eqb u t ≡ false → Disjoint (in_tile E t) (in_tile F u) → Beside E t (add F u f)

flip_apart : {R S : ℕ → Bool} → Disjoint R S → Disjoint S R
flip_apart {R} {S} d = record { apart = λ r. go r (d.apart r) }
  where
    go : (r : ℕ) → (R r ≡ false) ⊎ (S r ≡ false) → (S r ≡ false) ⊎ (R r ≡ false)
    go r (inl e) = inr e
    go r (inr e) = inl e

beside_width : {E : ℕ} (t u : ℕ) (f : ℕ → ℕ → ℤ) → Width E → Dec (u ≡ t) → Beside E t (add E u f)
beside_width t u f k (yes e) = this u f e
beside_width {E} t u f k (no d) = other E u f k (rw (eq-eqb E E refl) (ne_eqb u t d)) (apart_same E t u (λ e. d (sym e)))

beside_add : {E F : ℕ} (t u : ℕ) (f : ℕ → ℕ → ℤ) → Width E → Width F → eqb E 4 && (eqb F 8 && eqb (u % 4) t) ≡ false
    → eqb F 4 && (eqb E 8 && eqb (t % 4) u) ≡ false → Beside E t (add F u f)
beside_add t u f narrow narrow p q = beside_width t u f narrow (ℕ_discrete u t)
beside_add t u f narrow wide p q = other 8 u f wide refl (apart_widths t u (eqb-false (u % 4) t p))
beside_add t u f wide narrow p q = other 4 u f narrow refl (flip_apart (apart_widths u t (eqb-false (t % 4) u q)))
beside_add t u f wide wide p q = beside_width t u f wide (ℕ_discrete u t)

-- where rows are shared with no tile of the other width
beside : (E t : ℕ) (g : ℕ → ℕ → ℤ) (x : Act) → Width E → Fit x → shares (add E t g) x ≡ false → shares x (add E t g) ≡ false → Beside E t x
beside E t g idle k j p q = none
beside E t g (add F u f) k j p q = beside_add t u f k j p q

-- two ZAs that agree in row r
pub record Agree (vb r : ℕ) (za zb : List ℕ) : Type 0 where
  pub long : length za ≡ length zb
  pub agree : (p : ℕ) → p < length za → p / vb ≡ r → at za p ≡ at zb p

-- ---- one action
module _ (vb : ℕ) (l : Length vb) where
  pub sized : {E : ℕ} → Width E → Sized E vb
  sized narrow = sized4 vb l
  sized wide = sized8 vb l

  pub step_good : (a : Act) → Fit a → (za : List ℕ) → Good vb vb za → Good vb vb (step vb a za)
  step_good idle j za k = k
  step_good (add E t f) j za k = add_to_good E vb vb (sized j) t f za k

  pub step_undo : (a : Act) → Fit a → (za : List ℕ) → Good vb vb za → step vb (undo a) (step vb a za) ≡ za
  step_undo idle j za k = refl
  step_undo (add E t f) j za k = add_to_back E vb vb (sized j) t f za k

  one_width : {E : ℕ} → Width E → (t u : ℕ) (f g : ℕ → ℕ → ℤ) (za : List ℕ) → Good vb vb za → Dec (t ≡ u)
      → add_to E vb t f (add_to E vb u g za) ≡ add_to E vb u g (add_to E vb t f za)
  one_width {E} j t u f g za k (yes e) =
      subst (λ (v : ℕ). add_to E vb t f (add_to E vb v g za) ≡ add_to E vb v g (add_to E vb t f za)) e
      (add_to_swap E vb vb (sized j) t f g za k)
  one_width {E} j t u f g za k (no d) = add_to_comm E E vb vb t u f g za (sized j) (sized j) (apart_same E t u d) k

  two_widths : (t u : ℕ) (f g : ℕ → ℕ → ℤ) (za : List ℕ) → Good vb vb za → eqb (u % 4) t ≡ false
      → add_to 4 vb t f (add_to 8 vb u g za) ≡ add_to 8 vb u g (add_to 4 vb t f za)
  two_widths t u f g za k p = add_to_comm 4 8 vb vb t u f g za (sized narrow) (sized wide) (apart_widths t u (eqb-false (u % 4) t p)) k

  pub add_comm : {E F : ℕ} → Width E → Width F → (t u : ℕ) (f g : ℕ → ℕ → ℤ) (za : List ℕ) → eqb E 4 && (eqb F 8 && eqb (u % 4) t) ≡ false
      → eqb F 4 && (eqb E 8 && eqb (t % 4) u) ≡ false → Good vb vb za → add_to E vb t f (add_to F vb u g za) ≡ add_to F vb u g (add_to E vb t f za)
  add_comm narrow narrow t u f g za p q k = one_width narrow t u f g za k (ℕ_discrete t u)
  add_comm narrow wide t u f g za p q k = two_widths t u f g za k p
  add_comm wide narrow t u f g za p q k = sym (two_widths u t g f za k q)
  add_comm wide wide t u f g za p q k = one_width wide t u f g za k (ℕ_discrete t u)

  step_comm : (a b : Act) → Fit a → Fit b → (za : List ℕ) → shares a b ≡ false → shares b a ≡ false → Good vb vb za
      → step vb a (step vb b za) ≡ step vb b (step vb a za)
  step_comm idle b i j za p q k = refl
  step_comm (add E t f) idle i j za p q k = refl
  step_comm (add E t f) (add F u g) i j za p q k = add_comm i j t u f g za p q k

  step-length : (a : Act) (za : List ℕ) → length (step vb a za) ≡ length za
  step-length idle za = refl
  step-length (add E t f) za = add_to-length E vb t f za

  step_stays : (a : Act) → Fit a → (za : List ℕ) (p : ℕ) → p < length za
      → ((E t : ℕ) (f : ℕ → ℕ → ℤ) → a ≡ add E t f → in_tile E t (p / vb) ≡ false) → at (step vb a za) p ≡ at za p
  step_stays idle j za p h u = refl
  step_stays (add E t f) j za p h u = add_to_out E vb vb (sized j) t f za p h (u E t f refl)

  step_agree : (a : Act) → Fit a → (r : ℕ) (za zb : List ℕ) → Rows vb vb za → Agree vb r za zb → Agree vb r (step vb a za) (step vb a zb)
  step_agree idle j r za zb k h = h
  step_agree (add E t f) j r za zb k h = record {
    long = add_to-length E vb t f za ∙ h.long ∙ sym (add_to-length E vb t f zb);
    agree = λ p i e. add_to_row E vb vb (sized j) t f za zb r k h.long h.agree p (rw (add_to-length E vb t f za) at i) e;
  }

  module _ (E t row col : ℕ) (w : Width E) (i : Inside E vb t vb row col) where
    one_more : (a : Act) (za : List ℕ) → Good vb vb za → Beside E t a
        → element E vb t (step vb a za) row col ≡ plus E (element E vb t za row col) (gives E t row col a)
    one_more a za k none = sym (plus_nil E _ (element_lt E vb t row col za k.bytes))
    one_more a za k (this u f e) = rw (eq-eqb E E refl, eq-eqb u t e, e) (element_add E vb vb (sized w) t row col za k i f)
    one_more a za k (other F u f j e d) =
        element_apart E vb vb (sized w) t row col za k i F u f (sized j) d
        ∙ sym (rw e (plus_nil E _ (element_lt E vb t row col za k.bytes)))

-- ---- a list of words, each with its action
module _ {W : Type 0} (act : W → Act) where
  abbrev pub acted : ℕ → List ℕ → List W → List ℕ
  acted vb za ws = foldl (λ z w. step vb (act w) z) za ws

  -- the exact total at element (row, col) of tile t
  abbrev pub given : ℕ → ℕ → ℕ → ℕ → List W → ℤ
  given E t row col [] = pos 0
  given E t row col (w ∷ ws) = gives E t row col (act w) +ℤ given E t row col ws

  -- no 32-bit tile of the list has rows of a 64-bit tile of it
  pub record Clean (ws : List W) : Type 0 where
    pub clean : (a b : W) → Mem a ws → Mem b ws → shares (act a) (act b) ≡ false

  -- row r is of no tile that the list names
  pub record Free (r : ℕ) (ws : List W) : Type 0 where
    pub free : (a : W) (E t : ℕ) (f : ℕ → ℕ → ℤ) → Mem a ws → act a ≡ add E t f → in_tile E t r ≡ false

  clean_tail : (w : W) (ws : List W) → Clean (w ∷ ws) → Clean ws
  clean_tail w ws c = record { clean = λ a b x y. c.clean a b (mem-cons_of_mem w x) (mem-cons_of_mem w y) }

  module _ (fit : (w : W) → Fit (act w)) (vb : ℕ) (l : Length vb) where
    -- every other order gives the same ZA
    pub any_order : {ws os : List W} → Permᴰ ws os → (za : List ℕ) → Good vb vb za → Clean ws → acted vb za ws ≡ acted vb za os
    any_order Permᴰ.nil za k c = refl
    any_order (Permᴰ.cons {a = a} {b = b} {l₁ = l₁} {l₂ = l₂} e d) za k c =
        any_order d (step vb (act a) za) (step_good vb l (act a) (fit a) za k) (clean_tail a l₁ c) ∙ ap (λ (w : W). acted vb (step vb (act w) za) l₂) e
    any_order (Permᴰ.swap {a = a} {b = b} {l = ws} e d) za k c =
        ap (λ (z : List ℕ). acted vb z ws)
        (step_comm vb l (act b) (act a) (fit b) (fit a) za
        (c.clean b a (mem-cons_of_mem a mem-cons_self) mem-cons_self) (c.clean a b mem-cons_self (mem-cons_of_mem a mem-cons_self)) k)
        ∙ ap₂ (λ (x y : W). acted vb (step vb (act y) (step vb (act x) za)) ws) d e
    any_order (Permᴰ.trans d₁ d₂) za k c =
        any_order d₁ za k c
        ∙ any_order d₂ za k (record { clean = λ a b x y. c.clean a b (Permᴰ.mem (Permᴰ.symm d₁) x) (Permᴰ.mem (Permᴰ.symm d₁) y) })

    module _ (E t row col : ℕ) (w : Width E) (i : Inside E vb t vb row col) where
      totals : (ws : List W) (za : List ℕ) → Good vb vb za → ((a : W) → Mem a ws → Beside E t (act a))
          → element E vb t (acted vb za ws) row col ≡ plus E (element E vb t za row col) (given E t row col ws)
      totals [] za k c = sym (plus_nil E _ (element_lt E vb t row col za k.bytes))
      totals (a ∷ ws) za k c =
          totals ws (step vb (act a) za) (step_good vb l (act a) (fit a) za k) (λ b x. c b (mem-cons_of_mem a x))
          ∙ ap (λ (y : ℕ). plus E y (given E t row col ws)) (one_more vb l E t row col w i (act a) za k (c a mem-cons_self))
          ∙ plus-plus E _ (gives E t row col (act a)) (given E t row col ws)

      -- each element of a named tile is its start plus the exact total
      pub totals_named : (ws : List W) (za : List ℕ) → Good vb vb za → Clean ws → (a : W) (g : ℕ → ℕ → ℤ) → Mem a ws → act a ≡ add E t g
          → element E vb t (acted vb za ws) row col ≡ plus E (element E vb t za row col) (given E t row col ws)
      totals_named ws za k c a g m e =
          totals ws za k (λ b x. beside E t g (act b) w (fit b) (rw e at (c.clean a b m x)) (rw e at (c.clean b a x m)))

    -- all other bytes stay
    pub others : (ws : List W) (za : List ℕ) (p : ℕ) → p < length za → Free (p / vb) ws → at (acted vb za ws) p ≡ at za p
    others [] za p h u = refl
    others (a ∷ ws) za p h u =
        others ws (step vb (act a) za) p (rw (step-length vb l (act a) za) h) (record { free = λ b E t f m e. u.free b E t f (mem-cons_of_mem a m) e })
        ∙ step_stays vb l (act a) (fit a) za p h (λ E t f e. u.free a E t f mem-cons_self e)

-- ---- any way to go on from word to word
module _ {W : Type 0} (vb : ℕ) (l : Length vb) (next : List ℕ → W → List ℕ) (act : W → Act) (fit : (w : W) → Fit (act w)) where
  -- that does what the actions do
  pub record Does (w : W) : Type 0 where
    pub does : (za : List ℕ) → Good vb vb za → next za w ≡ step vb (act w) za

  pub as_acted : (ws : List W) (za : List ℕ) → Good vb vb za → ((w : W) → Mem w ws → Does w) → foldl next za ws ≡ acted act vb za ws
  as_acted [] za k d = refl
  as_acted (w ∷ ws) za k d =
      ap (λ (z : List ℕ). foldl next z ws) ((d w mem-cons_self).does za k)
      ∙ as_acted ws (step vb (act w) za) (step_good vb l (act w) (fit w) za k) (λ v m. d v (mem-cons_of_mem w m))

  -- forward, then in reverse order with each action undone
  pub there_and_back : (flip : W → W) (ws : List W) (za : List ℕ) → Good vb vb za → ((w : W) → Mem w ws → Does w)
      → ((w : W) → Mem w ws → Does (flip w)) → ((w : W) → Mem w ws → act (flip w) ≡ undo (act w))
      → foldl next (foldl next za ws) (reverse (map flip ws)) ≡ za
  there_and_back flip [] za k d f u = refl
  there_and_back flip (w ∷ ws) za k d f u =
      let m = mem-cons_self in
      let g : Good vb vb (next za w) = rw ((d w m).does za k) (step_good vb l (act w) (fit w) za k) in
      ap (foldl next (foldl next za (w ∷ ws))) (reverse-cons (flip w) (map flip ws))
      ∙ foldl-append next (foldl next za (w ∷ ws)) (reverse (map flip ws)) (flip w ∷ [])
      ∙ ap (λ (z : List ℕ). next z (flip w))
      (there_and_back flip ws (next za w) g (λ v x. d v (mem-cons_of_mem w x)) (λ v x. f v (mem-cons_of_mem w x)) (λ v x. u v (mem-cons_of_mem w x)))
      ∙ (f w m).does (next za w) g ∙ ap₂ (step vb) (u w m) ((d w m).does za k) ∙ step_undo vb l (act w) (fit w) za k

-- ---- clearing beside adding: after its action a word clears the rows of a mask, if it has one
abbrev pub wipe : ℕ → Option ℕ → List ℕ → List ℕ
wipe vb no_mask za = za
wipe vb (some mask) za = clear vb mask za

module _ (vb : ℕ) where
  wipe_length : (q : Option ℕ) (za : List ℕ) → length (wipe vb q za) ≡ length za
  wipe_length no_mask za = refl
  wipe_length (some mask) za = clear-length vb mask za

  -- a row of the mask is alike, whatever it held
  wipe_same : (q : Option ℕ) (r : ℕ) (za zb : List ℕ) → length za ≡ length zb → in_mask q r ≡ true → Agree vb r (wipe vb q za) (wipe vb q zb)
  wipe_same no_mask r za zb e h = absurd (false≢true h)
  wipe_same (some mask) r za zb e h = record {
    long = clear-length vb mask za ∙ e ∙ sym (clear-length vb mask zb);
    agree =
        λ p i j.
        let g : p < length za = rw clear-length at i in
        clear_in vb mask za p g (rw j h) ∙ sym (clear_in vb mask zb p (rw (← e) g) (rw j h));
  }

  -- a row that was alike stays so
  wipe_agree : (q : Option ℕ) (r : ℕ) (za zb : List ℕ) → Agree vb r za zb → Agree vb r (wipe vb q za) (wipe vb q zb)
  wipe_agree no_mask r za zb h = h
  wipe_agree (some mask) r za zb h = go (masked mask r) refl
    where
      go : (b : Bool) → masked mask r ≡ b → Agree vb r (clear vb mask za) (clear vb mask zb)
      go true m = wipe_same (some mask) r za zb h.long m
      go false m = record {
        long = clear-length vb mask za ∙ h.long ∙ sym (clear-length vb mask zb);
        agree =
            λ p i j.
            let g : p < length za = rw clear-length at i in
            clear_out vb mask za p g (rw j m) ∙ h.agree p g j ∙ sym (clear_out vb mask zb p (rw (← h.long) g) (rw j m));
      }

  wipe_stays : (q : Option ℕ) (za : List ℕ) (p : ℕ) → p < length za → in_mask q (p / vb) ≡ false → at (wipe vb q za) p ≡ at za p
  wipe_stays no_mask za p h m = refl
  wipe_stays (some mask) za p h m = clear_out vb mask za p h m

-- ---- a list of words, each with its action and its mask
module _ {W : Type 0} (act : W → Act) (mask : W → Option ℕ) where
  abbrev pub deed : ℕ → List ℕ → W → List ℕ
  deed vb za w = wipe vb (mask w) (step vb (act w) za)

  abbrev pub deeds : ℕ → List ℕ → List W → List ℕ
  deeds vb za ws = foldl (deed vb) za ws

  -- row r is of a mask of the list
  abbrev pub clearing : List W → ℕ → Bool
  clearing [] r = false
  clearing (w ∷ ws) r = in_mask (mask w) r || clearing ws r

  -- row r is of no mask of the list, and of no tile that it names
  abbrev pub Spared : ℕ → List W → Type 0
  Spared r [] = Unit {0}
  Spared r (w ∷ ws) = ((in_mask (mask w) r ≡ false) × ((E t : ℕ) (f : ℕ → ℕ → ℤ) → act w ≡ add E t f → in_tile E t r ≡ false)) × Spared r ws

  module _ (fit : (w : W) → Fit (act w)) (vb : ℕ) (l : Length vb) where
    pub deed_length : (w : W) (za : List ℕ) → length (deed vb za w) ≡ length za
    deed_length w za = wipe_length vb (mask w) (step vb (act w) za) ∙ step-length vb l (act w) za

    deed_rows : (w : W) (za : List ℕ) → Rows vb vb za → Rows vb vb (deed vb za w)
    deed_rows w za k = record { positive = k.positive; whole = deed_length w za ∙ k.whole }

    -- a row that both have alike ends the same
    alike_rows : (ws : List W) (r : ℕ) (za zb : List ℕ) → Rows vb vb za → Agree vb r za zb → Agree vb r (deeds vb za ws) (deeds vb zb ws)
    alike_rows [] r za zb k h = h
    alike_rows (w ∷ ws) r za zb k h =
        alike_rows ws r _ _ (deed_rows w za k) (wipe_agree vb (mask w) r _ _ (step_agree vb l (act w) (fit w) r za zb k h))

    -- a row that a word clears ends the same, whatever both held, wherever in the list that word stands
    pub cleared_rows : (ws : List W) (r : ℕ) (za zb : List ℕ) → Rows vb vb za → length za ≡ length zb → clearing ws r ≡ true
        → Agree vb r (deeds vb za ws) (deeds vb zb ws)
    cleared_rows [] r za zb k e c = absurd (false≢true c)
    cleared_rows (w ∷ ws) r za zb k e c =
        go (in_mask (mask w) r) refl c (cleared_rows ws r _ _ (deed_rows w za k) (deed_length w za ∙ e ∙ sym (deed_length w zb)))
      where
        go : (b : Bool) → in_mask (mask w) r ≡ b → b || clearing ws r ≡ true → (clearing ws r ≡ true → Agree vb r (deeds vb za (w ∷ ws)) (deeds vb zb (w ∷ ws)))
            → Agree vb r (deeds vb za (w ∷ ws)) (deeds vb zb (w ∷ ws))
        go true m h later =
            let d = step-length vb l (act w) za ∙ e ∙ sym (step-length vb l (act w) zb) in
            alike_rows ws r _ _ (deed_rows w za k) (wipe_same vb (mask w) r _ _ d m)
        go false m h later = later h

    -- a row that is spared stays
    pub spared_rows : (ws : List W) (za : List ℕ) (p : ℕ) → p < length za → Spared (p / vb) ws → at (deeds vb za ws) p ≡ at za p
    spared_rows [] za p h s = refl
    spared_rows (w ∷ ws) za p h s =
        spared_rows ws (deed vb za w) p (rw (deed_length w za) h) s.1
        ∙ wipe_stays vb (mask w) (step vb (act w) za) p (rw (step-length vb l (act w) za) h) s.0.0
        ∙ step_stays vb l (act w) (fit w) za p h s.0.1

-- ---- without masks: a row ends the same whatever the other rows held, mixed widths or not
module _ {W : Type 0} (act : W → Act) (fit : (w : W) → Fit (act w)) (vb : ℕ) (l : Length vb) where
  pub rows_apart : (ws : List W) (r : ℕ) (za zb : List ℕ) → Good vb vb za → Agree vb r za zb → Agree vb r (acted act vb za ws) (acted act vb zb ws)
  rows_apart ws r za zb k h = alike_rows act (λ w. no_mask) fit vb l ws r za zb k.rows h
