-- Changes of a list of rows, position by position: which compose and which commute. Assumes nothing.
use mathlib.Core.Path.{◌≡◌, refl, sym, ap, ap₂, ◌∙◌}
use mathlib.Core.Logic.{◌⊎◌, inl, inr}
use mathlib.Core.Bool.{Bool, false}
use mathlib.Core.List.{List, [], ◌∷◌}
use Prim.Native.Nat.{ℕ, zero, suc, ◌*◌, ◌/◌, ◌<◌}
use native.Mathlib.Nat.{not-suc-le-zero, le_of_suc-le-suc, zero-lt-suc, div-lt_iff_lt-mul}
use native.Mathlib.Omega.{arith}
use lib.ListN.{length}
use Rattle.storage.specs.Bytes.{Store, at}
use Rattle.storage.specs.Change.{tabulate, Change, change}

pub length-tabulate : (n : ℕ) (g : ℕ → ℕ) → length (tabulate n g) ≡ n
unfolding tabulate
length-tabulate zero g = refl
length-tabulate (suc n) g = ap suc (length-tabulate n (λ k. g (suc k)))

pub at-tabulate : (n : ℕ) (g : ℕ → ℕ) (i : ℕ) → i < n → at (tabulate n g) i ≡ g i
unfolding tabulate
at-tabulate zero g i h = absurd (not-suc-le-zero h)
at-tabulate (suc n) g zero h = refl
at-tabulate (suc n) g (suc i) h = at-tabulate n (λ k. g (suc k)) i (le_of_suc-le-suc h)

pub tabulate_ext : (n : ℕ) (g h : ℕ → ℕ) → ((i : ℕ) → i < n → g i ≡ h i) → tabulate n g ≡ tabulate n h
unfolding tabulate
tabulate_ext zero g h e = refl
tabulate_ext (suc n) g h e = ap₂ ◌∷◌ (e 0 (zero-lt-suc n)) (tabulate_ext n (λ k. g (suc k)) (λ k. h (suc k)) (λ i l. e (suc i) (omega arith)))

pub tabulate-at : (l : List ℕ) → tabulate (length l) (at l) ≡ l
unfolding tabulate
tabulate-at [] = refl
tabulate-at (x ∷ xs) = ap (λ (r : List ℕ). x ∷ r) (tabulate-at xs)

-- ---- changes of a store that is read by position

-- what is left at a position depends on that position's row alone
pub record Local (vb : ℕ) (U : Change) : Type 0 where
  pub local : (m n : Store) (p : ℕ) → ((q : ℕ) → q / vb ≡ p / vb → m q ≡ n q) → U m p ≡ U n p

-- nothing changes outside the rows of R
pub record Only (vb : ℕ) (R : ℕ → Bool) (U : Change) : Type 0 where
  pub only : (m : Store) (p : ℕ) → R (p / vb) ≡ false → U m p ≡ m p

-- two sets of rows with none in common
pub record Disjoint (R S : ℕ → Bool) : Type 0 where
  pub apart : (r : ℕ) → (R r ≡ false) ⊎ (S r ≡ false)

pub length-change : (U : Change) (l : List ℕ) → length (change U l) ≡ length l
unfolding change
length-change U l = length-tabulate (length l) (U (at l))

pub at-change : (U : Change) (l : List ℕ) (p : ℕ) → p < length l → at (change U l) p ≡ U (at l) p
unfolding change
at-change U l p h = at-tabulate (length l) (U (at l)) p h

pub change_ext : (U W : Change) (l : List ℕ) → ((p : ℕ) → p < length l → U (at l) p ≡ W (at l) p) → change U l ≡ change W l
unfolding change
change_ext U W l e = tabulate_ext (length l) (U (at l)) (W (at l)) e

pub change-same : (U : Change) (l : List ℕ) → ((p : ℕ) → p < length l → U (at l) p ≡ at l p) → change U l ≡ l
unfolding change
change-same U l e = tabulate_ext (length l) (U (at l)) (at l) e ∙ tabulate-at l

-- l is count rows of vb
pub record Rows (vb count : ℕ) (l : List ℕ) : Type 0 where
  pub positive : 0 < vb
  pub whole : length l ≡ count * vb

-- a position in a row of l's is a position of l
pub in_row : (vb n : ℕ) (l : List ℕ) → Rows vb n l → (p q : ℕ) → q / vb ≡ p / vb → p < length l → q < length l
in_row vb n l w p q e h =
    rw w.whole ((div-lt_iff_lt-mul w.positive).0 (rw e ((div-lt_iff_lt-mul w.positive).1 (rw w.whole at h))))

module _ (vb n : ℕ) (U W : Change) where
  pub change-change : (l : List ℕ) → Rows vb n l → Local vb U → change U (change W l) ≡ change (λ m. U (W m)) l
  unfolding change
  change-change l w u =
      ap (λ (n : ℕ). tabulate n (U (at (change W l)))) (length-change W l)
      ∙ tabulate_ext (length l) (U (at (change W l))) (U (W (at l)))
      (λ p h. u.local (at (change W l)) (W (at l)) p (λ q e. at-change W l q (in_row vb n l w p q e h)))

  pub commute : (R S : ℕ → Bool) → Local vb U → Local vb W → Only vb R U → Only vb S W → Disjoint R S → (m : Store) (p : ℕ) → U (W m) p ≡ W (U m) p
  commute R S u v ru sv d m p = go (d.apart (p / vb))
    where
      go : (R (p / vb) ≡ false) ⊎ (S (p / vb) ≡ false) → U (W m) p ≡ W (U m) p
      go (inl e) = ru.only (W m) p e ∙ sym (v.local (U m) m p (λ q r. ru.only m q (ap R r ∙ e)))
      go (inr e) = u.local (W m) m p (λ q r. sv.only m q (ap S r ∙ e)) ∙ sym (sv.only (U m) p e)

module _ (vb n : ℕ) (U W : Change) (R S : ℕ → Bool) (u : Local vb U) (v : Local vb W) (ru : Only vb R U) (sv : Only vb S W) (d : Disjoint R S) where
  pub change_comm : (l : List ℕ) → Rows vb n l → change U (change W l) ≡ change W (change U l)
  change_comm l w =
      change-change vb n U W l w u ∙ change_ext (λ m. U (W m)) (λ m. W (U m)) l (λ p h. commute vb n U W R S u v ru sv d (at l) p)
      ∙ sym (change-change vb n W U l w v)
