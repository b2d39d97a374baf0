-- What `order` says of all orders of a list is true of words executed one at a time. Assumes nothing.
use mathlib.Core.Path.{◌≡◌, refl, sym, ap, ◌∙◌}
use mathlib.Core.Bool.{Bool, true, false, Bool-set, false≢true}
use mathlib.Core.Logic.{◌⊎◌, inl, inr, ∥∥₁_elim}
use mathlib.Core.List.{List, ◌∷◌, ◌++◌, foldl-append, Mem, mem-cons_of_mem, mem-append_left, mem-append_right, Permᴰ}
use mathlib.Core.List.Memᴰ
use mathlib.Core.List.{Memᴰ}
use Prim.Native.Nat.{ℕ, zero, suc, ◌*◌, ◌^◌, ◌<◌}
use native.Mathlib.Bridge.{le_prop}
use native.Mathlib.Decide.{ℕ_discrete, dec_lt}
use native.Mathlib.Omega.{arith}
use borrow.Author.Tests.{not-false}
use Rattle.isa.specs.declared.Instruction.{Instruction}
use Rattle.isa.specs.declared.Refusal.{Refusal}
use Rattle.isa.specs.Table.{all_flags}
use Rattle.isa.specs.Answers.{describe, decode_of}
use Rattle.isa.proofs.Answers.{decode_passed}
use Rattle.storage.proofs.Bytes.{word_lt}
use Rattle.machine.specs.Machine.{Machine}
use Rattle.machine.specs.Instructions.{is_outer}
use Rattle.machine.specs.Execution.{after}
use Rattle.machine.specs.Lists.{played}
use Rattle.machine.specs.Demand3.{Asked}
use Rattle.pairs.specs.Order.{order_matters}
use Rattle.pairs.specs.Claims.{Bytes, NoneClash}
use Rattle.pairs.proofs.Below.{below_some}
use Rattle.pairs.proofs.Theorems.{decides, never_itself, any_order}
use Rattle.std.specs.Prelude.{Ok, Err, Result}
use Rattle.order.specs.declared.Verdict.TheVariants.{AnyOrder, AnyOrderBetween}
use Rattle.order.specs.Pairs.{word_at, paired_with, any_pair, outer_decoded, is_fixed, any_fixed, count_in, ends_in_mid_word, is_too_long, verdict, words_from, words, SameEnd, NoneFixed, Rearranged, behind, before, Means}
use Rattle.order.proofs.Leaving.{after_bytes, after_flags, played_bytes, played_flags}

-- a word of a stretch has a place in it
place : (f : ℕ → ℕ) (k v : ℕ) → Memᴰ v (words_from f k) → (j : ℕ) × (j < k) × (v ≡ f j)
place f zero v m = absurd (Memᴰ.not-nil m)
place f (suc k) v m = go (place (λ j. f (suc j)) k v) (Memᴰ.cases_cons m)
  where
    go : (Memᴰ v (words_from (λ j. f (suc j)) k) → (j : ℕ) × (j < k) × (v ≡ f (suc j))) → (v ≡ f 0) ⊎ Memᴰ v (words_from (λ j. f (suc j)) k)
        → (j : ℕ) × (j < suc k) × (v ≡ f j)
    go rest (inl e) = (0, omega arith, e)
    go rest (inr d) = let (j, h, e) = rest d in (suc j, omega arith, e)

-- a word that is not fixed is an outer product
not_fixed : (w : ℕ) → is_fixed w ≡ false → is_outer (describe w) ≡ true
not_fixed w h = go (decode_of all_flags w) refl (not-false _ h)
  where
    go : (d : Result Instruction Refusal) → decode_of all_flags w ≡ d → outer_decoded d ≡ true → is_outer (describe w) ≡ true
    go (Ok i) e t = ap is_outer (decode_passed all_flags w i e).1 ∙ t
    go (Err r) e t = absurd (false≢true t)

-- ---- a list without a pair
module _ (bytes : List ℕ) (none : any_pair bytes (count_in bytes) ≡ false) where
  earlier : (i j : ℕ) → i < count_in bytes → j < i → order_matters all_flags (word_at bytes j) (word_at bytes i) ≡ false
  earlier i j h l = go (paired_with bytes i j) refl
    where
      go : (c : Bool) → paired_with bytes i j ≡ c → paired_with bytes i j ≡ false
      go true e = absurd (false≢true (sym none ∙ below_some _ (count_in bytes) i h (below_some (paired_with bytes i) i j l e)))
      go false e = e

  -- whichever of two words comes first
  no_pair : (i j : ℕ) → i < count_in bytes → j < count_in bytes → order_matters all_flags (word_at bytes i) (word_at bytes j) ≡ false
  no_pair i j h k = go (dec_lt i j) (ℕ_discrete i j)
    where
      go : Dec (i < j) → Dec (i ≡ j) → order_matters all_flags (word_at bytes i) (word_at bytes j) ≡ false
      go (yes l) e = earlier j i k l
      go (no l) (yes e) = rw e (never_itself all_flags (word_at bytes j))
      go (no l) (no e) = (decides all_flags (word_at bytes j) (word_at bytes i)).either_way ∙ earlier i j h (omega arith)

  none-clash : NoneClash all_flags (words bytes)
  none-clash v w s t =
      ∥∥₁_elim s (Bool-set _ _) (λ c. ∥∥₁_elim t (Bool-set _ _) (λ d.
      let (i, h, e) = place (word_at bytes) (count_in bytes) v c in
      let (j, k, f) = place (word_at bytes) (count_in bytes) w d in
      rw (e, f) (no_pair i j h k)))

none_fixed : (bytes : List ℕ) → any_fixed bytes (count_in bytes) ≡ false → NoneFixed (words bytes)
none_fixed bytes none w s = ∥∥₁_elim s (Bool-set _ _) (λ d. let (j, h, e) = place (word_at bytes) (count_in bytes) w d in rw e (free j h))
  where
    free : (j : ℕ) → j < count_in bytes → is_fixed (word_at bytes j) ≡ false
    free j h = go (is_fixed (word_at bytes j)) refl
      where
        go : (c : Bool) → is_fixed (word_at bytes j) ≡ c → is_fixed (word_at bytes j) ≡ false
        go true e = absurd (false≢true (sym none ∙ below_some (λ i. is_fixed (word_at bytes i)) (count_in bytes) j h e))
        go false e = e

abbrev Small : List ℕ → Type 0
Small ws = (w : ℕ) → Mem w ws → w < 2 ^ 32

small : (bytes : List ℕ) → Bytes bytes → Small (words bytes)
small bytes whole w s = ∥∥₁_elim s le_prop (λ d. let (j, h, e) = place (word_at bytes) (count_in bytes) w d in rw e (word_lt 4 (4 * j) _ whole))

-- ---- lists in another order
free_same : (ws os : List ℕ) → NoneFixed ws → Small ws → NoneClash all_flags ws → Permᴰ ws os → SameEnd ws os
free_same ws os free fits none perm m e za = any_order m ws asked (rw e none) os perm
  where
    asked : Asked m ws
    asked = record { bytes = za; words = fits; outer = λ w s a. not_fixed w (free w s) }

split : (m : Machine) (ws vs : List ℕ) (w : ℕ) → played m (ws ++ (w ∷ vs)) ≡ played (after (played m ws) w) vs
unfolding played
split m ws vs w = foldl-append after m ws (w ∷ vs)

rearranged_same : {ws os : List ℕ} → Rearranged ws os → Small ws → NoneClash all_flags ws → SameEnd ws os
rearranged_same (behind ws os free perm) fits none m e za = free_same ws os free fits none perm m e za
rearranged_same (before ws os free perm w fixed vs us r) fits none m e za =
    let n = after (played m ws) w in
    let first = free_same ws os free (λ v s. fits v (mem-append_left (w ∷ vs) s)) (λ u v s t. none u v (mem-append_left (w ∷ vs) s) (mem-append_left (w ∷ vs) t)) perm m e za in
    let later =
    rearranged_same r (λ v s. fits v (mem-append_right ws (mem-cons_of_mem w s)))
    (λ u v s t. none u v (mem-append_right ws (mem-cons_of_mem w s)) (mem-append_right ws (mem-cons_of_mem w t)))
    n (after_flags (played m ws) w ∙ played_flags ws m ∙ e) (after_bytes (played m ws) (played_bytes ws m za) w) in
    split m ws vs w ∙ later ∙ ap (λ (k : Machine). played (after k w) us) first ∙ sym (split m os us w)

-- ---- the verdict
verdict_any : (p q r s : Bool) → verdict p q r s ≡ Ok AnyOrder → (r ≡ false) × (s ≡ false)
verdict_any true q r s e = absurd (false≢true cc)
verdict_any false true r s e = absurd (false≢true cc)
verdict_any false false true s e = absurd (false≢true cc)
verdict_any false false false true e = absurd (false≢true cc)
verdict_any false false false false e = (refl, refl)

verdict-between : (p q r s : Bool) → verdict p q r s ≡ Ok AnyOrderBetween → r ≡ false
verdict-between true q r s e = absurd (false≢true cc)
verdict-between false true r s e = absurd (false≢true cc)
verdict-between false false true s e = absurd (false≢true cc)
verdict-between false false false s e = refl

pub means : (bytes : List ℕ) → Bytes bytes → Means bytes
means bytes whole = record {
  any_order =
      λ v os perm.
      let (p, f) = verdict_any (ends_in_mid_word bytes) (is_too_long bytes) (any_pair bytes (count_in bytes)) (any_fixed bytes (count_in bytes)) v in
      free_same (words bytes) os (none_fixed bytes f) (small bytes whole) (none-clash bytes p) perm;
  between_fixed =
      λ v os r. rearranged_same r (small bytes whole) (none-clash bytes (verdict-between (ends_in_mid_word bytes) (is_too_long bytes) (any_pair bytes (count_in bytes)) (any_fixed bytes (count_in bytes)) v));
}
