-- No list is shorter, by counting: where no name inside the mask holds two of some rows of the mask, a list that covers the
-- mask has a name for each of them. Assumes nothing.
use mathlib.Core.Path.{◌≡◌, ◌∙◌, sym, refl}
use mathlib.Core.Bool.{Bool, true, false, not, cond, ◌||◌, or-false}
use mathlib.Core.List.{List, [], ◌∷◌, map}
use Prim.Native.Nat.{ℕ, ◌+◌, ◌≤◌}
use native.Mathlib.Omega.{arith}
use lib.Dec.{leb}
use lib.ListN.{length}
use borrow.Author.Tests.{leb-true}
use Rattle.isa.specs.Row.{every}
use Rattle.isa.proofs.Tests.{all_below}
use Rattle.isa.proofs.Rows.{both}
use Rattle.storage.specs.Tile.{masked}
use Rattle.names.specs.declared.TileName.{TileName}
use Rattle.names.specs.Names.{names, among, is_name, holds, held, inside, Covers}
use Rattle.names.proofs.Members.{each, all_of, member_held}

-- how many of these rows pass a test
abbrev pub count : (ℕ → Bool) → List ℕ → ℕ
count f [] = 0
count f (r ∷ rs) = cond (f r) 1 0 + count f rs

-- a name inside the mask holds at most one of these rows
abbrev pub apart : ℕ → List ℕ → TileName → Bool
apart mask rs k = leb (count (holds k) rs) 1 || not (inside mask k)

count_or : (f g : ℕ → Bool) (rs : List ℕ) → count (λ (r : ℕ). f r || g r) rs ≤ count f rs + count g rs
count_or f g [] = omega arith
count_or f g (r ∷ rs) = go (f r) (g r) (count_or f g rs)
  where
    go : (a b : Bool) → count (λ (r : ℕ). f r || g r) rs ≤ count f rs + count g rs
        → cond (a || b) 1 0 + count (λ (r : ℕ). f r || g r) rs ≤ cond a 1 0 + count f rs + (cond b 1 0 + count g rs)
    go true true h = omega arith
    go true false h = omega arith
    go false true h = omega arith
    go false false h = omega arith

count_none : (rs : List ℕ) → count (λ (r : ℕ). false) rs ≡ 0
count_none [] = refl
count_none (r ∷ rs) = omega (arith, count_none rs)

-- names that hold at most one each hold no more than there are names
held_few : (rs : List ℕ) (js : List TileName) → every (map (λ (j : TileName). leb (count (holds j) rs) 1) js) ≡ true → count (held js) rs ≤ length js
held_few rs [] p = rw (count_none rs) (omega arith)
held_few rs (j ∷ js) p =
    let (a, b) = both (leb (count (holds j) rs) 1) (every (map (λ (j : TileName). leb (count (holds j) rs) 1) js)) p in
    omega (arith, leb-true (count (holds j) rs) 1 a, held_few rs js b, count_or (holds j) (held js) rs)

-- rows of the mask are held by every list that covers it
held_all : {mask : ℕ} {js : List TileName} (rs : List ℕ) → Covers mask js → every (map (masked mask) rs) ≡ true → count (held js) rs ≡ length rs
held_all [] c p = refl
held_all {mask} {js} (r ∷ rs) c p =
    let (a, b) = both (masked mask r) (every (map (masked mask) rs)) p in
    rw (c.exactly r ∙ a, held_all rs c b) (omega arith)

-- the names of a list that covers the mask are inside it
covered_inside : {mask : ℕ} {js : List TileName} → Covers mask js → (j : TileName) → among j js ≡ true → inside mask j ≡ true
covered_inside {mask} {js} c j m = all_below (λ (r : ℕ). not (holds j r) || masked mask r) 8 (λ r l. go r (holds j r) refl)
  where
    go : (r : ℕ) (h : Bool) → holds j r ≡ h → not h || masked mask r ≡ true
    go r true e = sym (c.exactly r) ∙ member_held j js r m e
    go r false e = refl

-- so a list that covers the mask, without names that are left out of the test, has no fewer names than there are such rows
module _ {mask : ℕ} (rs : List ℕ) (left : TileName → Bool) where
  pub no_fewer : {js : List TileName} → every (map (λ (j : TileName). left j || apart mask rs j) names) ≡ true → every (map (masked mask) rs) ≡ true
      → Covers mask js → ((j : TileName) → among j js ≡ true → left j ≡ false) → length rs ≤ length js
  no_fewer {js} p q c other = omega (arith, held_all rs c q, held_few rs js (all_of (λ (j : TileName). leb (count (holds j) rs) 1) js few))
    where
      few : (j : TileName) → among j js ≡ true → leb (count (holds j) rs) 1 ≡ true
      few j m =
          let t = each (λ (j : TileName). left j || apart mask rs j) j names p (each is_name j js c.names_all m) in
          sym (or-false (leb (count (holds j) rs) 1)) ∙ rw (other j m, covered_inside c j m) at t
