-- Rising lists of names: one that has every name of another is as long, and the same if it is no longer. Assumes nothing.
use mathlib.Core.Path.{◌≡◌, sym, ap, ap₂, refl}
use mathlib.Core.Bool.{Bool, true, false, ◌||◌, false≢true}
use mathlib.Core.List.{List, [], ◌∷◌, map}
use Prim.Native.Nat.{◌≤◌, ◌<◌}
use native.Mathlib.Omega.{arith}
use lib.Dec.{ltb}
use lib.ListN.{length}
use borrow.Author.Tests.{ltb-true}
use Rattle.isa.specs.Row.{every}
use Rattle.isa.proofs.Rows.{both}
use Rattle.names.specs.declared.TileName.{TileName}
use Rattle.names.specs.Names.{same_name, among, lowest, rising}
use Rattle.names.proofs.Members.{same_name_lem, or_right, first, each}

-- a name behind the first is above it
behind : (k j : TileName) (ks : List TileName) → rising (k ∷ ks) ≡ true → among j ks ≡ true → lowest k < lowest j
behind k j ks r m = ltb-true _ _ (each above j ks (both (every (map above ks)) (rising ks) r).0 m)
  where
    above : TileName → Bool
    above j = ltb (lowest k) (lowest j)

rest_rising : (k : TileName) (ks : List TileName) → rising (k ∷ ks) ≡ true → rising ks ≡ true
rest_rising k ks r = (both (every (map (λ (j : TileName). ltb (lowest k) (lowest j)) ks)) (rising ks) r).1

-- a name of a list, which is not its first, is among the others
among_rest : (x j : TileName) (js : List TileName) → among x (j ∷ js) ≡ true → (x ≡ j → ⊥) → among x js ≡ true
among_rest x j js m d = go (same_name x j) refl m
  where
    go : (s : Bool) → same_name x j ≡ s → s || among x js ≡ true → among x js ≡ true
    go true e n = absurd (d (same_name_lem x j e))
    go false e n = n

abbrev Same : List TileName → List TileName → Type 0
Same js ks = (length ks ≤ length js) × (length js ≤ length ks → js ≡ ks)

pub same_list : (js ks : List TileName) → rising js ≡ true → rising ks ≡ true → ((k : TileName) → among k ks ≡ true → among k js ≡ true) → Same js ks
same_list [] [] p q h = (omega arith, λ l. refl)
same_list [] (k ∷ ks) p q h = absurd (false≢true (h k (first k ks)))
same_list (j ∷ js) [] p q h = (omega arith, λ l. absurd (omega arith))
same_list (j ∷ js) (k ∷ ks) p q h =
    go (same_name k j) refl (same_list js ks (rest_rising j js p) (rest_rising k ks q)) (same_list js (k ∷ ks) (rest_rising j js p) q)
  where
    not_below : (x : TileName) → among x (k ∷ ks) ≡ true → lowest k ≤ lowest x
    not_below x n = by_first (same_name x k) refl n
      where
        by_first : (s : Bool) → same_name x k ≡ s → s || among x ks ≡ true → lowest k ≤ lowest x
        by_first true d m = omega (arith, ap lowest (same_name_lem x k d))
        by_first false d m = omega (arith, behind k x ks q m)

    go : (s : Bool) → same_name k j ≡ s → (((x : TileName) → among x ks ≡ true → among x js ≡ true) → Same js ks)
        → (((x : TileName) → among x (k ∷ ks) ≡ true → among x js ≡ true) → Same js (k ∷ ks)) → Same (j ∷ js) (k ∷ ks)
    go true e rest all =
        let s = same_name_lem k j e in
        let (a, b) = rest (λ x m. among_rest x j js (h x (or_right (same_name x k) m)) (λ d. omega (arith, behind k x ks q m, ap lowest s, ap lowest d))) in
        (omega arith, λ l. ap₂ ◌∷◌ (sym s) (b (omega arith)))
    go false e rest all =
        let m : among k js ≡ true = rw e at (h k (first k ks)) in
        let (a, b) = all (λ x n. among_rest x j js (h x n) (λ d. omega (arith, behind j k js p m, ap lowest d, not_below x n))) in
        (omega arith, λ l. absurd (omega arith))
