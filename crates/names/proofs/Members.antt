-- Names in lists of names. Assumes nothing.
use mathlib.Core.Path.{◌≡◌, ap₂, refl}
use mathlib.Core.Bool.{Bool, true, false, ◌||◌, false≢true}
use mathlib.Core.List.{List, [], ◌∷◌, map}
use Prim.Native.Nat.{ℕ}
use lib.Dec.{eqb}
use borrow.Author.Tests.{eq-eqb, eqb-true}
use Rattle.isa.specs.Row.{every}
use Rattle.isa.proofs.Rows.{both}
use Rattle.names.specs.declared.TileName.{TileName}
use Rattle.names.specs.Names.{za, same_name, among, holds, held}

pub same_name_lem : (j k : TileName) → same_name j k ≡ true → j ≡ k
same_name_lem j k h =
    let (a, b) = both (eqb j.bytes k.bytes) (eqb j.tile.0 k.tile.0) h in
    ap₂ za (eqb-true _ _ a) (eqb-true _ _ b)

pub itself : (k : TileName) → same_name k k ≡ true
itself k = rw (eq-eqb k.bytes k.bytes refl, eq-eqb k.tile.0 k.tile.0 refl)

pub or_right : {b : Bool} (a : Bool) → b ≡ true → a || b ≡ true
or_right true e = refl
or_right false e = e

-- the first of a list, and those behind it
pub first : (k : TileName) (ks : List TileName) → among k (k ∷ ks) ≡ true
first k ks = rw (itself k)

-- what holds of every name of a list holds of each
pub each : (f : TileName → Bool) (k : TileName) (js : List TileName) → every (map f js) ≡ true → among k js ≡ true → f k ≡ true
each f k [] p m = absurd (false≢true m)
each f k (j ∷ js) p m = let (a, b) = both (f j) (every (map f js)) p in go (same_name k j) refl m a (each f k js b)
  where
    go : (s : Bool) → same_name k j ≡ s → s || among k js ≡ true → f j ≡ true → (among k js ≡ true → f k ≡ true) → f k ≡ true
    go true e n a rest = rw (same_name_lem k j e) a
    go false e n a rest = rest n

pub all_of : (f : TileName → Bool) (js : List TileName) → ((k : TileName) → among k js ≡ true → f k ≡ true) → every (map f js) ≡ true
all_of f [] h = refl
all_of f (j ∷ js) h = rw (h j (first j js)) (all_of f js (λ k m. h k (or_right (same_name k j) m)))

-- a row that one of a list's names holds
pub member_held : (k : TileName) (js : List TileName) (r : ℕ) → among k js ≡ true → holds k r ≡ true → held js r ≡ true
member_held k [] r m h = absurd (false≢true m)
member_held k (j ∷ js) r m h = go (same_name k j) refl m (λ n. member_held k js r n h)
  where
    go : (s : Bool) → same_name k j ≡ s → s || among k js ≡ true → (among k js ≡ true → held js r ≡ true) → holds j r || held js r ≡ true
    go true e n rest = let i : holds j r ≡ true = rw (same_name_lem k j e) at h in rw i
    go false e n rest = or_right (holds j r) (rest n)
