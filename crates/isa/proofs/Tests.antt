-- Lists of tests: all hold together exactly when each holds, however they are joined; and a test of every number below a
-- bound. Assumes nothing.
use mathlib.Core.Path.{◌≡◌, refl, sym}
use mathlib.Core.Bool.{Bool, beq, true, false, true≢false, ◌&&◌}
use mathlib.Core.List.{List, [], ◌∷◌}
use Prim.Native.Nat.{ℕ, zero, suc, ◌<◌}
use native.Mathlib.Omega.{arith}
use lib.Dec.{eqb}
use borrow.Author.Tests.{eqb-true, eqb-false}
use Rattle.isa.specs.Row.{every, every_below}

abbrev pub All : List Bool → Type 0
All [] = Unit {0}
All (t ∷ ts) = (t ≡ true) × All ts

pub every_all : (ts : List Bool) → every ts ≡ true → All ts
every_all [] h = tt
every_all (true ∷ ts) h = (refl, every_all ts h)
every_all (false ∷ ts) h = let z : ◌≡◌ {A = ℕ} 0 1 = cc in absurd (omega arith)

pub all_every : (ts : List Bool) → All ts → every ts ≡ true
all_every [] h = refl
all_every (t ∷ ts) h = rw h.0 (all_every ts h.1)

-- tests joined from the left, as the code's `a & b & c` is
abbrev joined_to : Bool → List Bool → Bool
joined_to b [] = b
joined_to b (t ∷ ts) = joined_to (b && t) ts

abbrev joined : List Bool → Bool
joined [] = true
joined (t ∷ ts) = joined_to t ts

joined_to_lem : (b : Bool) (ts : List Bool) → joined_to b ts ≡ b && every ts
joined_to_lem true [] = refl
joined_to_lem true (t ∷ ts) = joined_to_lem t ts
joined_to_lem false [] = refl
joined_to_lem false (t ∷ ts) = joined_to_lem false ts

pub joined-every : (ts : List Bool) → joined ts ≡ every ts
joined-every [] = refl
joined-every (t ∷ ts) = joined_to_lem t ts

pub beq_eq : (a b : Bool) → beq a b ≡ true → a ≡ b
beq_eq true true h = refl
beq_eq true false h = sym h
beq_eq false true h = h
beq_eq false false h = refl

-- ---- a test of every number below n
pub below : (f : ℕ → Bool) (n k : ℕ) → every_below f n ≡ true → k < n → f k ≡ true
below f zero k p h = absurd (omega arith)
below f (suc n) k p h = go (f n) refl p (eqb k n) refl (below f n k)
  where
    go : (b : Bool) → f n ≡ b → b && every_below f n ≡ true → (e : Bool) → eqb k n ≡ e → (every_below f n ≡ true → k < n → f k ≡ true) → f k ≡ true
    go false q r e d rest = let z : true ≡ false = sym r in cc
    go true q r true d rest = rw (eqb-true k n d) q
    go true q r false d rest = rest r (omega (arith, eqb-false k n d))

pub all_below : (f : ℕ → Bool) (n : ℕ) → ((k : ℕ) → k < n → f k ≡ true) → every_below f n ≡ true
all_below f zero h = refl
all_below f (suc n) h = rw (h n (omega arith)) (all_below f n (λ k l. h k (omega arith)))

pub one_below : (f : ℕ → Bool) (n : ℕ) → every_below f n ≡ false → (k : ℕ) × (k < n) × (f k ≡ false)
one_below f zero h = absurd (true≢false h)
one_below f (suc n) h = go (f n) refl h (one_below f n)
  where
    go : (b : Bool) → f n ≡ b → b && every_below f n ≡ false → (every_below f n ≡ false → (k : ℕ) × (k < n) × (f k ≡ false)) → (k : ℕ) × (k < suc n) × (f k ≡ false)
    go false e h rest = (n, omega arith, e)
    go true e h rest = let (k, l, q) = rest h in (k, omega arith, q)
