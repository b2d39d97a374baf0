-- A test of some number below a bound. Assumes nothing.
use mathlib.Core.Path.{◌≡◌, refl}
use mathlib.Core.Bool.{Bool, true, false, false≢true, ◌||◌, or-true}
use Prim.Native.Nat.{ℕ, zero, suc, ◌<◌}
use native.Mathlib.Omega.{arith}
use lib.Dec.{eqb}
use borrow.Author.Tests.{eqb-true, eqb-false}
use Rattle.pairs.specs.Order.{some_below}

pub below_some : (f : ℕ → Bool) (n k : ℕ) → k < n → f k ≡ true → some_below f n ≡ true
below_some f zero k h t = absurd (omega arith)
below_some f (suc n) k h t = go (eqb k n) refl (below_some f n k)
  where
    go : (c : Bool) → eqb k n ≡ c → (k < n → f k ≡ true → some_below f n ≡ true) → f n || some_below f n ≡ true
    go true e rest = rw (← eqb-true k n e, t)
    go false e rest = rw (rest (omega (arith, eqb-false k n e)) t) (or-true (f n))

pub some_below_lem : (f : ℕ → Bool) (n : ℕ) → some_below f n ≡ true → (k : ℕ) × (k < n) × (f k ≡ true)
some_below_lem f zero h = absurd (false≢true h)
some_below_lem f (suc n) h = go (f n) refl h (some_below_lem f n)
  where
    go : (c : Bool) → f n ≡ c → c || some_below f n ≡ true → (some_below f n ≡ true → (k : ℕ) × (k < n) × (f k ≡ true))
        → (k : ℕ) × (k < suc n) × (f k ≡ true)
    go true e h rest = (n, omega arith, e)
    go false e h rest = let (k, l, t) = rest h in (k, omega arith, t)
