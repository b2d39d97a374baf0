-- The fast walk's two arrays, filled place by place. Assumes nothing.
use Rattle.std.proofs.Common.{◌≡◌, ℕ, ◌+◌, ◌*◌, ◌/◌, ◌%◌, ◌<◌, ◌≢◌, ◌⊎◌, List, length, set, ℤ, pos, inl, inr, arith, get_or-set_other, get_or-set_same}
use native.Mathlib.Decide.{ℕ_discrete}
use Rattle.outer.specs.Walks.{signed_at}

-- x is written at i: a place n has what it should if x is that, where n is i, and it was there before, where it is not
pub written : (Is : ℤ → Type 0) (xs : List ℤ) (i n : ℕ) (x : ℤ) → i < length xs → (n ≡ i → Is x) → (n ≢ i → Is (signed_at xs n)) → Is (signed_at (set xs i x) n)
written Is xs i n x h f g = go (ℕ_discrete n i)
  where
    go : Dec (n ≡ i) → Is (signed_at (set xs i x) n)
    go (yes e) = rw (e, get_or-set_same xs i x (pos 0) h) (f e)
    go (no d) = rw (get_or-set_other xs i n x (pos 0) d) (g d)

-- ---- planes of 64 columns: place n is that of product n / 64 of column n % 64

-- the columns before c are filled, and column c has j products
abbrev pub Filled : ℕ → ℕ → ℕ → Type 0
Filled c j n = (n % 64 < c) ⊎ ((n % 64 ≡ c) × (n / 64 < j))

pub filled-before : {c j : ℕ} (n : ℕ) → Filled c (j + 1) n → n ≢ 64 * j + c → Filled c j n
filled-before n (inl a) d = inl a
filled-before n (inr a) d = inr (a.0, omega arith)

pub plane_column : {c : ℕ} (j : ℕ) → c < 64 → (64 * j + c) % 64 ≡ c
plane_column j h = omega arith

pub plane_product : {c : ℕ} (j : ℕ) → c < 64 → (64 * j + c) / 64 ≡ j
plane_product j h = omega arith
