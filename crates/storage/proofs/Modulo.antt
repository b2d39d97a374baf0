-- Signed whole numbers modulo m, and adding them to a tile element. Assumes nothing.
use mathlib.Core.Path.{◌≡◌, sym, ap, ◌∙◌, subst}
use mathlib.Core.Logic.{◌⊎◌, inl, inr}
use Prim.Native.Nat.{ℕ, zero, suc, ◌+◌, ◌-◌, ◌%◌, ◌^◌, ◌<◌}
use native.Mathlib.Nat.{one-le-pow, eq-or-lt_of_le, add_assoc, add-zero}
use native.Mathlib.Nat.{mod-lt, mod_self, zero-mod, mod-mod, mod-eq_of_lt, suc-mod, mod-add-mod, add-mod-mod, add-mod_right}
use native.Mathlib.Numerals.{add-one}
use native.Mathlib.Omega.{arith}
use lib.IntN.{ℤ, pos, negsuc, suc_ℤ, pred_ℤ, neg_ℤ, ◌+ℤ◌, +ℤ_idr, +ℤ_one, -ℤ_one, +ℤ-suc_ℤ, +ℤ-pred_ℤ, suc-pred, ℤ_ind}
use lib.Dec.{lit<}
use Rattle.storage.specs.Modulo.{mod_z, plus}

module _ (m : ℕ) (h : 0 < m) where
  pub mod_z_lt : (z : ℤ) → mod_z m z < m
  unfolding mod_z
  mod_z_lt (pos n) = mod-lt n h
  mod_z_lt (negsuc n) = omega arith

  step : (n : ℕ) → m - suc (n % m) ≡ (m - suc (suc n % m) + 1) % m
  step n = go (eq-or-lt_of_le (mod-lt n h))
    where
      go : (suc (n % m) ≡ m) ⊎ (suc (n % m) < m) → m - suc (n % m) ≡ (m - suc (suc n % m) + 1) % m
      go (inl e) =
          let s : suc n % m ≡ 0 = suc-mod n m ∙ ap (λ (x : ℕ). x % m) e ∙ mod_self m in
          let t : m - suc (suc n % m) + 1 ≡ m = omega arith in
          let u : m - suc (n % m) ≡ 0 = omega arith in
          u ∙ sym (ap (λ (x : ℕ). x % m) t ∙ mod_self m)
      go (inr l) =
          let s : suc n % m ≡ suc (n % m) = suc-mod n m ∙ mod-eq_of_lt l in
          let t : m - suc (suc n % m) + 1 ≡ m - suc (n % m) = omega arith in
          let u : m - suc (n % m) < m = omega arith in
          sym (ap (λ (x : ℕ). x % m) t ∙ mod-eq_of_lt u)

  pub mod_z-suc : (z : ℤ) → mod_z m (suc_ℤ z) ≡ (mod_z m z + 1) % m
  unfolding mod_z
  mod_z-suc (pos n) = sym (mod-add-mod n m 1 ∙ ap (λ (x : ℕ). x % m) (add-one n))
  mod_z-suc (negsuc zero) =
      let s : m - suc (0 % m) + 1 ≡ m = omega (arith, zero-mod m) in
      zero-mod m ∙ sym (ap (λ (x : ℕ). x % m) s ∙ mod_self m)
  mod_z-suc (negsuc (suc n)) = step n

  -- adding one is taken back by adding m - 1
  back : (x : ℕ) → x < m → ((x + 1) % m + (m - 1)) % m ≡ x
  back x l =
      let e : x + 1 + (m - 1) ≡ x + m = omega arith in
      mod-add-mod (x + 1) m (m - 1) ∙ ap (λ (r : ℕ). r % m) e ∙ add-mod_right x m ∙ mod-eq_of_lt l

  pub mod_z_pred : (z : ℤ) → mod_z m (pred_ℤ z) ≡ (mod_z m z + (m - 1)) % m
  mod_z_pred z =
      sym (back (mod_z m (pred_ℤ z)) (mod_z_lt (pred_ℤ z)))
      ∙ ap (λ (r : ℕ). (r + (m - 1)) % m) (sym (mod_z-suc (pred_ℤ z)) ∙ ap (mod_z m) (suc-pred z))

  -- (A + K) moved by c, and K moved by c
  move : (A K c : ℕ) → ((A + K) % m + c) % m ≡ (A + (K + c) % m) % m
  move A K c = mod-add-mod (A + K) m c ∙ ap (λ (r : ℕ). r % m) (add_assoc A K c) ∙ sym (add-mod-mod A (K + c) m)

  pub mod_z_add : (a z : ℤ) → mod_z m (a +ℤ z) ≡ (mod_z m a + mod_z m z) % m
  unfolding mod_z
  mod_z_add a z = ℤ_ind P
      (ap (mod_z m) (+ℤ_idr a)
      ∙ sym (ap (λ (r : ℕ). (mod_z m a + r) % m) (zero-mod m) ∙ ap (λ (r : ℕ). r % m) (add-zero (mod_z m a)) ∙ mod-eq_of_lt (mod_z_lt a)))
      (λ n i. subst P (sym (+ℤ_one (pos n))) (up (pos n) i))
      (λ n i. subst P (sym (-ℤ_one (neg_ℤ (pos n)))) (down (neg_ℤ (pos n)) i))
      z
    where
      P : ℤ → Type 0
      P k = mod_z m (a +ℤ k) ≡ (mod_z m a + mod_z m k) % m

      up : (k : ℤ) → P k → P (suc_ℤ k)
      up k i =
          ap (mod_z m) (+ℤ-suc_ℤ a k) ∙ mod_z-suc (a +ℤ k) ∙ ap (λ (r : ℕ). (r + 1) % m) i ∙ move (mod_z m a) (mod_z m k) 1
          ∙ ap (λ (r : ℕ). (mod_z m a + r) % m) (sym (mod_z-suc k))

      down : (k : ℤ) → P k → P (pred_ℤ k)
      down k i =
          ap (mod_z m) (+ℤ-pred_ℤ a k) ∙ mod_z_pred (a +ℤ k) ∙ ap (λ (r : ℕ). (r + (m - 1)) % m) i ∙ move (mod_z m a) (mod_z m k) (m - 1)
          ∙ ap (λ (r : ℕ). (mod_z m a + r) % m) (sym (mod_z_pred k))

  -- one move after another is the move by the sum
  pub shift_shift : (x : ℕ) (a b : ℤ) → ((x + mod_z m a) % m + mod_z m b) % m ≡ (x + mod_z m (a +ℤ b)) % m
  shift_shift x a b = move x (mod_z m a) (mod_z m b) ∙ ap (λ (r : ℕ). (x + r) % m) (sym (mod_z_add a b))

  pub shift_zero : (x : ℕ) → x < m → (x + mod_z m (pos 0)) % m ≡ x
  unfolding mod_z
  shift_zero x l = ap (λ (r : ℕ). (x + r) % m) (zero-mod m) ∙ ap (λ (r : ℕ). r % m) (add-zero x) ∙ mod-eq_of_lt l

-- ---- adding to an element of E bytes

pub pow_pos : (E : ℕ) → 0 < 256 ^ E
pow_pos E = one-le-pow E 256 (lit< tt)

pub plus_mod : (E x : ℕ) (z : ℤ) → plus E x z % 256 ^ E ≡ plus E x z
unfolding plus
plus_mod E x z = mod-mod _ (256 ^ E)

pub plus-plus : (E x : ℕ) (a b : ℤ) → plus E (plus E x a) b ≡ plus E x (a +ℤ b)
unfolding plus
plus-plus E x a b = shift_shift (256 ^ E) (pow_pos E) x a b

pub plus_nil : (E x : ℕ) → x < 256 ^ E → plus E x (pos 0) ≡ x
unfolding plus
plus_nil E x h = shift_zero (256 ^ E) (pow_pos E) x h
