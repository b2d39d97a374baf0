-- Signed machine arithmetic. A signed local holds bits, so its value x is read back as `to_z w (of_z w x)`. Assumes nothing.
use Rattle.std.proofs.Common.{◌≡◌, ℕ, zero, suc, ◌+◌, ◌*◌, ◌%◌, ◌^◌, ◌<◌, ◌≤◌, Bool, true, false, ℤ, pos, negsuc, ◌-ℤ◌, ◌*ℤ◌, neg_ℤ, sym, refl, ap, ◌∙◌, zero-le, le_trans, mul-le-mul, arith, lit≤, to_z-of_z, w32, w64, SFits, to_z, of_z}
use native.Mathlib.Nat.{add-mod-mod}
use lib.IntN.{+ℤ_idl, +ℤ_invr, neg_ℤ-neg_ℤ, *ℤ-zero, *ℤ-negsuc}
use lib.Signed.{mag}
use mir.Syntax.{Width}
use mir.Val.{hbits}
use Rattle.storage.specs.Modulo.{mod_z, plus}
use Rattle.storage.proofs.Modulo.{plus_nil, plus-plus}
use Rattle.outer.specs.Products.{directed}
use Rattle.outer.specs.Walks.{ByteOrHalf, byte, half}

-- ---- a number of B bytes, read as an i32

-- it fits, unsigned
pub half_small : {B : ℕ} → ByteOrHalf B → 256 ^ B ≤ 65536
half_small byte = lit≤ tt
half_small half = lit≤ tt

-- and read back
pub read_back : (x : ℤ) → mag x ≤ 65536 → to_z w32 (of_z w32 x) ≡ x
read_back x h = to_z-of_z {w = w32} (record { sfits = omega arith })

-- ---- a product, as an i32 or, of factors cast, as an i64

mag_neg_pos : (n : ℕ) → mag (neg_ℤ (pos n)) ≤ n
mag_neg_pos zero = zero-le
mag_neg_pos (suc n) = omega arith

mag_mul : (x y : ℤ) → mag (x *ℤ y) ≤ suc (mag x) * suc (mag y)
mag_mul (pos a) (pos b) = mul-le-mul (omega arith) (omega arith)
mag_mul (pos a) (negsuc b) = le_trans (mag_neg_pos (a * suc b)) (mul-le-mul (omega arith) (omega arith))
mag_mul (negsuc a) (pos b) = le_trans (mag_neg_pos (suc a * b)) (mul-le-mul (omega arith) (omega arith))
mag_mul (negsuc a) (negsuc b) = mul-le-mul (omega arith) (omega arith)

product_small : {H : ℕ} (x y : ℤ) → mag x ≤ H → mag y ≤ H → mag (x *ℤ y) ≤ suc H * suc H
product_small x y h k = le_trans (mag_mul x y) (mul-le-mul (omega arith) (omega arith))

abbrev pub x32 : ℤ → ℤ
x32 x = to_z w32 (of_z w32 x)

abbrev pub x64 : ℤ → ℤ
x64 x = to_z w64 (of_z w64 x)

-- r is what it should be, and small
abbrev pub Product : ℤ → ℤ → ℤ → Type 0
Product x y r = (r ≡ x *ℤ y) × (mag r < 0x200000000)

module _ (x y : ℤ) (h : (mag x ≤ 256) × (mag y ≤ 256)) where
  bytes_are : x32 x *ℤ x32 y ≡ x *ℤ y
  bytes_are = rw (read_back x (omega (arith, h.0)), read_back y (omega (arith, h.1)))

  pub bytes_fit : SFits w32 (x32 x *ℤ x32 y)
  bytes_fit = rw bytes_are (record { sfits = omega (arith, product_small x y h.0 h.1) })

  bytes_back : x32 (x32 x *ℤ x32 y) ≡ x *ℤ y
  bytes_back = to_z-of_z bytes_fit ∙ bytes_are

  pub bytes_cast : SFits w64 (x32 (x32 x *ℤ x32 y))
  bytes_cast = rw bytes_back (record { sfits = omega (arith, product_small x y h.0 h.1) })

  pub bytes_product : Product x y (x64 (x32 (x32 x *ℤ x32 y)))
  bytes_product = rw (to_z-of_z bytes_cast, bytes_back) (refl, omega (arith, product_small x y h.0 h.1))

pub cast_fits : (x : ℤ) → mag x ≤ 65536 → SFits w64 (x32 x)
cast_fits x h = rw (read_back x h) (record { sfits = omega arith })

module _ (x y : ℤ) (h : (mag x ≤ 65536) × (mag y ≤ 65536)) where
  halves_are : x64 (x32 x) *ℤ x64 (x32 y) ≡ x *ℤ y
  halves_are = rw (to_z-of_z (cast_fits x h.0), to_z-of_z (cast_fits y h.1), read_back x h.0, read_back y h.1)

  pub halves_fit : SFits w64 (x64 (x32 x) *ℤ x64 (x32 y))
  halves_fit = rw halves_are (record { sfits = omega (arith, product_small x y h.0 h.1) })

  pub halves_product : Product x y (x64 (x64 (x32 x) *ℤ x64 (x32 y)))
  halves_product = rw (to_z-of_z halves_fit, halves_are) (refl, omega (arith, product_small x y h.0 h.1))

-- of a negated factor the product is negated
pub *ℤ-directed : (t : Bool) (x y : ℤ) → x *ℤ directed t y ≡ directed t (x *ℤ y)
*ℤ-directed false x y = refl
*ℤ-directed true x y = go y
  where
    go : (y : ℤ) → x *ℤ neg_ℤ y ≡ neg_ℤ (x *ℤ y)
    go (pos zero) = *ℤ-zero x ∙ sym (ap neg_ℤ (*ℤ-zero x))
    go (pos (suc n)) = *ℤ-negsuc x n
    go (negsuc n) = sym (ap neg_ℤ (*ℤ-negsuc x n) ∙ neg_ℤ-neg_ℤ (x *ℤ pos (suc n)))

-- ---- the negation

pub mag_neg : (z : ℤ) → mag (neg_ℤ z) ≤ suc (mag z)
mag_neg (pos n) = omega (arith, mag_neg_pos n)
mag_neg (negsuc n) = omega arith

module _ (w : Width) (z : ℤ) (room : suc (mag z) < 2 ^ hbits w) where
  pub bits_back : to_z w (of_z w z) ≡ z
  bits_back = to_z-of_z (record { sfits = omega (arith, room) })

  pub negation_fits : SFits w (pos 0 -ℤ to_z w (of_z w z))
  negation_fits = rw (bits_back, +ℤ_idl) (record { sfits = omega (arith, room, mag_neg z) })

  pub negation_is : to_z w (of_z w (pos 0 -ℤ to_z w (of_z w z))) ≡ neg_ℤ z
  negation_is = to_z-of_z negation_fits ∙ rw (bits_back, +ℤ_idl)

pub long_back : (z : ℤ) → mag z < 0x400000000 → x64 z ≡ z
long_back z small = bits_back w64 z (omega arith)

-- ---- the wrapping sums and differences, of what is reduced first or not, as `plus`

pub added : (E sum n r : ℕ) → r ≡ (sum + n) % 256 ^ E → r ≡ plus E sum (pos n)
unfolding plus mod_z
added E sum n r q = q ∙ sym (add-mod-mod sum n (256 ^ E))

pub taken : (E sum n r : ℕ) → r < 256 ^ E → (r + n) % 256 ^ E ≡ sum → r ≡ plus E sum (neg_ℤ (pos n))
taken E sum n r h e =
    sym (plus_nil E r h) ∙ ap (plus E r) (sym (+ℤ_invr (pos n))) ∙ sym (plus-plus E r (pos n) (neg_ℤ (pos n)))
    ∙ ap (λ (y : ℕ). plus E y (neg_ℤ (pos n))) (sym (added E r n _ refl) ∙ e)

pub reduced : (E sum n : ℕ) → (sum + n % 256 ^ E) % 256 ^ E ≡ (sum + n) % 256 ^ E
reduced E sum n = add-mod-mod sum n (256 ^ E)
