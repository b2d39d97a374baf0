-- A row by two numbers: a word matches it exactly when its bits under the row's mask are those of the row's word without
-- fields. Assumes nothing.
use mathlib.Core.Path.{◌≡◌, ◌∙◌, sym, ap, ap₂, refl}
use mathlib.Core.Bool.{Bool, true, false, ◌&&◌}
use mathlib.Core.List.{[], ◌∷◌}
use Prim.Native.Nat.{ℕ, ◌+◌, ◌-◌, ◌*◌, ◌/◌, ◌%◌, ◌^◌, ◌<◌}
use native.Mathlib.Nat.{mod-eq_of_lt}
use Rattle.std.proofs.lemmas.Nat.{div-add-mod'}
use native.Mathlib.Omega.{arith}
use lib.Dec.{eqb}
use lib.Bits.{bit_and, and_le_r, and_mask, and_shr, and_mod}
use lib.Pow.{pow_pos, pow-add, high, low}
use lib.Arith.{digits_lt}
use borrow.Author.Tests.{eqb-true, eqb-false, eq-eqb, ltb-true}
use Rattle.isa.specs.Row.{fixed, field, Row, size, bits, matches}
use Rattle.isa.proofs.Rows.{Sound}

-- a mask of the row's fixed bits, and the row's word where every field is 0
abbrev pub mask_of : Row → ℕ
mask_of [] = 0
mask_of (fixed k v ∷ r) = (2 ^ k - 1) * 2 ^ size r + mask_of r
mask_of (field n k ∷ r) = mask_of r

abbrev pub bare : Row → ℕ
bare [] = 0
bare (fixed k v ∷ r) = v * 2 ^ size r + bare r
bare (field n k ∷ r) = bare r

mask_lt : (r : Row) → mask_of r < 2 ^ size r
mask_lt [] = omega arith
mask_lt (fixed k v ∷ r) = let p = pow_pos k in rw (pow-add 2 k (size r)) (digits_lt {q = 2 ^ k - 1} (omega arith) (mask_lt r))
mask_lt (field n k ∷ r) = let h = digits_lt {q = 0} (pow_pos k) (mask_lt r) in rw (pow-add 2 k (size r)) (omega arith)

bare_lt : (r : Row) → Sound r → bare r < 2 ^ size r
bare_lt [] s = omega arith
bare_lt (fixed k v ∷ r) s = rw (pow-add 2 k (size r)) (digits_lt (ltb-true _ _ s.0) (bare_lt r s.1))
bare_lt (field n k ∷ r) s = let h = digits_lt {q = 0} (pow_pos k) (bare_lt r s.1) in rw (pow-add 2 k (size r)) (omega arith)

-- two numbers are one where they are one above and in their lowest s bits
split : (s x v b : ℕ) → b < 2 ^ s → eqb x (v * 2 ^ s + b) ≡ eqb (x / 2 ^ s) v && eqb (x % 2 ^ s) b
split s x v b h = go (eqb x (v * 2 ^ s + b)) refl (eqb (x / 2 ^ s) v) refl (eqb (x % 2 ^ s) b) refl
  where
    whole : x / 2 ^ s ≡ v → x % 2 ^ s ≡ b → x ≡ v * 2 ^ s + b
    whole p q = sym (div-add-mod' x (2 ^ s)) ∙ ap₂ (λ (m n : ℕ). m * 2 ^ s + n) p q

    go : (e : Bool) → eqb x (v * 2 ^ s + b) ≡ e → (f : Bool) → eqb (x / 2 ^ s) v ≡ f → (g : Bool) → eqb (x % 2 ^ s) b ≡ g → e ≡ f && g
    go true p f q g t =
        let e = eqb-true x (v * 2 ^ s + b) p in
        let above = sym (eq-eqb (x / 2 ^ s) v (ap (λ (n : ℕ). n / 2 ^ s) e ∙ high v s h)) ∙ q in
        let below = sym (eq-eqb (x % 2 ^ s) b (ap (λ (n : ℕ). n % 2 ^ s) e ∙ low v s h)) ∙ t in
        ap₂ ◌&&◌ above below
    go false p true q true t = absurd (eqb-false x (v * 2 ^ s + b) p (whole (eqb-true _ v q) (eqb-true _ b t)))
    go false p true q false t = refl
    go false p false q g t = refl

pub by_mask : (r : Row) (w : ℕ) → Sound r → matches r w ≡ eqb (bit_and w (mask_of r)) (bare r)
by_mask [] w s = sym (eq-eqb (bit_and w 0) 0 (omega (arith, and_le_r w 0)))
by_mask (field n k ∷ r) w s = by_mask r w s.1
by_mask (fixed k v ∷ r) w s =
    let z = size r in
    let m = (2 ^ k - 1) * 2 ^ z + mask_of r in
    let above : bits z k w ≡ bit_and w m / 2 ^ z =
    sym (and_shr w m z ∙ ap (bit_and (w / 2 ^ z)) (high (2 ^ k - 1) z (mask_lt r)) ∙ and_mask (w / 2 ^ z) k) in
    let inner : bit_and w (mask_of r) < 2 ^ z = omega (arith, and_le_r w (mask_of r), mask_lt r) in
    let below : bit_and w (mask_of r) ≡ bit_and w m % 2 ^ z =
    sym (mod-eq_of_lt inner) ∙ and_mod w (mask_of r) z ∙ ap (bit_and (w % 2 ^ z)) (mod-eq_of_lt (mask_lt r) ∙ sym (low (2 ^ k - 1) z (mask_lt r)))
    ∙ sym (and_mod w m z) in
    ap₂ (λ (x : ℕ) (t : Bool). eqb x v && t) above (by_mask r w s.1 ∙ ap (λ (x : ℕ). eqb x (bare r)) below)
    ∙ sym (split z (bit_and w m) v (bare r) (bare_lt r s.1))
