-- A 64-bit element and its two halves, to which a 32-bit and a 64-bit word add in either order: on known sources the carry, or
-- the borrow, out of the low half is lost in one order alone. Assumes nothing.
use mathlib.Core.Path.{◌≡◌, refl, sym, ap, ap₂, ◌∙◌}
use mathlib.Core.Bool.{Bool, true, false, cond}
use mathlib.Core.Logic.{◌⊎◌, inl, inr}
use mathlib.Core.List.{List}
use Prim.Native.Nat.{ℕ, ◌+◌, ◌*◌, ◌/◌, ◌%◌, ◌^◌, ◌<◌}
use native.Mathlib.Nat.{zero-add}
use native.Mathlib.Omega.{arith}
use lib.Dec.{eqb}
use lib.IntN.{ℤ}
use Rattle.storage.specs.Bytes.{word}
use Rattle.storage.specs.Modulo.{mod_z, plus}
use Rattle.storage.specs.Tile.{element, add_to}
use Rattle.storage.proofs.Laws.{Good, Inside, add_to_good, element_add, element_lt, element-halves}
use Rattle.storage.proofs.Sizes.{Length, sized4, sized8}
use Rattle.pairs.proofs.Known.{filled, known_sum}

-- ---- the element, by what it held and by what comes to each half and to the whole
abbrev pub sum_narrow_first : ℕ → ℕ → ℤ → ℤ → ℤ → ℕ
sum_narrow_first low high c c' d = plus 8 (plus 4 low c + 256 ^ 4 * plus 4 high c') d

abbrev pub sum_wide_first : ℕ → ℤ → ℤ → ℤ → ℕ
sum_wide_first x c c' d = let y = plus 8 x d in plus 4 (y % 256 ^ 4) c + 256 ^ 4 * plus 4 (y / 256 ^ 4) c'

-- element (0, 0) of 64-bit tile u, whose row 32-bit tile t has
module _ (vb t u : ℕ) (l : Length vb) (e : u % 4 ≡ t) (h : u < 8) where
  abbrev low : List ℕ → ℕ
  low za = element 4 vb t za (u / 4) 0

  abbrev high : List ℕ → ℕ
  high za = element 4 vb t za (u / 4) 1

  halves : (za : List ℕ) → element 8 vb u za 0 0 ≡ low za + 256 ^ 4 * high za
  halves za = element-halves vb u 0 0 za ∙ rw (e, zero-add)

  pub in_narrow : (col : ℕ) → col < 2 → Inside 4 vb t vb (u / 4) col
  in_narrow col k = record { tile = omega arith; right = omega arith; below = omega arith }

  pub in_wide : Inside 8 vb u vb 0 0
  in_wide = record { tile = h; right = omega arith; below = omega arith }

  module _ (f g : ℕ → ℕ → ℤ) (za : List ℕ) (k : Good vb vb za) where
    add_narrow : (zb : List ℕ) → Good vb vb zb
        → element 8 vb u (add_to 4 vb t f zb) 0 0 ≡ plus 4 (low zb) (f (u / 4) 0) + 256 ^ 4 * plus 4 (high zb) (f (u / 4) 1)
    add_narrow zb j =
        halves (add_to 4 vb t f zb)
        ∙ ap₂ (λ (x y : ℕ). x + 256 ^ 4 * y)
        (element_add 4 vb vb (sized4 vb l) t (u / 4) 0 zb j (in_narrow 0 (omega arith)) f)
        (element_add 4 vb vb (sized4 vb l) t (u / 4) 1 zb j (in_narrow 1 (omega arith)) f)

    pub narrow_first : element 8 vb u (add_to 8 vb u g (add_to 4 vb t f za)) 0 0 ≡ sum_narrow_first (low za) (high za) (f (u / 4) 0) (f (u / 4) 1) (g 0 0)
    narrow_first =
        element_add 8 vb vb (sized8 vb l) u 0 0 (add_to 4 vb t f za) (add_to_good 4 vb vb (sized4 vb l) t f za k) in_wide g
        ∙ ap (λ (x : ℕ). plus 8 x (g 0 0)) (add_narrow za k)

    pub wide_first : element 8 vb u (add_to 4 vb t f (add_to 8 vb u g za)) 0 0 ≡ sum_wide_first (element 8 vb u za 0 0) (f (u / 4) 0) (f (u / 4) 1) (g 0 0)
    wide_first =
        let zb = add_to 8 vb u g za in
        let j = add_to_good 8 vb vb (sized8 vb l) u g za k in
        let s : low zb + 256 ^ 4 * high zb ≡ plus 8 (element 8 vb u za 0 0) (g 0 0) =
        sym (halves zb) ∙ element_add 8 vb vb (sized8 vb l) u 0 0 za k in_wide g in
        let b : low zb < 256 ^ 4 = element_lt 4 vb t (u / 4) 0 zb j.bytes in
        let x : low zb ≡ plus 8 (element 8 vb u za 0 0) (g 0 0) % 256 ^ 4 = rw (← s) (omega arith) in
        let y : high zb ≡ plus 8 (element 8 vb u za 0 0) (g 0 0) / 256 ^ 4 = rw (← s) (omega arith) in
        add_narrow zb j ∙ ap₂ (λ (x y : ℕ). plus 4 x (f (u / 4) 0) + 256 ^ 4 * plus 4 y (f (u / 4) 1)) x y

-- ---- on known sources
abbrev Differs : ℕ → Bool → Bool → Type 0
Differs K s t =
    let y : ℕ = cond s 0 255 in
    let c = known_sum 4 K s in
    let d = known_sum 8 4 t in
    eqb (sum_narrow_first (filled 4 y) (filled 4 y) c c d) (sum_wide_first (filled 8 y) c c d) ≡ false

pub carried : (K : ℕ) → (K ≡ 4) ⊎ (K ≡ 2) → (s t : Bool) → Differs K s t
unfolding plus mod_z word
carried K (inl e) s t = rw e (four s t)
  where
    four : (s t : Bool) → Differs 4 s t
    four true true = refl
    four true false = refl
    four false true = refl
    four false false = refl
carried K (inr e) s t = rw e (two s t)
  where
    two : (s t : Bool) → Differs 2 s t
    two true true = refl
    two true false = refl
    two false true = refl
    two false false = refl
