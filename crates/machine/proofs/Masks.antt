-- What a run has cleared, as a byte: bit i stands for the rows of 64-bit tile i. Assumes nothing.
use mathlib.Core.Path.{◌≡◌, refl, sym, ap, ◌∙◌}
use mathlib.Core.Bool.{Bool, true, false, not, ◌&&◌, ◌||◌}
use mathlib.Core.Logic.{◌⊎◌, inl, inr}
use mathlib.Core.List.{[], ◌∷◌}
use mathlib.Core.Option.{Option, none, some}
use Prim.Native.Nat.{ℕ, zero, suc, ◌+◌, ◌-◌, ◌/◌, ◌%◌, ◌^◌, ◌≤◌, ◌<◌}
use native.Mathlib.Omega.{arith}
use lib.Bits.{bit_or, or_shr, or_mod}
use lib.Dec.{eqb}
use borrow.Author.Tests.{eqb-true, eqb-false, eq-eqb}
use Rattle.isa.specs.Row.{every_below}
use Rattle.isa.specs.Refusals.{first_failure, or_else}
use Rattle.isa.specs.Answers.{describe}
use Rattle.isa.specs.declared.Refusal.{Refusal}
use Rattle.isa.proofs.Refusals.{failure-++}
use Rattle.isa.proofs.Tests.{below, all_below}
use Rattle.isa.proofs.Rows.{both}
use Rattle.storage.specs.Tile.{in_tile, masked}
use Rattle.storage.proofs.Sizes.{Length}
use Rattle.machine.specs.declared.Bench.{Bench}
use Rattle.machine.specs.Instructions.{TileName, tile_named}
use Rattle.machine.specs.Execution.{word_tests}
use Rattle.machine.specs.Clearing.{tile_cleared, cleared_test}
use Rattle.machine.specs.Lists.{next_tests}
use Rattle.machine.proofs.Acts.{Width, narrow, wide}

-- ---- a mask of all: test 14 refuses nothing
pub all_rows : (r : ℕ) → masked 255 r ≡ true
all_rows r = below (λ k. eqb (255 / 2 ^ k % 2) 1) 8 (r % 8) refl (omega arith)

all_cleared : (vb : ℕ) (n : Option TileName) → tile_cleared vb (masked 255) n ≡ true
all_cleared vb none = refl
all_cleared vb (some n) = all_below _ vb (λ r k. go (in_tile n.E n.tile r) r)
  where
    go : (b : Bool) (r : ℕ) → not b || masked 255 r ≡ true
    go true r = all_rows r
    go false r = refl

or_none : (o : Option Refusal) → or_else o none ≡ o
or_none none = refl
or_none (some r) = refl

-- so a word is admitted by 7 to 10
pub tested_singly : (b : Bench) (w : ℕ) → first_failure (next_tests b (masked 255) w) ≡ first_failure (word_tests b w)
tested_singly b w =
    failure-++ (word_tests b w) (cleared_test b.vb (masked 255) (describe w) ∷ [])
    ∙ rw (all_cleared b.vb (tile_named (describe w))) (or_none (first_failure (word_tests b w)))

-- ---- two masks in one
one_bit : (x y : ℕ) → x < 2 → y < 2 → eqb (bit_or x y) 1 ≡ eqb x 1 || eqb y 1
one_bit zero zero h k = refl
one_bit zero (suc zero) h k = refl
one_bit (suc zero) zero h k = refl
one_bit (suc zero) (suc zero) h k = refl
one_bit (suc (suc x)) y h k = absurd (omega arith)
one_bit zero (suc (suc y)) h k = absurd (omega arith)
one_bit (suc zero) (suc (suc y)) h k = absurd (omega arith)

pub masked_or : (a b r : ℕ) → masked (bit_or a b) r ≡ masked a r || masked b r
masked_or a b r =
    let k = 2 ^ (r % 8) in
    ap (λ (x : ℕ). eqb (x % 2) 1) (or_shr a b (r % 8)) ∙ ap (λ (x : ℕ). eqb x 1) (or_mod (a / k) (b / k) 1)
    ∙ one_bit (a / k % 2) (b / k % 2) (omega arith) (omega arith)

pub or-false : (a : Bool) → a || false ≡ a
or-false true = refl
or-false false = refl

-- ---- the bits of a tile: of a 64-bit tile its own, of a 32-bit tile t those of 64-bit tiles t and t + 4
abbrev pub has_bit : ℕ → ℕ → Bool
has_bit mask k = eqb (mask / 2 ^ k % 2) 1

-- of eight rows, tile t has row t and row t + (8 - E), which are one for 64-bit tiles
record Eight (E t : ℕ) : Type 0 where
  first : (t % E ≡ t) × (t % 8 ≡ t)
  last : ((t + (8 - E)) % E ≡ t) × ((t + (8 - E)) % 8 ≡ t + (8 - E))
  only : (r : ℕ) → r % E ≡ t → (r % 8 ≡ t) ⊎ (r % 8 ≡ t + (8 - E))

eight : {E : ℕ} (t : ℕ) → Width E → t < E → Eight E t
eight t narrow h = record {
  first = (omega arith, omega arith);
  last = (omega arith, omega arith);
  only = λ r e. go r e (eqb (r % 8) t) refl;
}
  where
    go : (r : ℕ) → r % 4 ≡ t → (b : Bool) → eqb (r % 8) t ≡ b → (r % 8 ≡ t) ⊎ (r % 8 ≡ t + 4)
    go r e true f = inl (eqb-true (r % 8) t f)
    go r e false f = inr (omega (arith, eqb-false (r % 8) t f))
eight t wide h = record {
  first = (omega arith, omega arith);
  last = (omega arith, omega arith);
  only = λ r e. inl e;
}

pub tile_rows : {E : ℕ} (t : ℕ) → Width E → t < E → (E ≤ 8) × ((t < 8) × (t + (8 - E) < 8))
tile_rows t narrow h = (omega arith, (omega arith, omega arith))
tile_rows t wide h = (omega arith, (omega arith, omega arith))

pub both_or : (a b : Bool) → (a ≡ true → b ≡ true) → (b ≡ true → a ≡ true) → a ≡ b
both_or true b f g = sym (f refl)
both_or false true f g = g refl
both_or false false f g = refl

pub tile_bits_lem : {E : ℕ} (vb mask t : ℕ) → Length vb → Width E → t < E
    → tile_cleared vb (masked mask) (some (record { E = E; tile = t })) ≡ has_bit mask t && has_bit mask (t + (8 - E))
tile_bits_lem {E} vb mask t l w h = both_or _ _ to from
  where
    rows : Eight E t
    rows = eight t w h

    -- a row of the tile is cleared
    bit_at : (r : ℕ) → r < vb → r % E ≡ t → every_below (λ r. not (in_tile E t r) || masked mask r) vb ≡ true → masked mask r ≡ true
    bit_at r k e a = rw (eq-eqb (r % E) t e) at (below _ vb r a k)

    to : every_below (λ r. not (in_tile E t r) || masked mask r) vb ≡ true → has_bit mask t && has_bit mask (t + (8 - E)) ≡ true
    to a =
        let p = bit_at t (omega (arith, tile_rows t w h)) rows.first.0 a in
        let q = bit_at (t + (8 - E)) (omega (arith, tile_rows t w h)) rows.last.0 a in
        rw (rw rows.first.1 at p) (rw rows.last.1 at q)

    from : has_bit mask t && has_bit mask (t + (8 - E)) ≡ true → every_below (λ r. not (in_tile E t r) || masked mask r) vb ≡ true
    from a = let (p, q) = both (has_bit mask t) (has_bit mask (t + (8 - E))) a in all_below _ vb (λ r k. go r (in_tile E t r) refl p q)
      where
        in_bits : (r : ℕ) → (r % 8 ≡ t) ⊎ (r % 8 ≡ t + (8 - E)) → has_bit mask t ≡ true → has_bit mask (t + (8 - E)) ≡ true → masked mask r ≡ true
        in_bits r (inl e) p q = rw e p
        in_bits r (inr e) p q = rw e q

        go : (r : ℕ) (b : Bool) → in_tile E t r ≡ b → has_bit mask t ≡ true → has_bit mask (t + (8 - E)) ≡ true → not b || masked mask r ≡ true
        go r true e p q = in_bits r (rows.only r (eqb-true (r % E) t e)) p q
        go r false e p q = refl
