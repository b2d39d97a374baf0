-- What a legal vector length gives: rows of whole elements, and a place in ZA for each. Assumes nothing.
use mathlib.Core.Path.{◌≡◌, refl}
use mathlib.Core.Bool.{Bool, true, false, ◌||◌}
use mathlib.Core.List.{List, [], ◌∷◌}
use Prim.Native.Nat.{ℕ, ◌+◌, ◌*◌, ◌/◌, ◌%◌, ◌≤◌, ◌<◌}
use native.Mathlib.Nat.{mul-le-mul, mul-le-mul_right, div-mul-le_self}
use native.Mathlib.Omega.{arith}
use lib.Arith.{digits_lt}
use lib.Dec.{eqb}
use lib.ListN.{length}
use borrow.Author.Tests.{eqb-true}
use Rattle.storage.specs.Sizes.{legal, legal_below, za_size}
use Rattle.storage.specs.Bytes.{at}
use Rattle.storage.proofs.Tiles.{Sized}
use Rattle.storage.proofs.Laws.{Good, Inside}

pub record Length (vb : ℕ) : Type 0 where
  pub sixteens : vb % 16 ≡ 0
  pub least : 16 ≤ vb
  pub most : vb ≤ 256

-- one of the five lengths, or a shorter list of them
one_more : (vb n : ℕ) (others : Bool) → (others ≡ true → Length vb) → Length n → others || eqb vb n ≡ true → Length vb
one_more vb n true f l h = f refl
one_more vb n false f l h = rw (eqb-true vb n h) l

pub legal-length : (vb : ℕ) → legal vb ≡ true → Length vb
legal-length vb =
    one_more vb 256 _
    (one_more vb 128 _
    (one_more vb 64 _
    (one_more vb 32 _
    (λ e. rw (eqb-true vb 16 e) (omega arith))
    (omega arith))
    (omega arith))
    (omega arith))
    (omega arith)

-- the five lengths, and no other: a legal length is at most 256
pub five_lengths : legal_below 257 ≡ 256 ∷ 128 ∷ 64 ∷ 32 ∷ 16 ∷ []
five_lengths = refl

-- elements of 4 or of 8 bytes fill a row
abbrev pub sized4 : (vb : ℕ) → Length vb → Sized 4 vb
sized4 vb l = record { positive = omega arith; cols = vb / 4; wide = omega arith; whole = omega arith }

abbrev pub sized8 : (vb : ℕ) → Length vb → Sized 8 vb
sized8 vb l = record { positive = omega arith; cols = vb / 8; wide = omega arith; whole = omega arith }

pub za_good : (vb : ℕ) (za : List ℕ) → Length vb → length za ≡ za_size vb → ((p : ℕ) → at za p < 256) → Good vb vb za
za_good vb za l e b = record { rows = record { positive = omega arith; whole = e }; bytes = b }

-- element (row, col) of a tile, and where it lies
pub record ElementPlace (E vb t row col : ℕ) : Type 0 where
  pub inside : Inside E vb t vb row col
  pub ends : (row * E + t) * vb + (col * E + E) ≤ vb * vb
  pub small : vb * vb ≤ 65536

pub place : (E vb t row col : ℕ) → Sized E vb → Length vb → t < E → row < vb / E → col < vb / E → ElementPlace E vb t row col
place E vb t row col s l ht hr hc =
    let w : vb / E * E ≤ vb = div-mul-le_self vb E in
    let r : row * E + t < vb / E * E = digits_lt hr ht in
    let q : row * E + t < vb = omega arith in
    let c : (col + 1) * E ≤ vb / E * E = mul-le-mul_right E (omega arith) in
    record {
      inside = record { tile = ht; right = hc; below = q };
      ends = omega (arith, mul-le-mul_right vb q);
      small = mul-le-mul l.most l.most;
    }
