-- Rows that two tiles share: the first eight tell, and between two widths the tiles' numbers modulo 4. Assumes nothing.
use mathlib.Core.Path.{◌≡◌, refl}
use mathlib.Core.Bool.{Bool, beq, true, not, ◌&&◌}
use Prim.Native.Nat.{ℕ, ◌%◌, ◌<◌}
use native.Mathlib.Omega.{arith}
use lib.Dec.{eqb}
use borrow.Author.Tests.{eqb-true, eq-eqb}
use Rattle.isa.specs.Row.{every_below}
use Rattle.isa.proofs.Tests.{beq_eq, below}
use Rattle.isa.proofs.Rows.{both}
use Rattle.storage.proofs.Sizes.{Length}
use Rattle.machine.specs.Instructions.{TileName}
use Rattle.machine.proofs.Acts.{Width, narrow, wide}
use Rattle.pairs.specs.Order.{has_row, share_rows}
use Rattle.pairs.specs.Claims.{SharedRow}
use Rattle.pairs.proofs.Below.{below_some, some_below_lem}

-- ---- the first eight rows tell
eighth : {E : ℕ} → Width E → (r : ℕ) → r % 8 % E ≡ r % E
eighth narrow r = omega arith
eighth wide r = omega arith

module _ (n k : TileName) (vb : ℕ) where
  abbrev in_both : ℕ → Bool
  in_both r = has_row n r && has_row k r

  pub shared_rows : Width n.E → Width k.E → SharedRow vb n k → share_rows n k ≡ true
  shared_rows v w s =
      below_some in_both 8 (s.row % 8) (omega arith) (rw (eighth v s.row, eighth w s.row, s.of_first) s.of_second)

  pub rows_shared : Length vb → share_rows n k ≡ true → SharedRow vb n k
  rows_shared l h =
      let (r, i, t) = some_below_lem in_both 8 h in
      let (x, y) = both (has_row n r) (has_row k r) t in
      record { row = r; within = omega arith; of_first = x; of_second = y }

-- ---- between a 32-bit tile and a 64-bit one

-- a row of both gives the 32-bit tile's number
pub narrow_of : (t u vb : ℕ) → SharedRow vb (record { E = 4; tile = t }) (record { E = 8; tile = u }) → (u % 4 ≡ t) × (u < 8)
narrow_of t u vb s =
    let a = eqb-true (s.row % 4) t s.of_first in
    let b = eqb-true (s.row % 8) u s.of_second in
    (omega arith, omega arith)

pub shared_by : (t u vb : ℕ) → Length vb → u < 8 → u % 4 ≡ t → SharedRow vb (record { E = 4; tile = t }) (record { E = 8; tile = u })
shared_by t u vb l h e = record {
  row = u;
  within = omega arith;
  of_first = eq-eqb (u % 4) t e;
  of_second = eq-eqb (u % 8) u (omega arith);
}

pub shared_back : (n k : TileName) (vb : ℕ) → SharedRow vb n k → SharedRow vb k n
shared_back n k vb s = record { row = s.row; within = s.within; of_first = s.of_second; of_second = s.of_first }

-- ---- as the code asks
abbrev tile : ℕ → ℕ → TileName
tile E t = record { E = E; tile = t }

-- of tiles of two widths, by trying all numbers
abbrev agrees : ℕ → ℕ → ℕ → ℕ → Bool
agrees E F t u = beq (share_rows (tile E t) (tile F u)) (eqb (t % 4) (u % 4))

by_trying : (E F t u : ℕ) → every_below (λ t. every_below (agrees E F t) F) E ≡ true → t < E → u < F
    → share_rows (tile E t) (tile F u) ≡ eqb (t % 4) (u % 4)
by_trying E F t u c h k = beq_eq _ _ (below (agrees E F t) F u (below (λ t. every_below (agrees E F t) F) E t c h) k)

pub tiles_clash : {E F : ℕ} (t u : ℕ) → Width E → Width F → t < E → u < F
    → not (eqb E F) && share_rows (tile E t) (tile F u) ≡ not (eqb E F) && eqb (t % 4) (u % 4)
tiles_clash t u narrow narrow h k = refl
tiles_clash t u narrow wide h k = by_trying 4 8 t u refl h k
tiles_clash t u wide narrow h k = by_trying 8 4 t u refl h k
tiles_clash t u wide wide h k = refl
