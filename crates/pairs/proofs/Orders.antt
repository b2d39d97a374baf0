-- Two outer products of different widths on tiles that share rows: on known contents the two orders end differently. Assumes
-- nothing.
use mathlib.Core.Path.{◌≡◌, refl, sym, ap, ◌∙◌}
use mathlib.Core.Bool.{cond}
use mathlib.Core.Logic.{◌≢◌, ◌⊎◌, inl, inr}
use mathlib.Core.List.{List}
use Prim.Native.Nat.{ℕ, ◌/◌, ◌%◌, ◌<◌}
use native.Mathlib.Omega.{arith}
use lib.IntN.{ℤ}
use lib.ListN.{length}
use borrow.Author.Tests.{eqb-false}
use Rattle.storage.specs.Bytes.{at}
use Rattle.storage.specs.Tile.{element, add_to}
use Rattle.storage.proofs.Laws.{Good, Inside, held}
use Rattle.storage.proofs.Tiles.{Sized}
use Rattle.storage.proofs.Sizes.{Length, sized4, sized8}
use Rattle.outer.specs.declared.OuterProduct.{OuterProduct}
use Rattle.outer.specs.Products.{dot, Shaped, bytes32, halves64, halves32, Ready}
use Rattle.outer.proofs.Shapes.{of_eight}
use Rattle.pairs.proofs.Known.{filled, known_sum, word-filled, sum-known}
use Rattle.pairs.proofs.Carries.{sum_narrow_first, sum_wide_first, narrow_first, wide_first, in_narrow, in_wide, carried}

products_narrow : {E K : ℕ} → Shaped E K → E ≡ 4 → (K ≡ 4) ⊎ (K ≡ 2)
products_narrow bytes32 e = inl refl
products_narrow halves64 e = absurd (let q : 8 ≡ 4 = e in omega arith)
products_narrow halves32 e = inr refl

-- every byte of a list is y
abbrev pub AllAre : ℕ → List ℕ → Type 0
AllAre y l = (q : ℕ) → q < length l → at l q ≡ y

-- so an element of it
element-filled : {E vb : ℕ} (t row col y : ℕ) → Sized E vb → (za : List ℕ) → Good vb vb za → Inside E vb t vb row col → AllAre y za
    → element E vb t za row col ≡ filled E y
unfolding element
element-filled {E} {vb} t row col y s za k i h = word-filled E y _ za (λ j l. h _ (held E vb vb s t row col za k i j l))

-- ---- by the shape of the 32-bit word
module _ (vb : ℕ) (l : Length vb) (z p za : List ℕ) (good : Good vb vb za) (ones : AllAre 1 z) (set : AllAre 255 p) where
  module _ {K : ℕ} (o w : OuterProduct) (so : Shaped 4 K) (sw : Shaped 8 4) (ready-o : Ready 4 vb o z p) (ready-w : Ready 8 vb w z p)
      (e : w.tile.0 % 4 ≡ o.tile.0) (full : AllAre (cond o.subtract 0 255) za) where
    abbrev t : ℕ
    t = o.tile.0

    abbrev u : ℕ
    u = w.tile.0

    abbrev f : ℕ → ℕ → ℤ
    f = dot 4 K vb o z p

    abbrev g : ℕ → ℕ → ℤ
    g = dot 8 4 vb w z p

    abbrev y : ℕ
    y = cond o.subtract 0 255

    h : u < 8
    h = ready-w.tile

    narrow_held : (col : ℕ) → col < 2 → element 4 vb t za (u / 4) col ≡ filled 4 y
    narrow_held col k = element-filled t (u / 4) col y (sized4 vb l) za good (in_narrow vb t u l e h col k) full

    narrow_sum : (col : ℕ) → col < 2 → f (u / 4) col ≡ known_sum 4 K o.subtract
    narrow_sum col k = sum-known so o z p ready-o ones set (u / 4) col (omega (arith, h)) (omega arith)

    wide_sum : g 0 0 ≡ known_sum 8 4 w.subtract
    wide_sum = sum-known sw w z p ready-w ones set 0 0 (omega arith) (omega arith)

    abbrev c : ℤ
    c = known_sum 4 K o.subtract

    abbrev d : ℤ
    d = known_sum 8 4 w.subtract

    after_narrow : element 8 vb u (add_to 8 vb u g (add_to 4 vb t f za)) 0 0 ≡ sum_narrow_first (filled 4 y) (filled 4 y) c c d
    after_narrow =
        narrow_first vb t u l e h f g za good
        ∙ rw (narrow_held 0 (omega arith), narrow_held 1 (omega arith), narrow_sum 0 (omega arith), narrow_sum 1 (omega arith), wide_sum)

    after_wide : element 8 vb u (add_to 4 vb t f (add_to 8 vb u g za)) 0 0 ≡ sum_wide_first (filled 8 y) c c d
    after_wide =
        wide_first vb t u l e h f g za good
        ∙ rw (element-filled u 0 0 y (sized8 vb l) za good (in_wide vb t u l e h) full, narrow_sum 0 (omega arith), narrow_sum 1 (omega arith), wide_sum)

    apart : (K ≡ 4) ⊎ (K ≡ 2) → add_to 8 vb u g (add_to 4 vb t f za) ≢ add_to 4 vb t f (add_to 8 vb u g za)
    apart k q =
        eqb-false _ _ (carried K k o.subtract w.subtract)
        (sym after_narrow ∙ ap (λ (zb : List ℕ). element 8 vb u zb 0 0) q ∙ after_wide)

  -- ---- a 32-bit and a 64-bit word
  pub orders_apart : {E K F L : ℕ} (o w : OuterProduct) → Shaped E K → Shaped F L → Ready E vb o z p → Ready F vb w z p → E ≡ 4 → F ≡ 8
      → w.tile.0 % 4 ≡ o.tile.0 → AllAre (cond o.subtract 0 255) za
      → add_to F vb w.tile.0 (dot F L vb w z p) (add_to E vb o.tile.0 (dot E K vb o z p) za)
      ≢ add_to E vb o.tile.0 (dot E K vb o z p) (add_to F vb w.tile.0 (dot F L vb w z p) za)
  orders_apart o w so sw ready-o ready-w n e s full =
      let (x, k) = of_eight sw e in
      rw (n, e, k) (apart o w (rw n at so) (rw (e, k) at sw) (rw n at ready-o) (rw e at ready-w) s full (products_narrow so n))
