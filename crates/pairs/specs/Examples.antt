-- Pairs of words, with whether their order matters; and, on the contents that tell the orders apart, what the first 64-bit element
-- that both tiles hold comes to in each order, worked out by hand. proofs/Examples.antt shows that each comes out as it says.
use Rattle.std.specs.Prelude.{Bool, true, false, List, [], ◌∷◌, ℕ, ◌+◌, ◌-◌, ◌*◌, ◌^◌}
use Rattle.storage.specs.Tile.{element}
use Rattle.pairs.specs.Order.{in_turn, order_matters, telling, modes_on}

-- ---- whether it matters
pub record Example : Type 0 where
  pub flags : ℕ
  pub first : ℕ
  pub second : ℕ
  pub matters : Bool

abbrev pub asked : ℕ → ℕ → ℕ → Bool → Example
asked flags a b matters = record { flags = flags; first = a; second = b; matters = matters }

abbrev pub examples : List Example
examples =
    -- sumopa za3.s with za7.d, in either order, and with za3.d
    asked 15 0xA0B9D783 0xA1FAD2E7 true
    ∷ asked 15 0xA1FAD2E7 0xA0B9D783 true
    ∷ asked 15 0xA0B9D783 0xA0EB9DC3 true
    -- a 2-way form on za2.s, a quarter form on za6.d; a 2-way quarter form on za3.s, a quarter form on za7.d
    ∷ asked 15 0xA1811FEA 0xA0E402CE true
    ∷ asked 15 0x800083DB 0xA1E6011F true
    -- rows apart: za3.s with za2.d and za4.d
    ∷ asked 15 0xA0B9D783 0xA0D67B12 false
    ∷ asked 15 0xA0B9D783 0xA0DE029C false
    -- one width: za3.s twice, za7.d twice, za3.d with za7.d, a word with itself
    ∷ asked 15 0xA08795B3 0x800E8393 false
    ∷ asked 15 0xA1FAD2E7 0xA1E6011F false
    ∷ asked 15 0xA0EB9DC3 0xA1FAD2E7 false
    ∷ asked 15 0xA0B9D783 0xA0B9D783 false
    -- a ZERO, and a word that is not listed
    ∷ asked 15 0xC00800FF 0xA1FAD2E7 false
    ∷ asked 15 0xA0B9D783 0xC00800FF false
    ∷ asked 15 0xA0A00008 0xA1FAD2E7 false
    -- the least flags that allow both, one too few, and flags that are none
    ∷ asked 3 0xA0B9D783 0xA1FAD2E7 true
    ∷ asked 2 0xA0B9D783 0xA1FAD2E7 false
    ∷ asked 1 0xA0B9D783 0xA1FAD2E7 false
    ∷ asked 16 0xA0B9D783 0xA1FAD2E7 false
    ∷ []

abbrev pub answered : Example → Example
answered e = asked e.flags e.first e.second (order_matters e.flags e.first e.second)

-- ---- what both orders leave
pub record TwoEnds : Type 0 where
  pub narrow : ℕ
  pub wide : ℕ
  pub tile : ℕ
  pub narrow_first : ℕ
  pub wide_first : ℕ

abbrev pub left : ℕ → ℕ → ℕ → ℕ → ℕ → TwoEnds
left narrow wide tile x y = record { narrow = narrow; wide = wide; tile = tile; narrow_first = x; wide_first = y }

-- an element by its high and its low half, and n below 0 in one of them
abbrev pub halves : ℕ → ℕ → ℕ
halves high low = high * 2 ^ 32 + low

abbrev pub below0 : ℕ → ℕ
below0 n = 2 ^ 32 - n

-- a 32-bit word brings 4 products of 1, or 2 of 257 · 257, a 64-bit word 4 of these: 4, or 132,098, and 264,196. Both halves start
-- at 2^32 - 1 where the 32-bit word adds, and at 0 where it subtracts. In one order the 64-bit word carries or borrows, in the
-- other it does not.
abbrev pub ends : List TwoEnds
ends =
    -- sumopa za3.s, umopa za7.d: 3 in each half, then 264,196 more; or 264,195 in all, then 4 more in each half
    left 0xA0B9D783 0xA1FAD2E7 7 (halves 3 264199) (halves 4 264199)
    -- umopa za2.s (2-way), smops za2.d: 132,097 in each half, then 264,196 less; or 264,197 below 0, then 132,098 more in each
    ∷ left 0xA1811FEA 0xA0D67B12 2 (halves 132096 (below0 132099)) (halves 132097 (below0 132099))
    -- smop4s za3.s, sumopa za3.d: 4 below 0 in each half, then 264,196 more; or 264,196 in all, then 4 less in each half
    ∷ left 0x800E8393 0xA0EB9DC3 3 (halves (below0 3) 264192) (halves (below0 4) 264192)
    -- smop4s za3.s (2-way), umop4s za7.d: 132,098 below 0 in each half, then 264,196 less; or 264,196 below 0, then 132,098 less in
    -- each
    ∷ left 0x800083DB 0xA1E6011F 7 (halves (below0 132098) (below0 396294)) (halves (below0 132099) (below0 396294))
    ∷ []

abbrev pub both_left : TwoEnds → TwoEnds
both_left e =
    let m = telling (modes_on 15 16) e.narrow e.wide in
    left e.narrow e.wide e.tile (element 8 16 e.tile (in_turn m e.narrow e.wide).za 0 0)
    (element 8 16 e.tile (in_turn m e.wide e.narrow).za 0 0)
