-- Names of ZA's tiles, the rows that a list of them holds, and which list a ZERO mask asks for (document 02, C-12). Rows are
-- those of document 01, as execution has them: `in_tile`, and `masked` for the rows that ZERO clears.
use Rattle.std.specs.Prelude.{◌≡◌, Bool, true, false, not, cond, ◌&&◌, ◌||◌, List, [], ◌∷◌, map, ℕ, ◌/◌, ◌%◌, ◌≤◌, eqb, ltb, length}
use Rattle.isa.specs.Row.{every, every_below}
use Rattle.storage.specs.Tile.{in_tile, masked}
use Rattle.names.specs.declared.TileName.{TileName}

-- ---- names, by the bytes of an element and the tile's number
abbrev pub za : ℕ → ℕ → TileName
za bytes tile = record { bytes = bytes; tile = record { 0 = tile } }

-- za; za0.h and za1.h; za0.s to za3.s; za0.d to za7.d: here by their lowest 64-bit tile, and the larger first
abbrev pub names : List TileName
names =
    za 1 0 ∷ za 2 0 ∷ za 4 0 ∷ za 8 0
    ∷ za 2 1 ∷ za 4 1 ∷ za 8 1
    ∷ za 4 2 ∷ za 8 2
    ∷ za 4 3 ∷ za 8 3
    ∷ za 8 4 ∷ za 8 5 ∷ za 8 6 ∷ za 8 7
    ∷ []

abbrev pub same_name : TileName → TileName → Bool
same_name j k = eqb j.bytes k.bytes && eqb j.tile.0 k.tile.0

-- k is one of these
abbrev pub among : TileName → List TileName → Bool
among k [] = false
among k (j ∷ js) = same_name k j || among k js

abbrev pub is_name : TileName → Bool
is_name k = among k names

-- ---- rows
abbrev pub holds : TileName → ℕ → Bool
holds k r = in_tile k.bytes k.tile.0 r

-- some name of a list holds row r
abbrev pub held : List TileName → ℕ → Bool
held [] r = false
held (k ∷ ks) r = holds k r || held ks r

-- a list of names that holds the rows which ZERO with this mask clears, and no other row
pub record Covers (mask : ℕ) (ks : List TileName) : Type 0 where
  pub names_all : every (map is_name ks) ≡ true
  pub exactly : (r : ℕ) → held ks r ≡ masked mask r

-- ---- order: 64-bit tile t has row t and every eighth after it
abbrev pub lowest_of : List ℕ → TileName → ℕ
lowest_of [] k = 0
lowest_of (t ∷ ts) k = cond (holds k t) t (lowest_of ts k)

-- the lowest 64-bit tile that a name holds
abbrev pub lowest : TileName → ℕ
lowest k = lowest_of (0 ∷ 1 ∷ 2 ∷ 3 ∷ 4 ∷ 5 ∷ 6 ∷ 7 ∷ []) k

-- each name's is below that of every name behind it
abbrev pub rising : List TileName → Bool
rising [] = true
rising (k ∷ ks) = every (map (λ (j : TileName). ltb (lowest k) (lowest j)) ks) && rising ks

-- what document 02 asks of a mask's list: no list of names that covers the mask has fewer
pub record Shortest (mask : ℕ) (ks : List TileName) : Type 0 where
  pub covers : Covers mask ks
  pub least : (js : List TileName) → Covers mask js → length ks ≤ length js
  pub order : rising ks ≡ true

-- ---- that list, by a rule: one name holds another or they share no row, so that it is made of the largest inside the mask

-- ZERO clears every row that a name holds; eight rows tell, as a name that holds row r holds row r + 8
abbrev pub inside : ℕ → TileName → Bool
inside mask k = every_below (λ (r : ℕ). not (holds k r) || masked mask r) 8

-- the name that holds a name's rows and as many more
abbrev pub wider : TileName → TileName
wider k = za (k.bytes / 2) (k.tile.0 % (k.bytes / 2))

abbrev pub largest : ℕ → TileName → Bool
largest mask k = inside mask k && (eqb k.bytes 1 || not (inside mask (wider k)))

abbrev pub chosen : (TileName → Bool) → List TileName → List TileName
chosen f [] = []
chosen f (k ∷ ks) = cond (f k) (k ∷ chosen f ks) (chosen f ks)

unfoldable pub names_of : ℕ → List TileName
names_of mask = chosen (largest mask) names
