-- Tiles of ZA (document 01, "Storage"): where an element lies, what adding to a tile leaves, and clearing rows.
use Rattle.std.specs.Prelude.{Bool, cond, List, ℕ, ◌+◌, ◌*◌, ◌/◌, ◌%◌, ◌^◌, eqb, ℤ}
use Rattle.storage.specs.Bytes.{Store, at, byte_of, word}
use Rattle.storage.specs.Modulo.{plus}
use Rattle.storage.specs.Change.{change}

-- the byte at which element (row, col) of tile t starts; elements of E bytes, rows of vb bytes
unfoldable pub start : ℕ → ℕ → ℕ → ℕ → ℕ → ℕ
start E vb t row col = (row * E + t) * vb + col * E

-- the value of element (row, col) of tile t
unfoldable pub element : ℕ → ℕ → ℕ → List ℕ → ℕ → ℕ → ℕ
element E vb t za row col = word E (at za) (start E vb t row col)

-- row r of ZA is one of tile t's: every E-th from t on
abbrev pub in_tile : ℕ → ℕ → ℕ → Bool
in_tile E t r = eqb (r % E) t

-- To each element (row, col) of tile t comes f row col. The byte at p, in row p / vb of ZA, stays where that row is none
-- of the tile's; else it is byte p % E of the element that starts at p / E * E, with f of its row and column added
unfoldable pub add_at : ℕ → ℕ → ℕ → (ℕ → ℕ → ℤ) → Store → Store
add_at E vb t f m p =
    cond (in_tile E t (p / vb))
    (byte_of (p % E) (plus E (word E m (p / E * E)) (f (p / vb / E) (p % vb / E))))
    (m p)

unfoldable pub add_to : ℕ → ℕ → ℕ → (ℕ → ℕ → ℤ) → List ℕ → List ℕ
add_to E vb t f za = change (add_at E vb t f) za

-- row r is one of 64-bit tile i's for a bit i of the mask
abbrev pub masked : ℕ → ℕ → Bool
masked mask r = eqb (mask / 2 ^ (r % 8) % 2) 1

-- ZA with the rows of the mask's 64-bit tiles cleared
unfoldable pub clear_at : ℕ → ℕ → Store → Store
clear_at vb mask m p = cond (masked mask (p / vb)) 0 (m p)

unfoldable pub clear : ℕ → ℕ → List ℕ → List ℕ
clear vb mask za = change (clear_at vb mask) za
