-- Rows of an encoding table: segments from bit 31 down, each a fixed pattern or a named field.
use Rattle.std.specs.Prelude.{Bool, true, cond, ◌&&◌, List, [], ◌∷◌, ℕ, zero, suc, ◌+◌, ◌*◌, ◌/◌, ◌%◌, ◌^◌, eqb}

-- every test of a list holds
abbrev pub every : List Bool → Bool
every [] = true
every (t ∷ ts) = t && every ts

-- a test holds of every number below n
abbrev pub every_below : (ℕ → Bool) → ℕ → Bool
every_below f zero = true
every_below f (suc n) = f n && every_below f n

-- the names of the fields, as Arm's pages have them
pub data Name : Type 0 where
  u0 u1 S ZAda Zn Zm Pn Pm N M mask : Name

abbrev pub index : Name → ℕ
index u0 = 0
index u1 = 1
index S = 2
index ZAda = 3
index Zn = 4
index Zm = 5
index Pn = 6
index Pm = 7
index N = 8
index M = 9
index mask = 10

abbrev pub same : Name → Name → Bool
same m n = eqb (index m) (index n)

-- `fixed k v`: k bits that are v; `field n k`: k bits that are the field n
pub data Segment : Type 0 where
  fixed : ℕ → ℕ → Segment
  field : Name → ℕ → Segment

abbrev pub Row : Type 0
Row = List Segment

-- a value for each name
abbrev pub Fields : Type 0
Fields = Name → ℕ

-- how many bits a row has
abbrev pub size : Row → ℕ
size [] = 0
size (fixed k v ∷ r) = k + size r
size (field n k ∷ r) = k + size r

-- the k bits of w that stand above its lowest s
abbrev pub bits : ℕ → ℕ → ℕ → ℕ
bits s k w = w / 2 ^ s % 2 ^ k

-- the word that a row and its fields make
abbrev pub word_of : Row → Fields → ℕ
word_of [] f = 0
word_of (fixed k v ∷ r) f = v * 2 ^ size r + word_of r f
word_of (field n k ∷ r) f = f n * 2 ^ size r + word_of r f

-- the fields of a word by a row; a name that the row lacks has 0
abbrev pub field_of : Row → ℕ → Fields
field_of [] w n = 0
field_of (fixed k v ∷ r) w n = field_of r w n
field_of (field m k ∷ r) w n = cond (same m n) (bits (size r) k w) (field_of r w n)

-- a word matches a row where it has each of the row's fixed patterns; bits above the row's do not count
abbrev pub tests : Row → ℕ → List Bool
tests [] w = []
tests (fixed k v ∷ r) w = eqb (bits (size r) k w) v ∷ tests r w
tests (field n k ∷ r) w = tests r w

abbrev pub matches : Row → ℕ → Bool
matches r w = every (tests r w)
