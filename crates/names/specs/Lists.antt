-- A list of up to four names as one number of 16 bits, and what the table of lists promises of each.
use Rattle.std.specs.Prelude.{◌≡◌, cond, List, [], ◌∷◌, ℕ, zero, suc, ◌+◌, ◌-◌, ◌*◌, ◌/◌, ◌%◌, ◌^◌, ◌<◌, eqb, ltb, length, get_or}
use Rattle.names.specs.declared.TileName.{TileName}
use Rattle.names.specs.Names.{za, Shortest, names_of}

-- a name as a digit: the sum of the bytes of an element and the tile's number
abbrev pub digit_of : TileName → ℕ
digit_of k = k.bytes + k.tile.0

-- a list as hexadecimal digits, the lowest first
abbrev pub list_number : List TileName → ℕ
list_number [] = 0
list_number (k ∷ ks) = digit_of k + 16 * list_number ks

-- the name of a digit
abbrev pub name_of : ℕ → TileName
name_of d =
    cond (ltb d 2) (za 1 0) (cond (ltb d 4) (za 2 (d - 2)) (cond (ltb d 8) (za 4 (d - 4)) (za 8 (d - 8))))

-- digit i, the lowest being digit 0
abbrev pub digit_at : ℕ → ℕ → ℕ
digit_at list i = list / 2 ^ (4 * i) % 16

-- the names of n digits from digit i on; 0 is none
abbrev pub names_from : ℕ → ℕ → ℕ → List TileName
names_from zero i list = []
names_from (suc n) i list = cond (eqb (digit_at list i) 0) (names_from n (i + 1) list) (name_of (digit_at list i) ∷ names_from n (i + 1) list)

abbrev pub names_in : ℕ → List TileName
names_in list = names_from 4 0 list

-- a number is the list of a mask: the shortest, in order
pub record ListOf (mask list : ℕ) : Type 0 where
  pub is : list ≡ list_number (names_of mask)
  pub names : names_in list ≡ names_of mask
  pub shortest : Shortest mask (names_in list)

-- a table with the list of every mask
pub record Table (lists : List ℕ) : Type 0 where
  pub size : length lists ≡ 256
  pub each : (mask : ℕ) → mask < 256 → ListOf mask (get_or lists mask 0)
