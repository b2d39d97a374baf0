-- Little-endian numbers and bits in a list of bytes, read by position.
use Rattle.std.specs.Prelude.{Bool, List, [], ◌∷◌, ℕ, zero, suc, ◌+◌, ◌*◌, ◌/◌, ◌%◌, ◌^◌, eqb, get_or}

-- bytes by position; a list's are 0 past its end
abbrev pub Store : Type 0
Store = ℕ → ℕ

abbrev pub at : List ℕ → Store
at l p = get_or l p 0

-- byte k of v, lowest first
unfoldable pub byte_of : ℕ → ℕ → ℕ
byte_of k v = v / 256 ^ k % 256

-- the E bytes of v, lowest first
unfoldable pub bytes_of : ℕ → ℕ → List ℕ
bytes_of zero v = []
bytes_of (suc E) v = v % 256 ∷ bytes_of E (v / 256)

-- the number whose E bytes, lowest first, stand from p on
unfoldable pub word : ℕ → Store → ℕ → ℕ
word zero m p = 0
word (suc E) m p = m p + 256 * word E m (suc p)

-- bit i of a list of bytes, the lowest of each byte first
unfoldable pub bit_at : List ℕ → ℕ → Bool
bit_at l i = eqb (at l (i / 8) / 2 ^ (i % 8) % 2) 1
