-- Digits, numbers and fields of a text, which is a list of bytes.
use Rattle.std.specs.Prelude.{ℕ, suc, ◌+◌, ◌-◌, ◌*◌, ◌%◌, cond, List, [], ◌∷◌, ◌==◌, nat_le, nat_lt, Option, Some, None}

-- a hex digit's value, by the codes of 0 to 9, A to F and a to f; 16 for any other byte
unfoldable pub digit_of : ℕ → ℕ
digit_of b =
    cond (nat_lt b 48) 16
    (cond (nat_le b 57) (b - 48) (cond (nat_lt b 65) 16 (cond (nat_le b 70) (b - 65 + 10) (cond (nat_lt b 97) 16 (cond (nat_le b 102) (b - 97 + 10) 16)))))

-- the number that hex digits give behind those that gave n; the lowest eight digits count
unfoldable pub hexadecimal : ℕ → List ℕ → Option ℕ
hexadecimal n [] = Some n
hexadecimal n (b ∷ t) = cond (nat_lt 15 (digit_of b)) None (hexadecimal (n % 0x10000000 * 16 + digit_of b) t)

-- how many bytes stand before the first that is `last`: all, if none is
unfoldable pub field_length : ℕ → List ℕ → ℕ
field_length last [] = 0
field_length last (b ∷ t) = cond (b == last) 0 (suc (field_length last t))
