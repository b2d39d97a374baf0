-- A tile element plus a signed whole number, modulo the element's size.
use Rattle.std.specs.Prelude.{ℕ, suc, ◌+◌, ◌-◌, ◌%◌, ◌^◌, ℤ, pos, negsuc}

-- the remainder of z by m, from 0 to m - 1
unfoldable pub mod_z : ℕ → ℤ → ℕ
mod_z m (pos n) = n % m
mod_z m (negsuc n) = m - suc (n % m)

-- x + z in E bytes
unfoldable pub plus : ℕ → ℕ → ℤ → ℕ
plus E x z = (x + mod_z (256 ^ E) z) % 256 ^ E
