-- How much is read at once.
use Rattle.std.specs.Prelude.{ℕ}

abbrev pub most_read : ℕ
most_read = 4096
