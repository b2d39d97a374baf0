-- Room for standard input, and what is told of how much was read.
use Rattle.std.specs.Prelude.{ℕ, ◌≤◌, Result, Ok, Err}
use Rattle.checks.specs.declared.InputError.{InputError}

-- the bytes that a program has for its input
abbrev pub input_room : ℕ
input_room = 4194304

-- no more bytes are told than a room of n has
abbrev pub Fits : Result ℕ InputError → ℕ → Type 0
Fits (Ok k) n = k ≤ n
Fits (Err e) n = Unit {0}
