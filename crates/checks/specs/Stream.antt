-- The stream of bytes that a seed gives: where it stands after a step and after n, and its bytes.
use Rattle.std.specs.Prelude.{ℕ, zero, suc, ◌+◌, ◌*◌, ◌/◌, ◌%◌, cond, List, [], ◌∷◌, ◌==◌, nat_lt}
use Rattle.checks.specs.declared.Fill.{Fill}
use Rattle.checks.specs.declared.Fill.TheVariants.{Any, Edges, Ends}

abbrev pub step : ℕ → ℕ
step x = (x * 1103515245 + 12345) % 0x100000000

unfoldable pub stood : ℕ → ℕ → ℕ
stood x zero = x
stood x (suc n) = stood (step x) n

abbrev pub edge : ℕ → ℕ
edge k = cond (k == 0) 0 (cond (k == 1) 1 (cond (k == 2) 127 (cond (k == 3) 128 255)))

abbrev pub byte_from : Fill → ℕ → ℕ
byte_from Any x = x / 65536 % 256
byte_from Edges x = edge (x / 65536 % 256 % 5)
byte_from Ends x = cond (nat_lt (x / 65536 % 256) 128) 0 255

unfoldable pub streamed : Fill → ℕ → ℕ → List ℕ
streamed fill x zero = []
streamed fill x (suc n) = byte_from fill (step x) ∷ streamed fill (step x) n
