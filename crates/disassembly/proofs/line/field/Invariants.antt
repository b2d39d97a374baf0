-- `disassembly::line::field` meets its contract: digit by digit, over spaces. Assumes nothing.
use mathlib.Core.Path.{◌≡◌}
use lib.ListN.{replicate}
use lib.Seq.{paste}
use Rattle.disassembly.specs.Listing.{hexadecimal}
use Rattle.disassembly.proofs.line.field.Given as goal

abbrev pub invariant-loop-i : goal.invariant-loop-i
invariant-loop-i l = l.text ≡ paste (replicate 9 32) 0 (hexadecimal 8 l.v) l.i
