-- `checks::text::hexadecimal_of` meets its contract: what is left gives what the whole gives. Assumes nothing.
use Rattle.std.proofs.Common.{◌≡◌, drop}
use Rattle.checks.specs.Text.{hexadecimal}
use Rattle.checks.proofs.text.hexadecimal_of.Given as goal

abbrev pub invariant-loop-byte : goal.invariant-loop-byte
invariant-loop-byte l = hexadecimal l.n (drop l.byte-index l.text) ≡ hexadecimal 0 l.text
