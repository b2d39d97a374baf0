-- `text::line::Line::put_names` meets its contract: after i turns the names of the list's lowest i digits stand on the line. Assumes nothing.
use mathlib.Core.Path.{◌≡◌}
use mathlib.Core.List.{◌++◌, map}
use Prim.Native.Nat.{◌+◌, ◌*◌, ◌≤◌}
use lib.ListN.{length}
use Rattle.names.specs.Lists.{names_from}
use Rattle.text.specs.Spelling.{name_text}
use Rattle.text.specs.Put.{shown}
use Rattle.text.proofs.line.Line.put_names.Given as goal

abbrev pub invariant-loop-i : goal.invariant-loop-i
invariant-loop-i l = record {
  put : l.self ≡ l.initial.self ++ shown (map name_text (names_from l.i 0 l.list));
  short : length l.self ≤ length l.initial.self + 8 * l.i;
}
