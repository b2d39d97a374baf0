-- The lines of the table by name: the words of the decoder's private contracts.
use Rattle.std.specs.Prelude.{Option as Maybe, Some, None}
use Rattle.std.proofs.Math.Option.{Option, none, some}
use Rattle.isa.specs.Table.{Entry, predicated, quarter, zeroing}
use Rattle.isa.specs.declared.Line.{Line}
use Rattle.isa.specs.declared.Line.TheVariants.{Predicated, Quarter, Zero}

abbrev pub entry_for : Line → Entry
entry_for (Predicated s) = predicated s
entry_for (Quarter s) = quarter s
entry_for Zero = zeroing

-- the entry of a line that was found, if one was
abbrev pub found : Maybe Line → Option Entry
found None = none
found (Some l) = some (entry_for l)
