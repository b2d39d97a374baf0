-- `names::lists::list_of` meets its contract: every entry of the table passes the test of a shortest list, which is computed
-- here, once over the whole table. Assumes nothing.
use mathlib.Core.Path.{refl}
use Rattle.names.proofs.Theorems.{table_right}
use Rattle.names.proofs.lists.list_of.Goals as goal

pub entry-requires : goal.entry-requires
entry-requires c = table_right _ refl refl
