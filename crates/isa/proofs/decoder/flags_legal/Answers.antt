-- `isa::decoder::flags_legal` meets its contract: at most is not above. Assumes nothing.
use mathlib.Core.Path.{◌≡◌, refl}
use mathlib.Core.Bool.{Bool, true, false, not}
use Prim.Native.Nat.{ℕ}
use lib.Dec.{leb, ltb}
use borrow.Author.Tests.{leb-true, leb-false, lt-ltb, le-ltb}
use Rattle.isa.specs.Table.{all_flags}
use Rattle.isa.proofs.decoder.flags_legal.Goals as goal

at_most : (a b : ℕ) (t : Bool) → leb a b ≡ t → t ≡ not (ltb b a)
at_most a b true p = rw (le-ltb b a (leb-true a b p))
at_most a b false p = rw (lt-ltb b a (leb-false a b p))

pub returns : goal.returns
returns c = at_most c.args.flags all_flags _ refl
