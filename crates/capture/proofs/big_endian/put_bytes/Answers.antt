-- `capture::big_endian::put_bytes` meets its contract. Assumes nothing.
use mathlib.Core.Path.{◌≡◌, sym, ◌∙◌}
use native.Mathlib.Omega.{arith}
use Prim.Native.Nat.{◌+◌, ◌-◌}
use lib.ListN.{length}
use lib.Seq.{take_all}
use Rattle.storage.proofs.Bytes.{part_put}
use Rattle.capture.proofs.big_endian.put_bytes.Goals as goal

pub returns : goal.returns
returns c =
    let a = c.args in
    let l = c.loop-k in
    let whole : l.byte-items ≡ a.t.now = sym (take_all l.k l.byte-items (omega arith)) ∙ l.invariant ∙ take_all l.k a.t.now (omega arith) in
    rw whole (part_put a.i (a.i + length a.t.now - a.i) a.room.now a.t.now (omega arith) (omega arith))
