-- `disassembly::list_all` meets its contract: what was listed, and what is left, make the whole. Assumes nothing.
use Rattle.std.proofs.Common.{◌≡◌, ◌/◌, refl, ap, arith}
use Rattle.disassembly.specs.Listing.{line}
use Rattle.disassembly.proofs.Rooms.{put_as}
use Rattle.disassembly.proofs.Progress.{goes_on, all_listed}
use Rattle.disassembly.proofs.list_all.Goals as goal

pub loop-k-preserved : goal.loop-k-preserved
loop-k-preserved c =
    let p = put_as c.put_line-at.ensures (ap (line c.loop-k.address) c.word_at.ensures) in
    goes_on c.loop-k.invariant (omega arith) p refl

pub returns : goal.returns
returns c =
    let l = c.loop-k in
    let k : c.len-words.result / 4 ≡ l.k = omega arith in
    let (r, n, p) = all_listed c.rest_from.result l.invariant (rw k at c.rest_from.ensures) in
    record { answer = rw (p, n); room_after = r }
