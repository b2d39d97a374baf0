-- `pieces::Listing::list` meets its contract: no more is taken than there is. Assumes nothing.
use Rattle.std.proofs.Common.{ap, arith, length}
use Rattle.disassembly.specs.declared.Advance.{Advance}
use Rattle.disassembly.proofs.Theorems.{suffices}
use Rattle.pieces.proofs.Listing.list.Goals as goal

pub returns : goal.returns
returns c =
    let most = (suffices c.args.self.now.place c.args.piece.now).most_taken (length c.args.room.now) in
    omega (arith, ap (λ (r : Advance). r.taken) c.list-listed.ensures.answer)
