-- `outer::source::read` meets its contract. Assumes nothing.
use Rattle.storage.specs.Bytes.{at}
use Rattle.outer.proofs.Elements.{word_one, reads_back}
use Rattle.outer.proofs.source.read.Goals as goal

pub returns-then-b-eq1 : goal.returns-then-b-eq1
returns-then-b-eq1 c =
    reads_back c.args.unsigned _ c.requires.byte_or_half (word_one (at c.args.z.now) c.args.i c.if-b-eq1.true) c.extend.ensures
