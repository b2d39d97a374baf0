-- `reader::guess::guess` meets its contract, by its callees'. Assumes nothing.
use Rattle.reader.proofs.Laws.{outer_guess, zero_guess}
use Rattle.reader.proofs.guess.guess.Goals as goal

pub returns-then-byte-eq122 : goal.returns-then-byte-eq122
returns-then-byte-eq122 c =
    let a = c.args in
    zero_guess a.line.now _ c.byte.ensures _ c.if-byte-eq122.true c.mask_of.ensures

pub returns : goal.returns
returns c =
    let a = c.args in
    outer_guess a.line.now _ c.byte.ensures _ _ _ c.if-byte-eq122.false c.scan-s.ensures c.operation_of.ensures c.outer_of.ensures
