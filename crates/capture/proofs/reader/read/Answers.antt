-- `capture::reader::read` meets its contract. Assumes nothing.
use mathlib.Core.Path.{◌∙◌, sym}
use borrow.Author.Tests.{eqb-true, eqb-false}
use native.Mathlib.Omega.{arith}
use native.Mathlib.Nat.{le_of_eq}
use Rattle.capture.proofs.Recovery.{read_empty, read_another, read_nothing, enough, read_short, read_done}
use Rattle.capture.proofs.Theorems.{answered}
use Rattle.capture.proofs.reader.read.Goals as goal

pub returns-then-is_empty : goal.returns-then-is_empty
returns-then-is_empty c = answered (read_empty _ _ (eqb-true _ _ (sym c.is_empty.ensures ∙ c.if-is_empty.true)))

pub returns-then-file-ne-VERSION : goal.returns-then-file-ne-VERSION
returns-then-file-ne-VERSION c = let a = c.args in answered (read_another a.file.now _ (let n = eqb-false _ _ (sym c.is_empty.ensures ∙ c.if-is_empty.false) in omega arith) c.if-file-ne-VERSION.true)

pub returns-in_default : goal.returns-in_default
returns-in_default c = answered (read_nothing _ _ c.if-file-ne-VERSION.false c.in_default.ensures)

pub long_enough-requires : goal.long_enough-requires
long_enough-requires c = c.in-Some.ensures.vb_most

pub returns-then-not-long_enough : goal.returns-then-not-long_enough
returns-then-not-long_enough c =
    let a = c.args in
    answered (read_short a.file.now _ _ a.words.now a.z.now a.p.now a.za.now c.in-Some.ensures c.long_enough.ensures c.if-not-long_enough.true)

pub take_parts-requires : goal.take_parts-requires
take_parts-requires c =
    let q = c.in-Some.ensures in
    let l = le_of_eq (sym q.size) in
    let h = enough _ _ _ _ _ _ c.long_enough.ensures c.if-not-long_enough.false in
    record { file_holds = (q.words_most, q.vb_most, q.za_most, l); rooms_hold = (h.for_words, h.for_z, h.for_p, h.for_za) }

pub returns : goal.returns
returns c =
    let a = c.args in
    let e = c.take_parts.ensures in
    answered
    (read_done a.file.now _ _ a.words.now a.z.now a.p.now a.za.now c.in-Some.ensures
    (enough _ _ _ _ _ _ c.long_enough.ensures c.if-not-long_enough.false) _ _ _ _ e.words_after e.z_after e.p_after e.za_after)
