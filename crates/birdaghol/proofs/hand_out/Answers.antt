-- `birdaghol::hand_out` meets its contract: the numbers are copied where there is place for them. Assumes nothing.
use mathlib.Core.Path.{◌≡◌, ◌∙◌, sym, ap}
use mathlib.Core.List.{List}
use Prim.Native.Nat.{ℕ}
use native.Mathlib.Numerals.{add-one}
use native.Mathlib.Omega.{arith}
use lib.ListN.{length, length-take}
use lib.Seq.{take-suc, take-suc-set, take_all}
use borrow.Author.Tests.{lt-ltb, le-ltb}
use Rattle.isa.specs.declared.Instruction.{Instruction}
use Rattle.birdaghol.specs.Fields.{field_count, numbers_of}
use Rattle.birdaghol.proofs.Fields.{numbers_length}
use Rattle.birdaghol.proofs.hand_out.Goals as goal

pub returns-then-fields-lt-FIELDS : goal.returns-then-fields-lt-FIELDS
returns-then-fields-lt-FIELDS c = let l = lt-ltb _ _ c.if-fields-lt-FIELDS.true in record { answer = rw l c.refused.ensures; fields_after = rw l }

-- there is a number for each field
enough : (i : Instruction) {numbers : List ℕ} → numbers ≡ numbers_of i → length numbers ≡ field_count
enough i e = ap length e ∙ numbers_length i

pub loop-k-preserved : goal.loop-k-preserved
loop-k-preserved c =
    let l = c.loop-k in
    let n = enough c.args.i c.numbers_of-numbers.ensures in
    rw (add-one, take-suc-set l.field-items l.k _ (omega arith), l.invariant)
    (sym (take-suc c.numbers_of-numbers.result l.k 0 (omega (arith, n, length-take {A = ℕ}))))

pub returns : goal.returns
returns c =
    let k = c.loop-k in
    let l = le-ltb (length c.args.fields.now) field_count c.if-fields-lt-FIELDS.false in
    let n = enough c.args.i c.numbers_of-numbers.ensures in
    let all : k.field-items ≡ numbers_of c.args.i =
    sym (take_all k.k k.field-items (omega arith)) ∙ k.invariant ∙ take_all k.k c.numbers_of-numbers.result (omega (arith, n, length-take {A = ℕ})) ∙ c.numbers_of-numbers.ensures in
    record { answer = rw l; fields_after = rw (l, all) }
