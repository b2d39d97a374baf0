-- `checks::text::hexadecimal_of` meets its contract: what is left gives what the whole gives. Assumes nothing.
use Rattle.std.proofs.Common.{◌∙◌, arith, sym}
use Rattle.checks.proofs.Texts.{no_digit, digit_more, number-ends, digit-of_value, digit-of_none}
use Rattle.checks.proofs.text.hexadecimal_of.Goals as goal

pub returns-in_err-digit : goal.returns-in_err-digit
returns-in_err-digit c =
    let l = c.loop-byte in
    let t = c.args.text.now in
    let none = rw c.from.ensures at c.in_err-digit.ensures.value in
    c.from_residual.ensures ∙ no_digit t l.byte-index c.loop-byte-test.true l.n (digit-of_none _ none) ∙ l.invariant

pub loop-byte-preserved : goal.loop-byte-preserved
loop-byte-preserved c =
    let l = c.loop-byte in
    let t = c.args.text.now in
    let some = rw c.from.ensures at c.in_ok-digit.ensures.value in
    let e = digit-of_value _ some.0 in
    digit_more t l.byte-index c.loop-byte-test.true l.n c.in_ok-digit.digit (e ∙ sym some.1) (omega (arith, some)) ∙ l.invariant

pub returns : goal.returns
returns c =
    let l = c.loop-byte in
    number-ends l.n c.args.text.now l.byte-index (omega arith) ∙ l.invariant
