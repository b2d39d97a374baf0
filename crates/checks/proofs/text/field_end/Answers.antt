-- `checks::text::field_end` meets its contract: the field's end is the place that `position` finds. Assumes nothing.
use Rattle.std.proofs.Common.{rules, tests, arith, ◌+◌, ◌-◌, ◌∙◌, ap, length, drop, nat_eq}
use Rattle.std.proofs.lemmas.List.{take_all, drop_min, length-drop}
use Rattle.std.proofs.lemmas.Iterator.{YieldsList-from_slice}
use Rattle.std.proofs.lemmas.Iterator.Search.{position_from_yields_List}
use Rattle.checks.proofs.Texts.{field_found}
use Rattle.checks.proofs.text.field_end.Goals as goal

pub returns-clause-answer : goal.returns-clause-answer
returns-clause-answer c =
    let found = position_from_yields_List (λ b. nat_eq b c.args.last) _ _ c.position.result c.position.ensures.ran (YieldsList-from_slice _ c.iter.ensures.rest) (λ x b q k. search (rules, tests)) in
    let t = c.args.text.now in
    let short = length-drop c.min.result t in
    let whole = take_all (length t - c.min.result) (drop c.min.result t) (omega (arith, short)) in
    let rest = whole ∙ ap (λ n. drop n t) c.min.ensures ∙ drop_min c.args.at t in
    ap (λ n. c.args.at + n) (rw (c.unwrap_or.ensures, found, rest) (field_found c.args.last (drop c.args.at t)))
