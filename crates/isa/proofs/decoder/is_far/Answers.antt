-- `isa::decoder::is_far` meets its contract: every line has 0 in these four bits. Assumes nothing.
use mathlib.Core.Path.{◌≡◌, ◌∙◌, sym}
use mathlib.Core.Bool.{true, false}
use Prim.Native.Nat.{◌/◌, ◌%◌, ◌^◌}
use borrow.Author.Tests.{eq-eqb, not-true}
use Rattle.isa.proofs.Rows.{both}
use Rattle.isa.proofs.Lookup.{lookup-clear}
use Rattle.isa.proofs.Answers.{flags_fit, decode_unlisted}
use Rattle.isa.proofs.decoder.is_far.Goals as goal

pub returns : goal.returns
returns c h =
    let (l, f) = both _ _ h in
    decode_unlisted _ _ (flags_fit c.flags_legal.ensures l)
    (lookup-clear c.args.word (λ e. let z : true ≡ false = sym (eq-eqb (c.args.word / 2 ^ 25 % 16) 0 e) ∙ not-true _ f in cc))
