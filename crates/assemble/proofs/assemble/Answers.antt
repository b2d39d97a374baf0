-- `assemble::assemble` meets its contract: a turn counts a line more, and the parts that are cut make what the lines do. Assumes nothing.
use Rattle.std.proofs.Common.{◌∙◌, ap, sym, refl, ℕ, List, rules, tests}
use Rattle.std.proofs.lemmas.Iterator.Consumers.{YieldsList-end, YieldsList-from_enumerate}
use Rattle.std.proofs.lemmas.Iterator.Splits.{YieldsList-from_slice_split}
use denote.Ref.{Bor}
use Rattle.assemble.specs.Kernel.{assembled, words_after, refused_after, count_over}
use Rattle.assemble.proofs.Kernel.{is_feed, count_push, count_cut, without_numbers}
use Rattle.assemble.proofs.assemble.Goals as goal

pub loop-i-preserved : goal.loop-i-preserved
loop-i-preserved c =
    let l = c.loop-i in
    let line = c.in-Some.line in
    let k = c.take_line-counts.ensures in
    let text = λ (x : ℕ × Bor (List ℕ)). x.1.now in
    let x : ℕ × Bor (List ℕ) = (c.in-Some.i, line) in (
      k.words ∙ ap (λ (n : ℕ). words_after n (assembled line.now)) l.invariant.0 ∙ sym (count_push text words_after 0 l.yielded x),
      k.refused ∙ ap (λ (n : ℕ). refused_after n (assembled line.now)) l.invariant.1 ∙ sym (count_push text refused_after 0 l.yielded x),
    )

pub returns : goal.returns
returns c =
    let l = c.loop-i in
    let t = c.args.text.now in
    let numbered =
    YieldsList-end (YieldsList-from_enumerate (YieldsList-from_slice_split _ is_feed t (cc) (cc) (cc) (λ x b q k. search (rules, tests))) (cc)) l.yielded _ l.yielded_by _ _ c.in-None.is c.next.ensures.steps in
    let parts = without_numbers (λ (x : Bor (List ℕ)). x.now) l.yielded _ numbered.0 in
    record {
      words = l.invariant.0 ∙ ap (count_over words_after 0) parts ∙ count_cut words_after (λ n. refl) 0 t;
      refused = l.invariant.1 ∙ ap (count_over refused_after 0) parts ∙ count_cut refused_after (λ n. refl) 0 t;
    }
