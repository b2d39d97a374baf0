-- `assemble::is_blank` meets its contract: a line is blank if all its bytes are spaces. Assumes nothing.
use Rattle.std.proofs.Common.{◌∙◌, rules, tests}
use Rattle.std.proofs.lemmas.Iterator.{YieldsList-from_slice}
use Rattle.std.proofs.lemmas.Iterator.Search.{all_from_yields_List}
use Rattle.assemble.specs.Kernel.{is_space}
use Rattle.assemble.proofs.Kernel.{blank-all}
use Rattle.assemble.proofs.is_blank.Goals as goal

pub returns : goal.returns
returns c =
    all_from_yields_List is_space _ _ _ c.all.ensures.ran (YieldsList-from_slice c.args.line.now cc) (λ x b q k. search (rules, tests))
    ∙ blank-all c.args.line.now
