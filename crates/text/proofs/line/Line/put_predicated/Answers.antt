-- `text::line::Line::put_predicated` meets its contract: heading, predicates and vectors one after the other. Assumes nothing.
use mathlib.Core.Path.{ap, ◌∙◌}
use mathlib.Core.List.{◌++◌}
use native.Mathlib.Omega.{arith}
use lib.ListN.{length}
use Rattle.isa.specs.Table.{element_bytes, source_bytes}
use Rattle.isa.proofs.Lines.{predicated_range}
use Rattle.text.specs.Ascii.{ascii}
use Rattle.text.specs.Spelling.{spelling, mnemonic, tile_name, predicate_name, vector_name}
use Rattle.text.proofs.Texts.{in_turn, predicated_text}
use Rattle.text.proofs.line.Line.put_predicated.Goals as goal

pub put_vectors-requires : goal.put_vectors-requires
put_vectors-requires c =
    omega (arith, ap length c.requires.0, c.put_heading.ensures.short, c.put_predicates.ensures.short, predicated_range c.args.p c.requires.1)

pub returns : goal.returns
returns c =
    let a = c.args.p in
    let name = vector_name (source_bytes a.op) in
    in_turn _ _ _ c.requires.0 c.put_heading.ensures.put c.put_predicates.ensures.put c.put_vectors.ensures.put
    ∙ rw c.source_bytes.ensures
    (unfold spelling in predicated_text (mnemonic (ascii "mop") a.op ++ ascii " ") (tile_name (element_bytes a.op) a.tile)
    (predicate_name a.pn) (predicate_name a.pm) (name a.zn.0) (name a.zm.0))
