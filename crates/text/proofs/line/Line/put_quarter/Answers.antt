-- `text::line::Line::put_quarter` meets its contract: heading and sources one after the other. Assumes nothing.
use mathlib.Core.Path.{◌∙◌}
use mathlib.Core.List.{◌++◌}
use Rattle.isa.specs.Table.{element_bytes, source_bytes}
use Rattle.text.specs.Ascii.{ascii}
use Rattle.text.specs.Spelling.{spelling, mnemonic, tile_name, source_name}
use Rattle.text.proofs.Texts.{in_turn, quarter_text}
use Rattle.text.proofs.line.Line.put_quarter.Goals as goal

pub returns : goal.returns
returns c =
    let a = c.args.q in
    let name = source_name (source_bytes a.op) in
    in_turn _ _ _ c.requires.0 c.put_heading.ensures.put c.put_source.ensures.put c.put_source-2.ensures.put
    ∙ rw c.source_bytes-bytes.ensures
    (unfold spelling in
    quarter_text (mnemonic (ascii "mop4") a.op ++ ascii " ") (tile_name (element_bytes a.op) a.tile) (name a.first) (name a.second))
