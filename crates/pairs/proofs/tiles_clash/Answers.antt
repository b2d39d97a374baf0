-- `pairs::tiles_clash` meets its contract: between two widths, the tiles' numbers modulo 4 tell. Assumes nothing.
use mathlib.Core.Path.{◌∙◌, sym, ap₂}
use mathlib.Core.Bool.{not, ◌&&◌}
use Prim.Native.Nat.{ℕ, ◌%◌}
use lib.Dec.{eqb}
use Rattle.machine.proofs.Links.{element_width}
use Rattle.pairs.proofs.Tiles.{tiles_clash}
use Rattle.pairs.proofs.tiles_clash.Goals as goal

pub returns : goal.returns
returns c =
    let t = c.args.t.0 in
    let u = c.args.u.0 in
    ap₂ (λ (E F : ℕ). not (eqb E F) && eqb (t % 4) (u % 4)) c.element_bytes.ensures c.element_bytes-2.ensures
    ∙ sym (tiles_clash t u (element_width c.args.op) (element_width c.args.other) c.requires.0 c.requires.1)
