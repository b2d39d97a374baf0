-- `machine::clearing::tile_cleared` meets its contract: the tile's rows are those of one bit, or of two. Assumes nothing.
use mathlib.Core.Path.{◌∙◌, sym, ap}
use mathlib.Core.Bool.{◌&&◌}
use Prim.Native.Nat.{◌+◌, ◌-◌, ◌≤◌, ◌<◌}
use native.Mathlib.Omega.{arith}
use Rattle.storage.proofs.Sizes.{legal-length}
use Rattle.machine.proofs.Links.{element_width}
use Rattle.machine.proofs.Masks.{tile_rows, has_bit, tile_bits_lem}
use Rattle.machine.proofs.clearing.tile_cleared.Goals as goal

-- the two bits are two of the eight
rows : (c : goal.After-element_bytes)
    → (let t = c.args.tile.0 in let E = c.element_bytes.result in (E ≤ 8) × ((t < 8) × (t + (8 - E) < 8)))
rows c = let a = c.args in rw c.element_bytes.ensures (tile_rows a.tile.0 (element_width a.op) c.requires)

pub returns : goal.returns
returns c vb l =
    let a = c.args in
    ap (λ E. has_bit a.cleared a.tile.0 && has_bit a.cleared (a.tile.0 + (8 - E))) c.element_bytes.ensures
    ∙ sym (tile_bits_lem vb a.cleared a.tile.0 (legal-length vb l) (element_width a.op) c.requires)

pub overflow_sub-last : goal.overflow_sub-last
overflow_sub-last c = omega (arith, rows c)

pub overflow_add-last : goal.overflow_add-last
overflow_add-last c = omega (arith, rows c)

pub overflow_cast-result : goal.overflow_cast-result
overflow_cast-result c = omega (arith, rows c)

pub overflow_shr-result : goal.overflow_shr-result
overflow_shr-result c = omega (arith, rows c)

pub overflow_cast-result-2 : goal.overflow_cast-result-2
overflow_cast-result-2 c = omega (arith, rows c)

pub overflow_shr-result-2 : goal.overflow_shr-result-2
overflow_shr-result-2 c = omega (arith, rows c)
