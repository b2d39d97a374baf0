-- An instruction in range is ready to be executed on a bench that passed 1 to 5. Assumes nothing.
use mathlib.Core.Path.{◌≡◌}
use mathlib.Core.Bool.{Bool, true, false, false≢true, not, cond, ◌&&◌}
use Prim.Native.Nat.{◌≤◌, ◌<◌}
use native.Mathlib.Omega.{arith}
use lib.Dec.{eqb}
use borrow.Author.Tests.{ltb-true}
use Rattle.isa.specs.Table.{bit, element_bytes, products_of, register, is_formed, ranges, in_range}
use Rattle.isa.specs.declared.Tile.{Tile}
use Rattle.isa.specs.declared.Vector.{Vector}
use Rattle.isa.specs.declared.Predicate.{Predicate}
use Rattle.isa.specs.declared.Operation.{Operation}
use Rattle.isa.specs.declared.Source.{Source}
use Rattle.isa.specs.declared.Source.TheVariants.{One, Pair}
use Rattle.isa.specs.declared.PredicatedProduct.{PredicatedProduct}
use Rattle.isa.specs.declared.QuarterProduct.{QuarterProduct}
use Rattle.isa.specs.declared.Instruction.TheVariants.{Predicated, Quarter}
use Rattle.isa.proofs.Tests.{every_all}
use Rattle.isa.proofs.Lines.{quarter_range}
use Rattle.outer.specs.Products.{Shaped, bytes32, halves64, halves32, GoodOperand, Ready}
use Rattle.outer.specs.declared.Operand.{Operand}
use Rattle.outer.specs.declared.OuterProduct.{OuterProduct}
use Rattle.machine.specs.Operands.{governed_operand, halves_operand, outer_product, predicated_outer, quarter_outer}
use Rattle.machine.specs.Machine.{Machine}
use Rattle.machine.specs.Claims.{BenchPasses}

-- the shape of an operation in range
shaped : (op : Operation) → is_formed op ≡ true → Shaped (element_bytes op) (products_of op)
shaped op h = go op.wide op.two_way h
  where
    go : (wide two : Bool) → cond two (not wide && eqb (bit op.u0) (bit op.u1)) true ≡ true → Shaped (cond wide 8 4) (cond two 2 4)
    go false false e = bytes32
    go true false e = halves64
    go false true e = halves32
    go true true e = absurd (false≢true e)

-- and its tile
pub predicated_tile : (p : PredicatedProduct) → in_range (Predicated p) ≡ true → p.tile.0 < element_bytes p.op
predicated_tile p h = ltb-true _ _ (every_all (ranges (Predicated p)) h).1.0

pub quarter_tile : (q : QuarterProduct) → in_range (Quarter q) ≡ true → q.tile.0 < element_bytes q.op
quarter_tile q h = ltb-true _ _ (every_all (ranges (Quarter q)) h).1.0

governed_good : (v : Vector) (p : Predicate) (unsigned : Bool) → v.0 < 32 → p.0 < 8 → GoodOperand (governed_operand v p unsigned)
governed_good v p unsigned h k = record { low = h; high = h; predication = omega arith }

-- of a pair both registers are below 32
halves_good : (s : Source) (unsigned : Bool) → register s ≤ 30 → GoodOperand (halves_operand s unsigned)
halves_good (One v) unsigned h = record { low = omega arith; high = omega arith; predication = tt }
halves_good (Pair v) unsigned h = record { low = omega arith; high = omega arith; predication = tt }

module _ (m : Machine) (fits : BenchPasses m) where
  -- what an update asks
  abbrev Updates : OuterProduct → Type 0
  Updates o = Shaped o.element o.products × Ready o.element m.bench.vb o m.z m.p

  -- whatever its operands
  ready : (op : Operation) (tile : Tile) (first second : Operand) → is_formed op ≡ true → tile.0 < element_bytes op → GoodOperand first → GoodOperand second
      → Updates (outer_product op tile first second)
  ready op tile first second e h f s = (
    shaped op e,
    record {
      length_legal = fits.length_legal;
      z_sized = fits.z_sized;
      p_sized = fits.p_sized;
      tile = h;
      first = f;
      second = s;
    },
  )

  pub predicated_ready : (p : PredicatedProduct) → in_range (Predicated p) ≡ true → Updates (predicated_outer p)
  predicated_ready p h =
      let r = every_all (ranges (Predicated p)) h in
      ready _ _ _ _ r.0 (predicated_tile p h) (governed_good p.zn p.pn p.op.u0 (omega (arith, ltb-true)) (omega (arith, ltb-true)))
      (governed_good p.zm p.pm p.op.u1 (omega (arith, ltb-true)) (omega (arith, ltb-true)))

  pub quarter_ready : (q : QuarterProduct) → in_range (Quarter q) ≡ true → Updates (quarter_outer q)
  quarter_ready q h =
      let r = every_all (ranges (Quarter q)) h in
      let t = quarter_range q h in
      ready _ _ _ _ r.0 (quarter_tile q h) (halves_good q.first q.op.u0 (omega arith)) (halves_good q.second q.op.u1 (omega arith))
