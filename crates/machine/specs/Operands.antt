-- An outer product instruction as operands on a tile (document 01, "Execution").
use Rattle.std.specs.Prelude.{Bool, ◌+◌}
use Rattle.isa.specs.Table.{element_bytes, products_of}
use Rattle.isa.specs.declared.Tile.{Tile}
use Rattle.isa.specs.declared.Vector.{Vector}
use Rattle.isa.specs.declared.Predicate.{Predicate}
use Rattle.isa.specs.declared.Operation.{Operation}
use Rattle.isa.specs.declared.PredicatedProduct.{PredicatedProduct}
use Rattle.isa.specs.declared.QuarterProduct.{QuarterProduct}
use Rattle.isa.specs.declared.Source.{Source}
use Rattle.isa.specs.declared.Source.TheVariants.{One, Pair}
use Rattle.outer.specs.declared.Predication.TheVariants.{Unpredicated, By}
use Rattle.outer.specs.declared.Operand.{Operand}
use Rattle.outer.specs.declared.OuterProduct.{OuterProduct}

-- a predicated source: one register throughout, governed by its predicate
abbrev pub governed_operand : Vector → Predicate → Bool → Operand
governed_operand v p unsigned = record { low = v; high = v; predication = By p; unsigned = unsigned }

-- a quarter-tile source: of a pair, the second register serves the second half; no predicate
abbrev pub last_of : Source → Vector
last_of (One v) = v
last_of (Pair v) = record { 0 = v.0 + 1 }

abbrev pub first_of : Source → Vector
first_of (One v) = v
first_of (Pair v) = v

abbrev pub halves_operand : Source → Bool → Operand
halves_operand s unsigned = record { low = first_of s; high = last_of s; predication = Unpredicated; unsigned = unsigned }

-- an outer product of its operation's shape and direction, on its own tile
abbrev pub outer_product : Operation → Tile → Operand → Operand → OuterProduct
outer_product op tile first second = record {
  element = element_bytes op;
  products = products_of op;
  tile = tile;
  first = first;
  second = second;
  subtract = op.subtract;
}

abbrev pub predicated_outer : PredicatedProduct → OuterProduct
predicated_outer p = outer_product p.op p.tile (governed_operand p.zn p.pn p.op.u0) (governed_operand p.zm p.pm p.op.u1)

abbrev pub quarter_outer : QuarterProduct → OuterProduct
quarter_outer q = outer_product q.op q.tile (halves_operand q.first q.op.u0) (halves_operand q.second q.op.u1)
