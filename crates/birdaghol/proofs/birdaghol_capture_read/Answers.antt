-- `birdaghol::birdaghol_capture_read` meets its contract: read's outcome, packed. Assumes nothing.
use native.Mathlib.Omega.{arith}
use Rattle.birdaghol.proofs.Packing.{read_small, contents_fit, contents_packed, refusal_packed}
use Rattle.birdaghol.proofs.birdaghol_capture_read.Goals as goal

pub contents_number-requires : goal.contents_number-requires
contents_number-requires c = read_small c.read.ensures.reads c.in-Ok.is

pub overflow_mul-result : goal.overflow_mul-result
overflow_mul-result c = omega (arith, contents_fit c.read.ensures.reads c.in-Ok.is c.contents_number.ensures)

pub returns-in-Ok : goal.returns-in-Ok
returns-in-Ok c = contents_packed c.read.ensures.reads c.in-Ok.is c.contents_number.ensures

pub returns-in-Err : goal.returns-in-Err
returns-in-Err c = refusal_packed c.read.ensures.reads c.in-Err.is c.refused.ensures
