-- `birdaghol::numbers_of` meets its contract: by the kind of instruction. Assumes nothing.
use Rattle.birdaghol.proofs.numbers_of.Goals as goal

pub returns-in-Predicated : goal.returns-in-Predicated
returns-in-Predicated c = rw c.in-Predicated.is c.outer_numbers.ensures

pub returns-in-Quarter : goal.returns-in-Quarter
returns-in-Quarter c =
    rw c.in-Quarter.is
    (rw (c.register_of.ensures, c.is_pair.ensures, c.register_of-in-Quarter.ensures, c.is_pair-in-Quarter.ensures) at c.outer_numbers-in-Quarter.ensures)

pub returns-in-Zero : goal.returns-in-Zero
returns-in-Zero c = rw c.in-Zero.is
