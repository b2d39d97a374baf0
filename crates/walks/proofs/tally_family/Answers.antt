-- `walks::tally_family` is safe: the shapes are ones that there are. Assumes nothing.
use Rattle.outer.specs.Products.{bytes32, halves64, halves32}
use Rattle.walks.proofs.tally_family.Goals as goal

pub tally_of-bytes-requires : goal.tally_of-bytes-requires
tally_of-bytes-requires c = record { length_legal = c.requires; shape = bytes32 }

pub tally_of-halves-requires : goal.tally_of-halves-requires
tally_of-halves-requires c = record { length_legal = c.requires; shape = halves64 }

pub tally_of-two_way-requires : goal.tally_of-two_way-requires
tally_of-two_way-requires c = record { length_legal = c.requires; shape = halves32 }
