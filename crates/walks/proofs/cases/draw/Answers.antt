-- `walks::cases::draw` meets its contract: the buffers keep their lengths. Assumes nothing.
use Rattle.std.proofs.Common.{rules}
use Rattle.walks.proofs.Rooms.{kept}
use Rattle.walks.proofs.cases.draw.Goals as goal

pub returns : goal.returns
returns c =
    record {
      drawn = c.outer_product.ensures;
      room = kept c.requires (search rules) (search rules) (search rules) (search rules) (search rules);
    }
