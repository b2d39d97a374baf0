-- `replay::replay` is safe: a capture that was run has a vector length. Assumes nothing.
use Rattle.replay.proofs.Replaying.{ran-length}
use Rattle.replay.proofs.replay.Goals as goal

pub write_changes-requires : goal.write_changes-requires
write_changes-requires c = ran-length c.replay_file.ensures c.in-Ok.is
