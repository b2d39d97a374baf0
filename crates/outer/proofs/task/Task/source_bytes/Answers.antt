-- `outer::task::Task::source_bytes` meets its contract. Assumes nothing.
use Rattle.outer.specs.Walks.{byte, half}
use Rattle.outer.proofs.task.Task.source_bytes.Goals as goal

pub returns-then-self-clause-byte_or_half : goal.returns-then-self-clause-byte_or_half
returns-then-self-clause-byte_or_half c = byte

pub returns-clause-byte_or_half : goal.returns-clause-byte_or_half
returns-clause-byte_or_half c = half
