-- `checks::stream::generate` meets its contract: the bytes written and those to come are the stream. Assumes nothing.
use Rattle.std.proofs.Common.{◌≡◌, ◌-◌, ◌++◌, length, take}
use Rattle.checks.specs.Stream.{stood, streamed}
use Rattle.checks.proofs.stream.generate.Given as goal

abbrev pub invariant-loop-byte : goal.invariant-loop-byte
invariant-loop-byte l =
    let n = length l.initial.bytes in
    (stood l.x (n - l.byte-index) ≡ stood l.x-2 n) × (take l.byte-index l.bytes ++ streamed l.fill l.x (n - l.byte-index) ≡ streamed l.fill l.x-2 n)
