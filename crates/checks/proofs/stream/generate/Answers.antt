-- `checks::stream::generate` meets its contract: the bytes written and those to come are the stream. Assumes nothing.
use Rattle.std.proofs.Common.{◌≡◌, ◌<◌, length, sym, ◌∙◌, arith}
use Rattle.checks.proofs.Streams.{stood_more, streamed_more, stood-ends, streamed-ends}
use Rattle.checks.proofs.stream.generate.Goals as goal

pub loop-byte-preserved : goal.loop-byte-preserved
loop-byte-preserved c =
    let l = c.loop-byte in
    let a = c.args in
    let n = length a.bytes.now in
    let h : l.byte-index < n = omega arith in (
      rw c.next-x.ensures (stood_more l.x l.byte-index n h ∙ l.invariant.0),
      rw (c.byte_from.ensures, c.next-x.ensures) (streamed_more l.x l.byte-index n h a.fill l.bytes (omega arith) ∙ l.invariant.1),
    )

pub returns-clause-answer : goal.returns-clause-answer
returns-clause-answer c =
    let l = c.loop-byte in
    let n = length c.args.bytes.now in
    let e : l.byte-index ≡ n = omega arith in
    sym (stood-ends l.x l.byte-index n e) ∙ l.invariant.0

pub returns-clause-bytes_after : goal.returns-clause-bytes_after
returns-clause-bytes_after c =
    let l = c.loop-byte in
    let n = length c.args.bytes.now in
    let e : l.byte-index ≡ n = omega arith in
    sym (streamed-ends l.x l.byte-index n e _ l.bytes (omega arith)) ∙ l.invariant.1
