-- `capture::finder::five_parts` meets its contract: each part stands behind the one before it. Assumes nothing.
use mathlib.Core.Path.{sym}
use Rattle.capture.proofs.Partition.{no_more, then_none, left_over}
use Rattle.capture.proofs.finder.five_parts.Goals as goal

pub returns-in_err-head : goal.returns-in_err-head
returns-in_err-head c = rw c.from_residual.ensures (no_more _ _ _ c.in_err-head.ensures)

pub returns-in_err-words : goal.returns-in_err-words
returns-in_err-words c = rw c.from_residual-in_err-words.ensures (then_none _ _ _ _ c.in_ok-head.ensures (no_more _ _ _ c.in_err-words.ensures))

pub returns-in_err-z : goal.returns-in_err-z
returns-in_err-z c = rw c.from_residual-in_err-z.ensures (then_none _ _ _ _ c.in_ok-head.ensures (then_none _ _ _ _ c.in_ok-words.ensures (no_more _ _ _ c.in_err-z.ensures)))

pub returns-in_err-p : goal.returns-in_err-p
returns-in_err-p c = rw c.from_residual-in_err-p.ensures (then_none _ _ _ _ c.in_ok-head.ensures (then_none _ _ _ _ c.in_ok-words.ensures (then_none _ _ _ _ c.in_ok-z.ensures (no_more _ _ _ c.in_err-p.ensures))))

pub returns-in_err-za : goal.returns-in_err-za
returns-in_err-za c = rw c.from_residual-in_err-za.ensures (then_none _ _ _ _ c.in_ok-head.ensures (then_none _ _ _ _ c.in_ok-words.ensures (then_none _ _ _ _ c.in_ok-z.ensures (then_none _ _ _ _ c.in_ok-p.ensures (no_more _ _ _ c.in_err-za.ensures)))))

pub returns-then-fifth-za : goal.returns-then-fifth-za
returns-then-fifth-za c = then_none _ _ _ _ c.in_ok-head.ensures (then_none _ _ _ _ c.in_ok-words.ensures (then_none _ _ _ _ c.in_ok-z.ensures (then_none _ _ _ _ c.in_ok-p.ensures (then_none _ _ _ _ c.in_ok-za.ensures (left_over _ _ c.in_ok-za.ensures.within c.if-fifth-za.true)))))

pub returns : goal.returns
returns c = record {
  first = c.in_ok-head.ensures;
  second = c.in_ok-words.ensures;
  third = c.in_ok-z.ensures;
  fourth = c.in_ok-p.ensures;
  fifth = c.in_ok-za.ensures;
  ends = sym c.if-fifth-za.false;
}
