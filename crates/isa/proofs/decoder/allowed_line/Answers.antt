-- `isa::decoder::allowed_line` meets its contract: by the flags, then by the word's line and what it lacks. Assumes nothing.
use mathlib.Core.Path.{sym}
use Rattle.isa.proofs.Answers.{flags_fit, flags_exceed, decode_flags, decode_unlisted, decode_lacking, decode_open}
use Rattle.isa.proofs.decoder.allowed_line.Goals as goal

pub returns-then-not-flags_legal : goal.returns-then-not-flags_legal
returns-then-not-flags_legal c = decode_flags _ _ (flags_exceed c.flags_legal.ensures c.if-not-flags_legal.true)

pub returns-in_default : goal.returns-in_default
returns-in_default c = decode_unlisted _ _ (flags_fit c.flags_legal.ensures c.if-not-flags_legal.false) (sym c.in_default.ensures)

pub returns-then-missing-ne0 : goal.returns-then-missing-ne0
returns-then-missing-ne0 c =
    decode_lacking _ _ (flags_fit c.flags_legal.ensures c.if-not-flags_legal.false) c.in-Some.ensures c.lacking-missing.ensures c.if-missing-ne0.true

pub returns : goal.returns
returns c =
    decode_open _ _ (flags_fit c.flags_legal.ensures c.if-not-flags_legal.false) c.in-Some.ensures c.lacking-missing.ensures c.if-missing-ne0.false
