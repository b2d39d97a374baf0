-- `text::line::Line::put_zero` meets its contract: the word, the names and the closing brace one after the other. Assumes nothing.
use mathlib.Core.Path.{◌≡◌, ◌∙◌, ap}
use mathlib.Core.List.{List, [], ◌++◌, map}
use Prim.Native.Nat.{ℕ, ◌+◌}
use native.Mathlib.Omega.{arith}
use lib.ListN.{length, length-append}
use Rattle.names.specs.Lists.{names_in}
use Rattle.text.specs.Spelling.{Text, name_text, spelling}
use Rattle.text.proofs.Texts.{in_turn, zero-none, zero-some}
use Rattle.text.proofs.line.Line.put_zero.Goals as goal

-- the texts of a list's names
abbrev texts : ℕ → List Text
texts list = map name_text (names_in list)

-- where the line's end stands behind its names
at : (none one two names : Text) {n : ℕ} → none ≡ [] → length one ≡ length none + 6 → two ≡ one ++ names → n ≡ length two → n ≡ 6 + length names
at none one two names z p q r = omega (arith, ap (λ (t : Text). length t) z, p, ap (λ (t : Text). length t) q, length-append one names, r)

pub returns-then-len-eq-FIRST_NAME_AT : goal.returns-then-len-eq-FIRST_NAME_AT
returns-then-len-eq-FIRST_NAME_AT c =
    in_turn _ _ _ c.requires c.put.ensures.put c.put_names.ensures.put c.put-then-len-eq-FIRST_NAME_AT.ensures.put
    ∙ (unfold spelling in
    rw (← c.list_of.ensures.names)
    (zero-none (texts c.list_of.result) c.len.result (at _ _ _ _ c.requires c.put.ensures.len c.put_names.ensures.put c.len.ensures) c.if-len-eq-FIRST_NAME_AT.true))

pub returns : goal.returns
returns c =
    in_turn _ _ _ c.requires c.put.ensures.put c.put_names.ensures.put c.put-2.ensures.put
    ∙ (unfold spelling in
    rw (← c.list_of.ensures.names)
    (zero-some (texts c.list_of.result) c.len.result (at _ _ _ _ c.requires c.put.ensures.len c.put_names.ensures.put c.len.ensures) c.if-len-eq-FIRST_NAME_AT.false))
