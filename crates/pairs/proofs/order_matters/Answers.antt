-- `pairs::order_matters` meets its contract: by what decode says of both words. Assumes nothing.
use mathlib.Core.Path.{◌≡◌, refl, ◌∙◌, sym, ap₂}
use mathlib.Core.Bool.{false}
use mathlib.Core.Option.{Option, none, some}
use Prim.Native.Nat.{ℕ}
use Rattle.std.specs.Prelude.{Result}
use Rattle.isa.specs.declared.Instruction.{Instruction}
use Rattle.isa.specs.declared.Refusal.{Refusal}
use Rattle.isa.specs.Answers.{decode_of}
use Rattle.isa.proofs.Theorems.{accepted_in_range}
use Rattle.machine.specs.Instructions.{TileName, tile_named}
use Rattle.pairs.specs.Order.{clash, tile_decoded, order_matters}
use Rattle.pairs.proofs.order_matters.Goals as goal

clash-none : (x : Option TileName) → clash x none ≡ false
clash-none none = refl
clash-none (some n) = refl

by_decode : (flags a b : ℕ) (d e : Result Instruction Refusal) → decode_of flags a ≡ d → decode_of flags b ≡ e → order_matters flags a b ≡ clash (tile_decoded d) (tile_decoded e)
unfolding order_matters
by_decode flags a b d e p q = ap₂ (λ x y. clash (tile_decoded x) (tile_decoded y)) p q

pub instructions_clash-requires : goal.instructions_clash-requires
instructions_clash-requires c = (accepted_in_range _ _ _ (sym c.in-Ok.ensures.answer), accepted_in_range _ _ _ (sym c.in-Ok-decode.ensures.answer))

pub returns-in_default : goal.returns-in_default
returns-in_default c = let a = c.args in sym (by_decode a.flags a.a a.b _ _ (sym c.in_default.ensures.answer) refl)

pub returns-in_default-decode : goal.returns-in_default-decode
returns-in_default-decode c =
    let a = c.args in
    sym (by_decode a.flags a.a a.b _ _ (sym c.in-Ok.ensures.answer) (sym c.in_default-decode.ensures.answer) ∙ clash-none (tile_named (some c.in-Ok.i)))

pub returns : goal.returns
returns c =
    let a = c.args in
    c.instructions_clash.ensures ∙ sym (by_decode a.flags a.a a.b _ _ (sym c.in-Ok.ensures.answer) (sym c.in-Ok-decode.ensures.answer))
