-- `text::line::Line::put_names` meets its contract: after i turns the names of the list's lowest i digits stand on the line. Assumes nothing.
use mathlib.Core.Path.{◌≡◌, ◌∙◌, ap}
use mathlib.Core.List.{◌++◌, append_assoc}
use Prim.Native.Nat.{ℕ}
use native.Mathlib.Omega.{arith}
use lib.ListN.{length, length-append}
use Rattle.text.specs.Spelling.{Text}
use Rattle.text.specs.Put.{listed}
use Rattle.text.proofs.Texts.{shown_more}
use Rattle.text.proofs.line.Line.put_names.Goals as goal

-- a text behind another, behind a line
behind : (before one two shown more : Text) (d : ℕ) → one ≡ before ++ shown → two ≡ one ++ listed (length one) d → shown ++ listed (length one) d ≡ more → two ≡ before ++ more
behind before one two shown more d p q r = q ∙ ap (λ (t : Text). t ++ listed (length one) d) p ∙ append_assoc before shown (listed (length one) d) ∙ ap (λ (t : Text). before ++ t) r

pub loop-i-preserved : goal.loop-i-preserved
loop-i-preserved c =
    let l = c.loop-i in
    let p = c.put_listed.ensures in
    record {
      put = behind _ _ _ _ _ _ l.invariant.put p.put (shown_more l.i c.args.list (length l.self) (omega (arith, ap length l.invariant.put, length-append {A = ℕ}, c.requires)));
      short = omega (arith, p.short, l.invariant.short);
    }
