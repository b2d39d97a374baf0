-- `outer::clear::clear_row` meets its contract. Assumes nothing.
use Rattle.std.proofs.Common.{◌≡◌, ℕ, ◌%◌, true, eqb, eq-eqb, mul-le-mul_right, arith}
use Rattle.storage.proofs.Sizes.{legal-length}
use Rattle.outer.proofs.Rows.{row_cleared}
use Rattle.outer.proofs.clear.clear_row.Goals as goal

one_bit : (x : ℕ) → (x % 2 ≡ 0 → ⊥) → eqb (x % 2) 1 ≡ true
one_bit x d = eq-eqb (x % 2) 1 (omega arith)

pub returns : goal.returns
returns c =
    let b = mul-le-mul_right c.args.vb c.requires.2 in
    row_cleared c.args.vb c.args.mask c.args.row _ c.args.za.now _ (omega (arith, legal-length c.args.vb c.requires.0))
    (one_bit _ c.if-mask-tile-eq0.false) (omega arith) (c.fill.ensures.after (λ y e. e)) (omega (arith, c.requires.1, b))
