-- `outer::product::multiply` meets its contract: the shape says how large the factors are. Assumes nothing.
use Rattle.std.proofs.Common.{◌≡◌, ℕ, ◌^◌, ◌≤◌, ℤ}
use lib.Signed.{mag}
use Rattle.outer.proofs.Shapes.{are_bytes, are_halves}
use Rattle.outer.proofs.Signed.{bytes_fit, bytes_product, halves_product}
use Rattle.outer.proofs.product.multiply.Goals as goal

-- factors of source elements of B bytes
small_as : {B C : ℕ} (x y : ℤ) → B ≡ C → (mag x ≤ 256 ^ B) × (mag y ≤ 256 ^ B) → (mag x ≤ 256 ^ C) × (mag y ≤ 256 ^ C)
small_as x y e h = rw e at h

pub overflow_mul-result : goal.overflow_mul-result
overflow_mul-result c = bytes_fit c.args.x c.args.y (small_as c.args.x c.args.y (are_bytes c.requires.shaped c.if-e-k.true) c.requires.x_bound)

pub returns-then-e-k : goal.returns-then-e-k
returns-then-e-k c = bytes_product c.args.x c.args.y (small_as c.args.x c.args.y (are_bytes c.requires.shaped c.if-e-k.true) c.requires.x_bound)

pub returns : goal.returns
returns c = halves_product c.args.x c.args.y (small_as c.args.x c.args.y (are_halves c.requires.shaped c.if-e-k.false) c.requires.x_bound)
