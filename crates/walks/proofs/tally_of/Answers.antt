-- `walks::tally_of` is safe: the buffers hold what the longest vector takes. Assumes nothing.
use Rattle.std.proofs.Common.{ℕ, ◌*◌, ◌≤◌, ◌≡◌, true, mul-le-mul, arith, length-take-le}
use Rattle.storage.specs.Sizes.{legal}
use Rattle.storage.proofs.Sizes.{legal-length}
use Rattle.walks.proofs.tally_of.Goals as goal

record Small (vb : ℕ) : Type 0 where
  most : vb ≤ 256
  square : vb * vb ≤ 65536

-- all that is made for the kind fits
small : (vb : ℕ) → legal vb ≡ true → Small vb
small vb h = let l = legal-length vb h in record { most = l.most; square = mul-le-mul l.most l.most }

pub overflow_mul-size : goal.overflow_mul-size
overflow_mul-size c = omega (arith, small c.args.kind.vb c.requires.length_legal)

pub overflow_mul-z : goal.overflow_mul-z
overflow_mul-z c = omega (arith, small c.args.kind.vb c.requires.length_legal)

pub slice_bounds-z-end : goal.slice_bounds-z-end
slice_bounds-z-end c = omega (arith, small c.args.kind.vb c.requires.length_legal)

pub overflow_mul-p : goal.overflow_mul-p
overflow_mul-p c = omega (arith, small c.args.kind.vb c.requires.length_legal)

pub slice_bounds-p-end : goal.slice_bounds-p-end
slice_bounds-p-end c = omega (arith, small c.args.kind.vb c.requires.length_legal)

pub slice_bounds-za-end : goal.slice_bounds-za-end
slice_bounds-za-end c = omega (arith, small c.args.kind.vb c.requires.length_legal)

pub slice_bounds-plain-end : goal.slice_bounds-plain-end
slice_bounds-plain-end c = omega (arith, small c.args.kind.vb c.requires.length_legal)

pub slice_bounds-start-end : goal.slice_bounds-start-end
slice_bounds-start-end c = omega (arith, small c.args.kind.vb c.requires.length_legal)

pub tally_cases-t-requires : goal.tally_cases-t-requires
tally_cases-t-requires c =
    let s = small c.args.kind.vb c.requires.length_legal in
    record {
      good = c.requires;
      z_sized = length-take-le _ _ (omega arith);
      p_sized = length-take-le _ _ (omega arith);
      za_sized = length-take-le _ _ (omega arith);
      plain_size = length-take-le _ _ (omega arith);
      start_size = length-take-le _ _ (omega arith);
    }
