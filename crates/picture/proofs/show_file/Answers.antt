-- `picture::show_file` meets its contract: by what was read. Assumes nothing.
use mathlib.Core.Path.{refl, sym}
use native.Mathlib.Nat.{mul-le-mul}
use native.Mathlib.Omega.{arith}
use Rattle.isa.proofs.Refusals.{handed_on}
use Rattle.capture.proofs.Numbers.{within}
use Rattle.capture.proofs.Theorems.{refused_roomy, contents_there}
use Rattle.picture.specs.Images.Shows.{refused}
use Rattle.picture.proofs.Drawing.{show_drawn}
use Rattle.picture.proofs.show_file.Goals as goal

pub overflow_mul-vb : goal.overflow_mul-vb
overflow_mul-vb c = let l = (contents_there c.read.ensures.reads c.in_ok-contents.was).vb_most in omega (arith, mul-le-mul l l)

pub slice_bounds-draw-end : goal.slice_bounds-draw-end
slice_bounds-draw-end c = within _ _ (contents_there c.read.ensures.reads c.in_ok-contents.was).za

pub slice_bounds-draw-end-2 : goal.slice_bounds-draw-end-2
slice_bounds-draw-end-2 c = sym (contents_there c.read.ensures.reads c.in_ok-contents.was).za

pub draw-requires : goal.draw-requires
draw-requires c =
    let t = contents_there c.read.ensures.reads c.in_ok-contents.was in
    (t.vb_most, omega (arith, t.za, mul-le-mul t.vb_most t.vb_most), c.requires.1)

pub returns-in_err-contents : goal.returns-in_err-contents
returns-in_err-contents c = refused _ (refused_roomy c.requires.0 c.read.ensures.reads c.in_err-contents.was) (handed_on c.from_residual.ensures.1) refl

pub returns : goal.returns
returns c =
    let e = c.draw.ensures in
    show_drawn c.read.ensures.reads c.in_ok-contents.was c.args.room.now _ _ c.requires.1 e.answer e.room_after
