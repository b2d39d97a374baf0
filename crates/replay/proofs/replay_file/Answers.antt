-- `replay::replay_file` meets its contract: by what was read. Assumes nothing.
use mathlib.Core.Path.{refl, sym}
use native.Mathlib.Nat.{mul-le-mul}
use native.Mathlib.Omega.{arith}
use Rattle.isa.proofs.Refusals.{handed_on}
use Rattle.capture.proofs.Numbers.{within}
use Rattle.capture.proofs.Theorems.{refused_roomy, contents_there}
use Rattle.replay.specs.Replays.Replays.{refused}
use Rattle.replay.proofs.Replaying.{replay_ran}
use Rattle.replay.proofs.replay_file.Goals as goal

pub slice_bounds-run_and_write-end : goal.slice_bounds-run_and_write-end
slice_bounds-run_and_write-end c = within _ _ (contents_there c.read.ensures.reads c.in_ok-contents.was).words

pub slice_bounds-run_and_write-end-2 : goal.slice_bounds-run_and_write-end-2
slice_bounds-run_and_write-end-2 c = sym (contents_there c.read.ensures.reads c.in_ok-contents.was).words

pub overflow_mul-vb : goal.overflow_mul-vb
overflow_mul-vb c = omega (arith, (contents_there c.read.ensures.reads c.in_ok-contents.was).vb_most)

pub slice_bounds-run_and_write-end-3 : goal.slice_bounds-run_and_write-end-3
slice_bounds-run_and_write-end-3 c = within _ _ (contents_there c.read.ensures.reads c.in_ok-contents.was).z

pub slice_bounds-run_and_write-end-4 : goal.slice_bounds-run_and_write-end-4
slice_bounds-run_and_write-end-4 c = sym (contents_there c.read.ensures.reads c.in_ok-contents.was).z

pub overflow_mul-vb-2 : goal.overflow_mul-vb-2
overflow_mul-vb-2 c = omega (arith, (contents_there c.read.ensures.reads c.in_ok-contents.was).vb_most)

pub slice_bounds-run_and_write-end-5 : goal.slice_bounds-run_and_write-end-5
slice_bounds-run_and_write-end-5 c = within _ _ (contents_there c.read.ensures.reads c.in_ok-contents.was).p

pub slice_bounds-run_and_write-end-6 : goal.slice_bounds-run_and_write-end-6
slice_bounds-run_and_write-end-6 c = sym (contents_there c.read.ensures.reads c.in_ok-contents.was).p

pub overflow_mul-vb-3 : goal.overflow_mul-vb-3
overflow_mul-vb-3 c =
    let l = (contents_there c.read.ensures.reads c.in_ok-contents.was).vb_most in
    omega (arith, mul-le-mul l l)

pub slice_bounds-run_and_write-end-7 : goal.slice_bounds-run_and_write-end-7
slice_bounds-run_and_write-end-7 c = within _ _ (contents_there c.read.ensures.reads c.in_ok-contents.was).za

pub slice_bounds-run_and_write-end-8 : goal.slice_bounds-run_and_write-end-8
slice_bounds-run_and_write-end-8 c = sym (contents_there c.read.ensures.reads c.in_ok-contents.was).za

pub returns-in_err-contents : goal.returns-in_err-contents
returns-in_err-contents c = refused _ (refused_roomy c.requires.0 c.read.ensures.reads c.in_err-contents.was) (handed_on c.from_residual.ensures.1) refl

pub returns : goal.returns
returns c =
    let e = c.run_and_write.ensures in
    replay_ran c.read.ensures.reads c.in_ok-contents.was _ c.args.room.now _ c.requires.1 e.answer e.room_after
