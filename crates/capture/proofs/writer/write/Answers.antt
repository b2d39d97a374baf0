-- `capture::writer::write` meets its contract. Assumes nothing.
use mathlib.Core.Path.{◌≡◌, ◌∙◌, refl}
use native.Mathlib.Omega.{arith}
use lib.ListN.{length}
use Rattle.std.specs.Prelude.{Ok}
use Rattle.isa.specs.Refusals.{first_failure}
use Rattle.isa.proofs.Refusals.{handed_on}
use Rattle.machine.specs.Lists.{start_tests}
use Rattle.machine.proofs.Tests.{outcome_done, outcome_refused}
use Rattle.capture.specs.Format.{capture_of}
use Rattle.capture.proofs.Captures.{Bounds, bounds, begun}
use Rattle.capture.proofs.Writing.{numbered, write_refused, write_short, write_done}
use Prim.Native.Nat.{ℕ}
use Rattle.machine.specs.declared.Bench.{Bench}
use Rattle.machine.specs.Execution.{outcome}
use Rattle.capture.proofs.writer.write.Goals as goal
use Rattle.capture.proofs.writer.write.Goals.{In_ok-check_run}

-- what tests 1 to 6 make sure of
small : (b : Bench) (z p za words : ℕ) → Ok tt ≡ outcome (first_failure (start_tests b z p za words)) → Bounds b.vb z p za
small b z p za words e = bounds b z p za (begun b z p za words (outcome_done _ e)).0

-- the sizes of the parts add up to what a machine can hold
few : (c : In_ok-check_run) → Bounds c.args.bench.vb (length c.args.z.now) (length c.args.p.now) (length c.args.za.now)
few c = let a = c.args in small a.bench (length a.z.now) (length a.p.now) (length a.za.now) (length a.words.now) c.in_ok-check_run.ensures.answer

pub overflow_add-n : goal.overflow_add-n
overflow_add-n c = omega (arith, few c)

pub overflow_add-n-2 : goal.overflow_add-n-2
overflow_add-n-2 c = omega (arith, few c)

pub overflow_add-n-3 : goal.overflow_add-n-3
overflow_add-n-3 c = omega (arith, few c)

pub overflow_add-n-4 : goal.overflow_add-n-4
overflow_add-n-4 c = omega (arith, few c)

pub returns-in_err-check_run : goal.returns-in_err-check_run
returns-in_err-check_run c =
    let a = c.args in
    let (e, f) = write_refused (capture_of a.bench a.words.now a.z.now a.p.now a.za.now) a.room.now _ (outcome_refused _ _ c.in_err-check_run.ensures.answer) in
    numbered (handed_on c.from_residual.ensures.1 ∙ e, f)

pub returns-then-room-n : goal.returns-then-room-n
returns-then-room-n c =
    let a = c.args in
    numbered
    (write_short (capture_of a.bench a.words.now a.z.now a.p.now a.za.now) a.room.now
    (outcome_done _ c.in_ok-check_run.ensures.answer) c.if-room-n.true)

pub fill-requires : goal.fill-requires
fill-requires c =
    let a = c.args in
    let (b, w) = begun a.bench (length a.z.now) (length a.p.now) (length a.za.now) (length a.words.now)
    (outcome_done _ c.in_ok-check_run.ensures.answer) in
    let s = bounds a.bench (length a.z.now) (length a.p.now) (length a.za.now) b in
    record { bounds = (b.flags, s.vb_most, w, s.z_most, s.p_most, s.za_most); fits = c.if-room-n.false }

pub returns : goal.returns
returns c =
    let a = c.args in
    let (d, e) = write_done (capture_of a.bench a.words.now a.z.now a.p.now a.za.now) a.room.now _
    (outcome_done _ c.in_ok-check_run.ensures.answer) refl c.if-room-n.false in
    numbered (d, c.fill.ensures ∙ e)
