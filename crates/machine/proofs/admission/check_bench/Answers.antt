-- `machine::admission::check_bench` meets its contract: each test after those before it passed. Assumes nothing.
use mathlib.Core.Path.{◌∙◌, sym, ap}
use native.Mathlib.Nat.{mul-le-mul}
use native.Mathlib.Omega.{arith}
use Rattle.storage.proofs.Sizes.{legal-length}
use Rattle.machine.specs.Execution.{outcome}
use Rattle.machine.proofs.Numbers.{bench_1, bench_2, bench_3, bench_4, bench_5, bench_none}
use Rattle.isa.proofs.Answers.{flags_fit, flags_exceed}
use Rattle.machine.proofs.admission.check_bench.Goals as goal

-- ---- the answers
pub returns-then-not-flags_legal : goal.returns-then-not-flags_legal
returns-then-not-flags_legal c =
    let a = c.args in
    sym (ap outcome (bench_1 a.bench a.z a.p a.za (flags_exceed c.flags_legal.ensures c.if-not-flags_legal.true)))

pub returns-then-not-is_legal : goal.returns-then-not-is_legal
returns-then-not-is_legal c =
    let a = c.args in
    sym (ap outcome (bench_2 a.bench a.z a.p a.za (flags_fit c.flags_legal.ensures c.if-not-flags_legal.false) (sym c.is_legal.ensures ∙ c.if-not-is_legal.true)))

pub overflow_mul-vb : goal.overflow_mul-vb
overflow_mul-vb c = omega (arith, legal-length c.args.bench.vb (sym c.is_legal.ensures ∙ c.if-not-is_legal.false))

pub returns-then-z-vb : goal.returns-then-z-vb
returns-then-z-vb c =
    let a = c.args in
    sym (ap outcome (bench_3 a.bench a.z a.p a.za (flags_fit c.flags_legal.ensures c.if-not-flags_legal.false) (sym c.is_legal.ensures ∙ c.if-not-is_legal.false) c.if-z-vb.true))

pub overflow_mul-vb-2 : goal.overflow_mul-vb-2
overflow_mul-vb-2 c = omega (arith, legal-length c.args.bench.vb (sym c.is_legal.ensures ∙ c.if-not-is_legal.false))

pub returns-then-p-vb : goal.returns-then-p-vb
returns-then-p-vb c =
    let a = c.args in
    sym (ap outcome (bench_4 a.bench a.z a.p a.za (flags_fit c.flags_legal.ensures c.if-not-flags_legal.false) (sym c.is_legal.ensures ∙ c.if-not-is_legal.false) c.if-z-vb.false c.if-p-vb.true))

pub overflow_mul-vb-3 : goal.overflow_mul-vb-3
overflow_mul-vb-3 c = let l = legal-length c.args.bench.vb (sym c.is_legal.ensures ∙ c.if-not-is_legal.false) in omega (arith, mul-le-mul l.most l.most)

pub returns-then-za-vb : goal.returns-then-za-vb
returns-then-za-vb c =
    let a = c.args in
    sym (ap outcome (bench_5 a.bench a.z a.p a.za (flags_fit c.flags_legal.ensures c.if-not-flags_legal.false) (sym c.is_legal.ensures ∙ c.if-not-is_legal.false) c.if-z-vb.false c.if-p-vb.false c.if-za-vb.true))

pub returns : goal.returns
returns c =
    let a = c.args in
    sym (ap outcome (bench_none a.bench a.z a.p a.za (flags_fit c.flags_legal.ensures c.if-not-flags_legal.false) (sym c.is_legal.ensures ∙ c.if-not-is_legal.false) c.if-z-vb.false c.if-p-vb.false c.if-za-vb.false))
