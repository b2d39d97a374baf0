-- Counts of sums of flags, of 64 bits.
use Rattle.std.specs.Prelude.{Bool, cond, not, ◌||◌, ℕ, eqb}
use Rattle.checks.specs.Tally.{sum}
use Rattle.refusals.specs.declared.Sums.{Sums}

abbrev pub no_sums : Sums
no_sums = record { sme = 0; i16i64 = 0; mop4 = 0; i16i64_mop4 = 0; sme2 = 0; others = 0 }

-- 0, or a sum that has its own count
abbrev pub known : ℕ → Bool
known n = ((((eqb n 0 || eqb n 1) || eqb n 2) || eqb n 4) || eqb n 6) || eqb n 8

abbrev pub with_sum : ℕ → Sums → Sums
with_sum n s =
    record {
      sme = sum s.sme (cond (eqb n 1) 1 0);
      i16i64 = sum s.i16i64 (cond (eqb n 2) 1 0);
      mop4 = sum s.mop4 (cond (eqb n 4) 1 0);
      i16i64_mop4 = sum s.i16i64_mop4 (cond (eqb n 6) 1 0);
      sme2 = sum s.sme2 (cond (eqb n 8) 1 0);
      others = sum s.others (cond (not (known n)) 1 0);
    }
