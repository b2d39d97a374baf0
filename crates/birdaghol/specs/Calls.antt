-- What each exported function answers, as one number: value · 65,536 + missing · 256 + refusal (document 02, C-15).
use Rattle.std.specs.Prelude.{Bool, cond, ◌&&◌, ◌||◌, List, ℕ, ◌+◌, ◌*◌, eqb, Result}
use Rattle.std.proofs.Math.Option.{Option, none, some}
use Rattle.isa.specs.Refusals.{refusal_number, refusal_missing, refusal_in, value_in}
use Rattle.isa.specs.Answers.{decode_refusal, encode_of}
use Rattle.isa.specs.declared.Operation.{Operation}
use Rattle.isa.specs.declared.Instruction.{Instruction}
use Rattle.isa.specs.declared.Instruction.TheVariants.{Predicated, Quarter, Zero}
use Rattle.isa.specs.declared.Refusal.{Refusal}
use Rattle.isa.specs.declared.Refusal.TheVariants.{OutOfRange}
use Rattle.isa.specs.Table.{source}
use Rattle.text.specs.Printing.{print_of}
use Rattle.text.specs.Spelling.{Text}
use Rattle.reader.specs.Answers.{read_of}
use Rattle.machine.specs.declared.Bench.{Bench}
use Rattle.machine.specs.declared.Ended.{Ended}
use Rattle.machine.specs.Machine.{Machine}
use Rattle.machine.specs.Execution.{refusal_of}
use Rattle.machine.specs.Lists.{run_of}

abbrev pub packed : ℕ → ℕ → ℕ → ℕ
packed value missing refusal = value * 65536 + missing * 256 + refusal

-- a value beside a refusal, or beside none
abbrev pub answer : ℕ → Option Refusal → ℕ
answer value o = packed value (refusal_missing o) (refusal_number o)

-- a number or a refusal
abbrev pub packed_result : Result ℕ Refusal → ℕ
packed_result a = answer (value_in a) (refusal_in a)

-- ---- decode
abbrev pub decode_call : ℕ → ℕ → ℕ
decode_call flags w = answer 0 (decode_refusal flags w)

-- ---- print
abbrev pub print_call : ℕ → ℕ → ℕ → ℕ
print_call flags w room = packed_result (print_of flags w room)

-- ---- read
abbrev pub read_call : ℕ → Text → ℕ
read_call flags t = packed_result (read_of flags t)

-- ---- encode: the description that the arguments ask for; tile elements of other than 4 or 8 bytes, or other than 2 or 4
-- products, ask for none
abbrev pub sized : ℕ → ℕ → Instruction → Option Instruction
sized bytes products i = cond ((eqb bytes 4 || eqb bytes 8) && (eqb products 2 || eqb products 4)) (some i) none

abbrev pub operation : ℕ → ℕ → Bool → Bool → Bool → Operation
operation bytes products u0 u1 subtract =
    record { wide = eqb bytes 8; two_way = eqb products 2; u0 = u0; u1 = u1; subtract = subtract }

abbrev pub asked_predicated : ℕ → ℕ → Bool → Bool → Bool → ℕ → ℕ → ℕ → ℕ → ℕ → Instruction
asked_predicated bytes products u0 u1 subtract tile pn pm zn zm =
    Predicated
    (record {
      op = operation bytes products u0 u1 subtract;
      tile = record { 0 = tile };
      pn = record { 0 = pn };
      pm = record { 0 = pm };
      zn = record { 0 = zn };
      zm = record { 0 = zm };
    })

abbrev pub asked_quarter : ℕ → ℕ → Bool → Bool → Bool → ℕ → ℕ → Bool → ℕ → Bool → Instruction
asked_quarter bytes products u0 u1 subtract tile first first_pair second second_pair =
    Quarter
    (record {
      op = operation bytes products u0 u1 subtract;
      tile = record { 0 = tile };
      first = source first_pair first;
      second = source second_pair second;
    })

abbrev pub encode_call : Option Instruction → ℕ
encode_call none = answer 0 (some OutOfRange)
encode_call (some i) = packed_result (encode_of i)

abbrev pub predicated_call : ℕ → ℕ → Bool → Bool → Bool → ℕ → ℕ → ℕ → ℕ → ℕ → ℕ
predicated_call bytes products u0 u1 subtract tile pn pm zn zm =
    encode_call (sized bytes products (asked_predicated bytes products u0 u1 subtract tile pn pm zn zm))

abbrev pub quarter_call : ℕ → ℕ → Bool → Bool → Bool → ℕ → ℕ → Bool → ℕ → Bool → ℕ
quarter_call bytes products u0 u1 subtract tile first first_pair second second_pair =
    encode_call (sized bytes products (asked_quarter bytes products u0 u1 subtract tile first first_pair second second_pair))

abbrev pub zero_call : ℕ → ℕ
zero_call mask = encode_call (some (Zero mask))

-- ---- execute and run
abbrev pub bench_of : ℕ → Bool → Bool → ℕ → Bench
bench_of flags streaming za_on vb = record { flags = flags; sm = streaming; za = za_on; vb = vb }

abbrev pub execute_call : Machine → ℕ → ℕ
execute_call m w = answer 0 (refusal_of m w)

-- the count stands beside a refusal too
abbrev pub packed_ended : Ended → ℕ
packed_ended e = answer e.count (refusal_in e.outcome)

abbrev pub run_call : Machine → List ℕ → ℕ
run_call m ws = packed_ended (run_of m ws)
