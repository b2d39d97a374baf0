-- What describe answers and leaves, by what decode answers, and that the numbers encode to the word again. Assumes nothing.
use mathlib.Core.Path.{◌≡◌, ◌∙◌, sym, refl, ap}
use mathlib.Core.Bool.{Bool, true, false, cond}
use mathlib.Core.List.{List, ◌++◌}
use mathlib.Core.Option.{none, some}
use Prim.Native.Nat.{ℕ, ◌<◌, ◌^◌}
use native.Mathlib.Omega.{arith}
use lib.Dec.{eqb, ltb}
use lib.ListN.{length, take, drop}
use lib.Seq.{take-append_seam, drop-append_seam}
use Rattle.std.specs.Prelude.{Err, Ok}
use Rattle.isa.specs.Refusals.{first_failure}
use Rattle.isa.specs.Table.{bit, one?, register, element_bytes, products_of}
use Rattle.isa.specs.Answers.{describe, decode_of}
use Rattle.isa.specs.Claims.{HandsBack}
use Rattle.isa.specs.declared.Operation.{Operation}
use Rattle.isa.specs.declared.Instruction.{Instruction}
use Rattle.isa.specs.declared.Instruction.TheVariants.{Predicated, Quarter, Zero}
use Rattle.isa.specs.declared.Refusal.{Refusal}
use Rattle.isa.specs.declared.Refusal.TheVariants.{Room}
use Rattle.isa.proofs.Answers.{decode_passed, room_refused, room_passed, encode_in_range}
use Rattle.isa.proofs.Sums.{handed, room_fair}
use Rattle.isa.proofs.Lines.{one_bit, source_back}
use Rattle.isa.proofs.Theorems.{described_is}
use Rattle.text.specs.Printing.{filled}
use Rattle.text.proofs.Theorems.{Outcome, fits, short, refused}
use Rattle.birdaghol.specs.Calls.{answer, sized, operation, packed_result, encode_call}
use Rattle.birdaghol.specs.Fields.{numbers_of, numbers_in, field_count, describe_tests, describe_number, describe_missing, describe_call, fields_after, encode_numbers}

-- every description has as many numbers
pub numbers_length : (i : Instruction) → length (numbers_of i) ≡ field_count
numbers_length (Predicated p) = refl
numbers_length (Quarter q) = refl
numbers_length (Zero mask) = refl

-- ---- by decode's answer
module _ (flags w : ℕ) (i : Instruction) (p : decode_of flags w ≡ Ok i) where
  accepted-tests : (n : ℕ) → first_failure (describe_tests flags w n) ≡ cond (ltb n field_count) (some Room) none
  accepted-tests n = room_passed flags w n (length (numbers_in (describe w))) i p ∙ rw ((decode_passed flags w i p).1, numbers_length i)

  pub call_accepted : (n : ℕ) → describe_call flags w n ≡ answer 0 (cond (ltb n field_count) (some Room) none)
  call_accepted n = ap (answer 0) (accepted-tests n)

  pub fields_accepted : (fields : List ℕ) → fields_after flags w fields ≡ cond (ltb (length fields) field_count) fields (numbers_of i ++ drop field_count fields)
  fields_accepted fields = rw (accepted-tests (length fields), (decode_passed flags w i p).1) (go (ltb (length fields) field_count))
    where
      go : (b : Bool) → filled (cond b (some Room) none) (numbers_of i) fields ≡ cond b fields (numbers_of i ++ drop field_count fields)
      go true = refl
      go false = rw (numbers_length i)

module _ (flags w : ℕ) (r : Refusal) (p : decode_of flags w ≡ Err r) where
  pub call_refused : (n : ℕ) → describe_call flags w n ≡ answer 0 (some r)
  call_refused n = rw (room_refused flags w n (length (numbers_in (describe w))) r p)

  pub fields_refused : (fields : List ℕ) → fields_after flags w fields ≡ fields
  fields_refused fields = rw (room_refused flags w (length fields) (length (numbers_in (describe w))) r p)

pub describe_handed : (flags w n : ℕ) → HandsBack flags w (describe_number flags w n) (describe_missing flags w n)
describe_handed flags w n = handed flags w (describe_tests flags w n) (room_fair flags w n (length (numbers_in (describe w))))

-- ---- the numbers encode to the word again
operation_again : (op : Operation)
    → operation (element_bytes op) (products_of op) (one? (bit op.u0)) (one? (bit op.u1)) (one? (bit op.subtract)) ≡ op
operation_again op = rw (one_bit op.u0, one_bit op.u1, one_bit op.subtract, wide op.wide, two op.two_way)
  where
    wide : (b : Bool) → eqb (cond b 8 4) 8 ≡ b
    wide true = refl
    wide false = refl

    two : (b : Bool) → eqb (cond b 2 4) 2 ≡ b
    two true = refl
    two false = refl

sized_again : (op : Operation) (i : Instruction) → sized (element_bytes op) (products_of op) i ≡ some i
sized_again op i = go op.wide op.two_way
  where
    go : (wide two : Bool) → sized (cond wide 8 4) (cond two 2 4) i ≡ some i
    go true true = refl
    go true false = refl
    go false true = refl
    go false false = refl

encoded_again : (i : Instruction) (rest : List ℕ) → encode_numbers (numbers_of i ++ rest) ≡ encode_call (some i)
encoded_again (Predicated p) rest = rw (operation_again p.op) (ap encode_call (sized_again p.op (Predicated p)))
encoded_again (Quarter q) rest =
    rw (operation_again q.op, source_back q.first (register q.first) refl, source_back q.second (register q.second) refl)
    (ap encode_call (sized_again q.op (Quarter q)))
encoded_again (Zero mask) rest = refl

-- what is known of the numbers of an accepted word
pub record Described (w : ℕ) (numbers : List ℕ) : Type 0 where
  pub count : length numbers ≡ field_count
  pub encodes : w < 2 ^ 32 → (rest : List ℕ) → encode_numbers (numbers ++ rest) ≡ answer w none

pub numbers_described : (flags w : ℕ) (i : Instruction) → decode_of flags w ≡ Ok i → Described w (numbers_in (describe w))
numbers_described flags w i p =
    let d = (decode_passed flags w i p).1 in
    rw d
    (record {
      count = numbers_length i;
      encodes = λ h rest. let (r, e) = described_is w i h d in encoded_again i rest ∙ ap packed_result (encode_in_range i r ∙ ap Ok e);
    })

-- ---- what is left of such an outcome
module _ {w : ℕ} {t fields : List ℕ} where
  pub fields_rest : {d p n : ℕ} {after : List ℕ} → Outcome (Described w t) t fields d p n after → drop field_count after ≡ drop field_count fields
  fields_rest (fits h q) =
      ap (λ (k : ℕ). drop k (t ++ drop (length t) fields)) (sym q.count) ∙ drop-append_seam t (drop (length t) fields)
      ∙ ap (λ (k : ℕ). drop k fields) q.count
  fields_rest (short h q) = refl
  fields_rest (refused h l) = refl

  pub fields_numbers : {d p n : ℕ} {after : List ℕ} → Outcome (Described w t) t fields d p n after → p ≡ 0 → take field_count after ≡ t
  fields_numbers (fits h q) e = ap (λ (k : ℕ). take k (t ++ drop (length t) fields)) (sym q.count) ∙ take-append_seam t (drop (length t) fields)
  fields_numbers (short h q) e = absurd (omega arith)
  fields_numbers (refused h l) e = absurd (omega arith)

  pub fields_encoded : {d p n : ℕ} {after : List ℕ} → Outcome (Described w t) t fields d p n after → w < 2 ^ 32 → p ≡ 0 → encode_numbers after ≡ answer w none
  fields_encoded (fits h q) l e = q.encodes l (drop (length t) fields)
  fields_encoded (short h q) l e = absurd (omega arith)
  fields_encoded (refused h k) l e = absurd (omega arith)
