-- `isa::encoder::encode` meets its contract, by the test of the range. Assumes nothing.
use mathlib.Core.Path.{◌≡◌, ◌∙◌, sym, ap}
use Prim.Native.Nat.{ℕ}
use Rattle.std.specs.Prelude.{Result, Ok}
use Rattle.isa.specs.Refusals.{number_in, value_in}
use Rattle.isa.specs.Answers.{encode_of, encode_number, encode_word}
use Rattle.isa.specs.declared.Instruction.{Instruction}
use Rattle.isa.specs.declared.Refusal.{Refusal}
use Rattle.isa.proofs.Answers.{encode_in_range, encode_out_of_range}
use Rattle.isa.proofs.encoder.encode.Goals as goal

-- an answer that is the definition's has its number and its word
answers : (i : Instruction) {r : Result ℕ Refusal} → r ≡ encode_of i → record {
  answer : r ≡ encode_of i;
  number : number_in r ≡ encode_number i;
  word : value_in r ≡ encode_word i;
}
answers i p = record { answer = p; number = ap number_in p; word = ap value_in p }

pub returns-then-in_range : goal.returns-then-in_range
returns-then-in_range c = answers _ (ap Ok c.word_for.ensures ∙ sym (encode_in_range _ (sym c.in_range.ensures ∙ c.if-in_range.true)))

pub returns-else-in_range : goal.returns-else-in_range
returns-else-in_range c = answers _ (sym (encode_out_of_range _ (sym c.in_range.ensures ∙ c.if-in_range.false)))
