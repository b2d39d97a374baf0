-- `reader::line::read` meets its contract: no other word than the guessed one can have the line. Assumes nothing.
use mathlib.Core.Path.{◌≡◌, ◌∙◌, sym, refl, ap, ap₂}
use mathlib.Core.Option.{Option}
use mathlib.Core.Bool.{Bool, true, false, not}
use Prim.Native.Nat.{ℕ, ◌≤◌, ◌<◌}
use lib.Dec.{ltb}
use borrow.Author.Tests.{ltb-true, ltb-false, not-true, not-false}
use Rattle.std.specs.Prelude.{Result, Ok}
use Rattle.isa.specs.Refusals.{missing_beside, number_in, value_in}
use Rattle.isa.specs.Table.{all_flags}
use Rattle.isa.specs.Answers.{encode_of, decode_refusal}
use Rattle.isa.specs.declared.Refusal.{Refusal}
use Rattle.isa.specs.declared.Instruction.{Instruction}
use Rattle.text.specs.Spelling.{Text}
use Rattle.reader.specs.Answers.{has_text, read_of, read_number, read_missing, read_word}
use Rattle.reader.specs.Guess.{guess_of, verdict}
use Rattle.isa.proofs.Refusals.{handed_on}
use Rattle.reader.proofs.Readings.{read_flags, guess_word, guess_refused}
use Rattle.reader.proofs.line.read.Goals as goal

-- flags that are no sum of features, or that are one
illegal : {flags : ℕ} {b : Bool} → b ≡ not (ltb all_flags flags) → b ≡ false → all_flags < flags
illegal e p = ltb-true _ _ (not-false _ (sym e ∙ p))

legal : {flags : ℕ} {b : Bool} → b ≡ not (ltb all_flags flags) → b ≡ true → flags ≤ all_flags
legal e p = ltb-false _ _ (not-true _ (sym e ∙ p))

-- what encode answered is encode's answer to the guess
encoded : (t : Text) {i : Instruction} {e a : Result ℕ Refusal} → i ≡ guess_of t → e ≡ encode_of i → e ≡ a → encode_of (guess_of t) ≡ a
encoded t g e p = ap encode_of (sym g) ∙ sym e ∙ p

-- an answer that is the definition's has its number, its sum and its word
answers : (flags : ℕ) (t : Text) {r : Result ℕ Refusal} → r ≡ read_of flags t → record {
  answer : r ≡ read_of flags t;
  number : number_in r ≡ read_number flags t;
  missing : missing_beside r ≡ read_missing flags t;
  word : value_in r ≡ read_word flags t;
}
answers flags t p = record { answer = p; number = ap number_in p; missing = ap missing_beside p; word = ap value_in p }

pub returns-then-not-flags_legal : goal.returns-then-not-flags_legal
returns-then-not-flags_legal c = answers _ _ (sym (read_flags _ c.args.line.now (illegal c.flags_legal.ensures c.if-not-flags_legal.true)))

pub returns-in_default : goal.returns-in_default
returns-in_default c =
    answers _ _
    (guess_refused _ _ _ (legal c.flags_legal.ensures c.if-not-flags_legal.false) (encoded _ c.guess.ensures c.encode.ensures.answer c.in_default.is))

-- what the guessed word gets, by whether it has the line and what check makes of it
verdict_is : (flags : ℕ) (t : Text) {w : ℕ} {b : Bool} {o : Option Refusal} → flags ≤ all_flags → encode_of (guess_of t) ≡ Ok w
    → has_text w t ≡ b → decode_refusal flags w ≡ o → verdict w b o ≡ read_of flags t
verdict_is flags t {w} l e p q = ap₂ (verdict w) (sym p) (sym q) ∙ guess_word _ _ _ l e

pub returns-then-not-spelt : goal.returns-then-not-spelt
returns-then-not-spelt c =
    let l = legal c.flags_legal.ensures c.if-not-flags_legal.false in
    let e = encoded _ c.guess.ensures c.encode.ensures.answer c.in-Ok.is in
    answers _ _ (verdict_is _ _ l e (sym c.has_text-spelt.ensures ∙ c.if-not-spelt.true) refl)

pub returns-in_err-check : goal.returns-in_err-check
returns-in_err-check c =
    let l = legal c.flags_legal.ensures c.if-not-flags_legal.false in
    let e = encoded _ c.guess.ensures c.encode.ensures.answer c.in-Ok.is in
    answers _ _
    (handed_on c.from_residual.ensures.1
    ∙ verdict_is _ _ l e (sym c.has_text-spelt.ensures ∙ c.if-not-spelt.false) (sym c.in_err-check.ensures.refusal))

pub returns : goal.returns
returns c =
    let l = legal c.flags_legal.ensures c.if-not-flags_legal.false in
    let e = encoded _ c.guess.ensures c.encode.ensures.answer c.in-Ok.is in
    answers _ _ (verdict_is _ _ l e (sym c.has_text-spelt.ensures ∙ c.if-not-spelt.false) (sym c.in_ok-check.ensures.refusal))
