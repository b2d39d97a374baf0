-- What `order` finds in a list of words: pairs whose order matters, and words that stay where they are. Every feature is on.
use Rattle.std.specs.Prelude.{◌≡◌, Bool, true, false, not, cond, ℕ, zero, suc, ◌*◌, ◌/◌, ◌%◌, eqb, ltb, length, Result, Ok, Err}
use mathlib.Core.List.{List, [], ◌∷◌, ◌++◌, Mem, Permᴰ}
use Rattle.std.proofs.Math.Option.{some}
use Rattle.isa.specs.declared.Instruction.{Instruction}
use Rattle.isa.specs.declared.Refusal.{Refusal}
use Rattle.isa.specs.Table.{all_flags}
use Rattle.isa.specs.Answers.{decode_of}
use Rattle.storage.specs.Bytes.{at, word}
use Rattle.machine.specs.Machine.{Machine}
use Rattle.machine.specs.Instructions.{is_outer}
use Rattle.machine.specs.Lists.{played, most_words}
use Rattle.pairs.specs.Order.{some_below, order_matters}
use Rattle.pairs.specs.Claims.{Bytes}
use Rattle.order.specs.declared.Verdict.{Verdict}
use Rattle.order.specs.declared.Verdict.TheVariants.{OrderMatters, AnyOrder, AnyOrderBetween}
use Rattle.order.specs.declared.Unjudged.{Unjudged}
use Rattle.order.specs.declared.Unjudged.TheVariants.{NotWords, TooLong}

-- word i of the input, its lowest byte first
abbrev pub word_at : List ℕ → ℕ → ℕ
word_at bytes i = word 4 (at bytes) (4 * i)

-- ---- pairs: word i and an earlier one, among the first n words
abbrev pub paired_with : List ℕ → ℕ → ℕ → Bool
paired_with bytes i j = order_matters all_flags (word_at bytes j) (word_at bytes i)

abbrev pub any_pair : List ℕ → ℕ → Bool
any_pair bytes n = some_below (λ i. some_below (paired_with bytes i) i) n

-- ---- words that stay where they are: ZEROs, and refused words, at which a run stops
abbrev pub outer_decoded : Result Instruction Refusal → Bool
outer_decoded (Ok i) = is_outer (some i)
outer_decoded (Err r) = false

abbrev pub is_fixed : ℕ → Bool
is_fixed w = not (outer_decoded (decode_of all_flags w))

abbrev pub any_fixed : List ℕ → ℕ → Bool
any_fixed bytes n = some_below (λ i. is_fixed (word_at bytes i)) n

-- ---- what is said of a list
abbrev pub count_in : List ℕ → ℕ
count_in bytes = length bytes / 4

abbrev pub ends_in_mid_word : List ℕ → Bool
ends_in_mid_word bytes = not (eqb (length bytes % 4) 0)

abbrev pub is_too_long : List ℕ → Bool
is_too_long bytes = ltb (4 * most_words) (length bytes)

-- nothing by these two, in this order; then by whether there is a pair, and a fixed word
abbrev pub verdict : Bool → Bool → Bool → Bool → Result Verdict Unjudged
verdict broken long paired fixed =
    cond broken (Err NotWords) (cond long (Err TooLong) (cond paired (Ok OrderMatters) (cond fixed (Ok AnyOrderBetween) (Ok AnyOrder))))

abbrev pub verdict_of : List ℕ → Result Verdict Unjudged
verdict_of bytes = verdict (ends_in_mid_word bytes) (is_too_long bytes) (any_pair bytes (count_in bytes)) (any_fixed bytes (count_in bytes))

-- ---- what it means: the list in another order leaves the same, from any ZA, executed one at a time
abbrev pub words_from : (ℕ → ℕ) → ℕ → List ℕ
words_from f zero = []
words_from f (suc n) = f 0 ∷ words_from (λ j. f (suc j)) n

abbrev pub words : List ℕ → List ℕ
words bytes = words_from (word_at bytes) (count_in bytes)

abbrev pub SameEnd : List ℕ → List ℕ → Type 0
SameEnd ws os = (m : Machine) → m.bench.flags ≡ all_flags → Bytes m.za → played m ws ≡ played m os

abbrev pub NoneFixed : List ℕ → Type 0
NoneFixed ws = (w : ℕ) → Mem w ws → is_fixed w ≡ false

-- any order that moves no word past a fixed one: of the words behind the last of them, and of those before one
pub data Rearranged : List ℕ → List ℕ → Type 0 where
  behind : (ws os : List ℕ) → NoneFixed ws → Permᴰ ws os → Rearranged ws os
  before : (ws os : List ℕ) → NoneFixed ws → Permᴰ ws os → (w : ℕ) → is_fixed w ≡ true → (vs us : List ℕ) → Rearranged vs us
      → Rearranged (ws ++ (w ∷ vs)) (os ++ (w ∷ us))

pub record Means (bytes : List ℕ) : Type 0 where
  pub any_order : verdict_of bytes ≡ Ok AnyOrder → (os : List ℕ) → Permᴰ (words bytes) os → SameEnd (words bytes) os
  pub between_fixed : verdict_of bytes ≡ Ok AnyOrderBetween → (os : List ℕ) → Rearranged (words bytes) os → SameEnd (words bytes) os
