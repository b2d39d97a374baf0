-- Refusals: their numbers, what 8 hands back, and the order of tests (document 01, "Refusal numbers", and document 02, C-11,
-- C-15, C-17 and C-20).
use Rattle.std.specs.Prelude.{Bool, cond, List, [], ◌∷◌, ℕ, Result, Ok, Err}
use Rattle.std.proofs.Math.Option.{Option, none, some}
use Rattle.isa.specs.declared.Refusal.{Refusal}
use Rattle.isa.specs.declared.Refusal.TheVariants.{Flags, VectorLength, ZLength, PLength, ZaLength, ListLength, Unlisted, FeatureOff, StreamingOff, ZaOff, OutOfRange, Room, NotText, NotCleared, Version, Format}

abbrev pub number : Refusal → ℕ
number Flags = 1
number VectorLength = 2
number ZLength = 3
number PLength = 4
number ZaLength = 5
number ListLength = 6
number Unlisted = 7
number (FeatureOff sum) = 8
number StreamingOff = 9
number ZaOff = 10
number OutOfRange = 11
number Room = 12
number NotText = 13
number NotCleared = 14
number Version = 15
number Format = 16

-- the sum of flags that a refusal hands back; 0 beside any number but 8
abbrev pub missing_in : Refusal → ℕ
missing_in Flags = 0
missing_in VectorLength = 0
missing_in ZLength = 0
missing_in PLength = 0
missing_in ZaLength = 0
missing_in ListLength = 0
missing_in Unlisted = 0
missing_in (FeatureOff sum) = sum
missing_in StreamingOff = 0
missing_in ZaOff = 0
missing_in OutOfRange = 0
missing_in Room = 0
missing_in NotText = 0
missing_in NotCleared = 0
missing_in Version = 0
missing_in Format = 0

-- both are 0 where there is none
abbrev pub refusal_number : Option Refusal → ℕ
refusal_number none = 0
refusal_number (some r) = number r

abbrev pub refusal_missing : Option Refusal → ℕ
refusal_missing none = 0
refusal_missing (some r) = missing_in r

-- the refusal of an answer, if it has one, and what the paper has of an answer: the refusal's number, the sum that is handed
-- back beside it, and where the answer is a number, that number, which is 0 beside a refusal
abbrev pub refusal_in : {A : Type 0} → Result A Refusal → Option Refusal
refusal_in (Ok a) = none
refusal_in (Err r) = some r

abbrev pub number_in : {A : Type 0} → Result A Refusal → ℕ
number_in a = refusal_number (refusal_in a)

abbrev pub missing_beside : {A : Type 0} → Result A Refusal → ℕ
missing_beside a = refusal_missing (refusal_in a)

abbrev pub value_in : Result ℕ Refusal → ℕ
value_in (Ok v) = v
value_in (Err r) = 0

-- a test that input may fail, and the refusal that it then gets
pub record Test : Type 0 where
  pub fails : Bool
  pub gives : Refusal

-- tests are made in turn, and the first that fails decides
abbrev pub first_failure : List Test → Option Refusal
first_failure [] = none
first_failure (t ∷ ts) = cond t.fails (some t.gives) (first_failure ts)

-- a refusal, and where there is none, another
abbrev pub or_else : Option Refusal → Option Refusal → Option Refusal
or_else none s = s
or_else (some r) s = some r
