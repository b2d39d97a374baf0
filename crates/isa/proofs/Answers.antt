-- What decode and encode answer, by what is found in the table: the laws that a caller uses. Assumes nothing.
use mathlib.Core.Path.{◌≡◌, ◌∙◌, sym, refl, ap}
use mathlib.Core.Bool.{Bool, true, false, not, cond}
use mathlib.Core.List.{List, [], ◌∷◌, Memᴰ}
use mathlib.Core.Option.{Option, none, some}
use Prim.Native.Nat.{ℕ, ◌+◌, ◌≤◌, ◌<◌}
use native.Mathlib.Omega.{arith}
use lib.Dec.{eqb, ltb}
use borrow.Author.Tests.{lt-ltb, le-ltb, ltb-true, ltb-false, not-true, not-false, eq-eqb, ne_eqb}
use Rattle.std.specs.Prelude.{Err, Ok, Result}
use Rattle.isa.specs.Row.{matches}
use Rattle.isa.specs.Refusals.{first_failure}
use Rattle.isa.specs.Table.{Feature, flag, SME, I16I64, MOP4, SME2, on, lacking, all_flags, Entry, table, described, in_range, word_for}
use Rattle.isa.specs.Answers.{lookup, describe, missing, decode_tests, room_tests, decided, decode_of, decode_refusal, encode_of}
use Rattle.isa.specs.Claims.{AllOn, FeaturesOn}
use Rattle.isa.specs.declared.Instruction.{Instruction}
use Rattle.isa.specs.declared.Refusal.{Refusal}
use Rattle.isa.specs.declared.Refusal.TheVariants.{Flags, Unlisted, FeatureOff, OutOfRange, Room}
use Rattle.isa.proofs.Refusals.{failed_before, passed_before}
use Rattle.isa.proofs.Lookup.{lookup_found}

-- ---- features
flag-pos : (f : Feature) → 0 < flag f
flag-pos SME = omega arith
flag-pos I16I64 = omega arith
flag-pos MOP4 = omega arith
flag-pos SME2 = omega arith

pub lacking-none : (flags : ℕ) (fs : List Feature) → lacking flags fs ≡ 0 → AllOn flags fs
lacking-none flags [] p g m = elim m [ ]
lacking-none flags (f ∷ fs) p g m = go (on flags f) refl p g m (lacking-none flags fs)
  where
    go : (b : Bool) → on flags f ≡ b → cond b 0 (flag f) + lacking flags fs ≡ 0 → (g : Feature) → Memᴰ g (f ∷ fs)
        → (lacking flags fs ≡ 0 → AllOn flags fs) → on flags g ≡ true
    go true q r g (Memᴰ.head e) rest = rw e q
    go true q r g (Memᴰ.tail m) rest = rest (omega arith) g m
    go false q r g m rest = absurd (omega (arith, flag-pos f))

pub on-lacking : (flags : ℕ) (fs : List Feature) → AllOn flags fs → lacking flags fs ≡ 0
on-lacking flags [] h = refl
on-lacking flags (f ∷ fs) h =
    rw (h f (Memᴰ.head refl), on-lacking flags fs (λ g m. h g (Memᴰ.tail m)))

-- every feature is on where all flags are
all_on : (f : Feature) → on all_flags f ≡ true
all_on SME = refl
all_on I16I64 = refl
all_on MOP4 = refl
all_on SME2 = refl

pub features_on : (w : ℕ) → FeaturesOn all_flags w
features_on w e m q f n = all_on f

-- flags, by what flags_legal answers
pub flags_fit : {flags : ℕ} {b : Bool} → b ≡ not (ltb all_flags flags) → b ≡ true → flags ≤ all_flags
flags_fit p q = ltb-false _ _ (not-true _ (sym p ∙ q))

pub flags_exceed : {flags : ℕ} {b : Bool} → b ≡ not (ltb all_flags flags) → b ≡ false → all_flags < flags
flags_exceed p q = ltb-true _ _ (not-false _ (sym p ∙ q))

-- ---- decode
pub decode_flags : (flags w : ℕ) → all_flags < flags → decode_of flags w ≡ Err Flags
unfolding decode_of
decode_flags flags w h = rw (lt-ltb all_flags flags h)

pub decode_unlisted : (flags w : ℕ) → flags ≤ all_flags → lookup table w ≡ none → decode_of flags w ≡ Err Unlisted
unfolding decode_of describe
decode_unlisted flags w h p = rw (le-ltb all_flags flags h, p)

-- what test 8 leaves of a word that passed 1 and 7
abbrev pub allowed : ℕ → Instruction → Result Instruction Refusal
allowed lacks i = cond (eqb lacks 0) (Ok i) (Err (FeatureOff lacks))

pub decode_listed : (flags w : ℕ) (e : Entry) → flags ≤ all_flags → lookup table w ≡ some e
    → decode_of flags w ≡ allowed (lacking flags e.needs) (described e w)
unfolding decode_of describe missing
decode_listed flags w e h p = rw (le-ltb all_flags flags h, p) (go (eqb (lacking flags e.needs) 0) (FeatureOff (lacking flags e.needs)))
  where
    go : (b : Bool) (r : Refusal) → decided (cond (not b) (some r) none) (some (described e w)) ≡ cond b (Ok (described e w)) (Err r)
    go true r = refl
    go false r = refl

-- the same by the sum that the line lacks
module _ (flags w : ℕ) {e : Entry} {k : ℕ} (h : flags ≤ all_flags) (p : some e ≡ lookup table w) (q : k ≡ lacking flags e.needs) where
  pub decode_lacking : (k ≡ 0 → ⊥) → decode_of flags w ≡ Err (FeatureOff k)
  decode_lacking d = decode_listed flags w e h (sym p) ∙ rw (sym q, ne_eqb k 0 d)

  pub decode_open : k ≡ 0 → decode_of flags w ≡ Ok (described e w)
  decode_open z = decode_listed flags w e h (sym p) ∙ rw (sym q, eq-eqb k 0 z)

-- ---- an answer that was decided by tests and a description
pub decided-accepted : (o : Option Refusal) (d : Option Instruction) (i : Instruction) → decided o d ≡ Ok i → (o ≡ none) × (d ≡ some i)
decided-accepted (some r) d i p = let z : ◌≡◌ {A = ℕ} 0 1 = cc in absurd (omega arith)
decided-accepted none none i p = let z : ◌≡◌ {A = ℕ} 0 1 = cc in absurd (omega arith)
decided-accepted none (some j) i p = let z : j ≡ i = cc in (refl, ap {B = Option Instruction} some z)

-- where a word without a description fails a test
pub decided_refused : (o : Option Refusal) (d : Option Instruction) (r : Refusal) → (d ≡ none → o ≡ none → ⊥) → decided o d ≡ Err r → o ≡ some r
decided_refused (some s) d r u p = let z : s ≡ r = cc in ap {B = Option Refusal} some z
decided_refused none none r u p = absurd (u refl refl)
decided_refused none (some j) r u p = let z : ◌≡◌ {A = ℕ} 0 1 = cc in absurd (omega arith)

-- an unlisted word fails a test of decode's
unlisted_fails : (flags w : ℕ) → describe w ≡ none → first_failure (decode_tests flags w) ≡ none → ⊥
unlisted_fails flags w d p = go (ltb all_flags flags) (rw d at p)
  where
    go : (b : Bool) → cond b (some Flags) (some Unlisted) ≡ none → ⊥
    go true q = let z : ◌≡◌ {A = ℕ} 0 1 = cc in omega arith
    go false q = let z : ◌≡◌ {A = ℕ} 0 1 = cc in omega arith

-- decode's answer by its tests, for those who make further tests
pub decode_refused : (flags w : ℕ) (r : Refusal) → decode_of flags w ≡ Err r → first_failure (decode_tests flags w) ≡ some r
unfolding decode_of
decode_refused flags w r = decided_refused (first_failure (decode_tests flags w)) (describe w) r (unlisted_fails flags w)

pub decode_passed : (flags w : ℕ) (i : Instruction) → decode_of flags w ≡ Ok i
    → (first_failure (decode_tests flags w) ≡ none) × (describe w ≡ some i)
unfolding decode_of
decode_passed flags w i = decided-accepted (first_failure (decode_tests flags w)) (describe w) i

pub decode_refusal_lem : (flags w : ℕ) → decode_refusal flags w ≡ first_failure (decode_tests flags w)
decode_refusal_lem flags w = go (decode_of flags w) refl
  where
    go : (a : Result Instruction Refusal) → decode_of flags w ≡ a → decode_refusal flags w ≡ first_failure (decode_tests flags w)
    go (Ok i) p = rw p (sym (decode_passed flags w i p).0)
    go (Err r) p = rw p (sym (decode_refused flags w r p))

-- and with a room for k of its bytes or numbers
pub room_refused : (flags w n k : ℕ) (r : Refusal) → decode_of flags w ≡ Err r → first_failure (room_tests flags w n k) ≡ some r
room_refused flags w n k r p = failed_before (decode_tests flags w) (record { fails = ltb n k; gives = Room } ∷ []) r (decode_refused flags w r p)

pub room_passed : (flags w n k : ℕ) (i : Instruction) → decode_of flags w ≡ Ok i → first_failure (room_tests flags w n k) ≡ cond (ltb n k) (some Room) none
room_passed flags w n k i p = passed_before (decode_tests flags w) (record { fails = ltb n k; gives = Room } ∷ []) (decode_passed flags w i p).0

-- ---- the description of a word
pub describe_found : {e : Entry} (w : ℕ) → Memᴰ e table → matches e.row w ≡ true → describe w ≡ some (described e w)
unfolding describe
describe_found w m h = rw (lookup_found w m h)

-- ---- encode
pub encode_in_range : (i : Instruction) → in_range i ≡ true → encode_of i ≡ Ok (word_for i)
unfolding encode_of
encode_in_range i h = rw h

pub encode_out_of_range : (i : Instruction) → in_range i ≡ false → encode_of i ≡ Err OutOfRange
unfolding encode_of
encode_out_of_range i h = rw h

-- what encode gives a word for is in range, and the word is its word
pub encoded : (i : Instruction) (w : ℕ) → encode_of i ≡ Ok w → (in_range i ≡ true) × (w ≡ word_for i)
encoded i w p = go (in_range i) refl
  where
    go : (b : Bool) → in_range i ≡ b → (in_range i ≡ true) × (w ≡ word_for i)
    go true h = let q = encode_in_range i h in (h, cc)
    go false h = let q = encode_out_of_range i h in let z : ◌≡◌ {A = ℕ} 0 1 = cc in absurd (omega arith)
