-- The numbers that tests 1 to 5 and 7 to 10 give, by the conditions of document 01, and whether a run begins. Assumes nothing.
use mathlib.Core.Path.{◌≡◌, ◌∙◌, sym, refl, ap, subst}
use mathlib.Core.Bool.{Bool, true, false, not, cond, ◌&&◌, true≢false}
use mathlib.Core.Logic.{◌↔◌}
use mathlib.Core.List.{[], ◌∷◌}
use mathlib.Core.Option.{Option, none, some}
use Prim.Native.Nat.{ℕ, ◌≤◌, ◌<◌}
use native.Mathlib.Omega.{arith}
use lib.Dec.{eqb, ltb}
use borrow.Author.Tests.{lt-ltb, le-ltb, eq-eqb, ne_eqb, ltb-true, ltb-false, eqb-true, eqb-false}
use Rattle.std.specs.Prelude.{Err, Ok, Result}
use Rattle.isa.specs.declared.Instruction.{Instruction}
use Rattle.isa.specs.Refusals.{refusal_number, refusal_missing, first_failure, or_else, missing_beside, number_in}
use Rattle.isa.specs.Table.{all_flags}
use Rattle.isa.specs.Answers.{describe, missing, absent, listing_tests, decode_of, decode_number}
use Rattle.isa.specs.declared.Refusal.{Refusal}
use Rattle.isa.specs.declared.Refusal.TheVariants.{Flags, VectorLength, ZLength, PLength, ZaLength, ListLength, Unlisted, FeatureOff, StreamingOff, ZaOff}
use Rattle.isa.proofs.Refusals.{failure-++}
use Rattle.isa.proofs.Sums.{plain_sum}
use Rattle.storage.specs.Sizes.{legal, z_size, p_size, za_size}
use Rattle.machine.specs.declared.Bench.{Bench}
use Rattle.machine.specs.Instructions.{modes_of}
use Rattle.machine.specs.declared.Modes.{Modes}
use Rattle.machine.specs.Execution.{bench_tests, word_tests, outcome}
use Rattle.machine.specs.Lists.{most_words, list_test, start_tests}
use Rattle.machine.specs.Claims.{Passes, FirstFive}
use Rattle.machine.proofs.Tests.{outcome_back, listing_refused, listing-accepted}

-- the number of an answer, 0 for none
abbrev pub number_of : Option Refusal → ℕ
number_of o = number_in (outcome o)

-- a number that is none of 1 to 5
abbrev pub Late : ℕ → Type 0
Late n = 0 < n → 5 < n

-- ---- tests 1 to 5, and others after them
module _ (b : Bench) (z p za : ℕ) where
  abbrev pub bench_answer : Option Refusal
  bench_answer = first_failure (bench_tests b z p za)

  -- where the tests stop, by the number m of what follows them and the number that is given
  data Stops (m : ℕ) : ℕ → Type 0 where
    at_1 : all_flags < b.flags → Stops m 1
    at_2 : b.flags ≤ all_flags → legal b.vb ≡ false → Stops m 2
    at_3 : b.flags ≤ all_flags → legal b.vb ≡ true → (z ≡ z_size b.vb → ⊥) → Stops m 3
    at_4 : b.flags ≤ all_flags → legal b.vb ≡ true → z ≡ z_size b.vb → (p ≡ p_size b.vb → ⊥) → Stops m 4
    at_5 : b.flags ≤ all_flags → legal b.vb ≡ true → z ≡ z_size b.vb → p ≡ p_size b.vb → (za ≡ za_size b.vb → ⊥) → Stops m 5
    after : Passes b z p za → Stops m m

  -- the tests by their conditions
  pub bench_1 : all_flags < b.flags → bench_answer ≡ some Flags
  bench_1 f = rw (lt-ltb all_flags b.flags f)

  module _ (f : b.flags ≤ all_flags) where
    pub bench_2 : legal b.vb ≡ false → bench_answer ≡ some VectorLength
    bench_2 l = rw (le-ltb all_flags b.flags f, l)

    module _ (l : legal b.vb ≡ true) where
      pub bench_3 : (z ≡ z_size b.vb → ⊥) → bench_answer ≡ some ZLength
      bench_3 h = rw (le-ltb all_flags b.flags f, l, ne_eqb z (z_size b.vb) h)

      module _ (g : z ≡ z_size b.vb) where
        pub bench_4 : (p ≡ p_size b.vb → ⊥) → bench_answer ≡ some PLength
        bench_4 h = rw (le-ltb all_flags b.flags f, l, eq-eqb z (z_size b.vb) g, ne_eqb p (p_size b.vb) h)

        module _ (h : p ≡ p_size b.vb) where
          pub bench_5 : (za ≡ za_size b.vb → ⊥) → bench_answer ≡ some ZaLength
          bench_5 i = rw (le-ltb all_flags b.flags f, l, eq-eqb z (z_size b.vb) g, eq-eqb p (p_size b.vb) h, ne_eqb za (za_size b.vb) i)

          pub bench_none : za ≡ za_size b.vb → bench_answer ≡ none
          bench_none i = rw (le-ltb all_flags b.flags f, l, eq-eqb z (z_size b.vb) g, eq-eqb p (p_size b.vb) h, eq-eqb za (za_size b.vb) i)

  pub bench_passed : Passes b z p za → bench_answer ≡ none
  bench_passed h = bench_none h.flags h.length_legal h.z_sized h.p_sized h.za_sized

  -- tests 1 to 6
  module _ (words : ℕ) where
    pub start_by : (o : Option Refusal) → bench_answer ≡ o → first_failure (start_tests b z p za words) ≡ or_else o (first_failure (list_test words ∷ []))
    start_by o h = failure-++ (bench_tests b z p za) (list_test words ∷ []) ∙ ap (λ o. or_else o (first_failure (list_test words ∷ []))) h

    pub start_refused : (r : Refusal) → bench_answer ≡ some r → first_failure (start_tests b z p za words) ≡ some r
    start_refused r h = start_by (some r) h

    module _ (h : bench_answer ≡ none) where
      pub start_too_long : most_words < words → first_failure (start_tests b z p za words) ≡ some ListLength
      start_too_long l = start_by none h ∙ rw (lt-ltb most_words words l)

      pub start_none : words ≤ most_words → first_failure (start_tests b z p za words) ≡ none
      start_none l = start_by none h ∙ rw (le-ltb most_words words l)

    -- an answer and its numbers; none of these tests hands anything back
    pub start-answered : {a : Result Unit Refusal} → a ≡ outcome (first_failure (start_tests b z p za words)) → record {
      answer : a ≡ outcome (first_failure (start_tests b z p za words));
      number : number_in a ≡ refusal_number (first_failure (start_tests b z p za words));
      missing : missing_beside a ≡ 0;
    }
    start-answered e =
        let back = outcome_back (first_failure (start_tests b z p za words)) in
        record {
          answer = e;
          number = ap number_in e ∙ ap refusal_number back;
          missing = ap missing_beside e ∙ ap refusal_missing back ∙ plain_sum (start_tests b z p za words) refl;
        }

    pub start_passes : Passes b z p za → words ≤ most_words → first_failure (start_tests b z p za words) ≡ none
    start_passes h l = start_none (bench_passed h) l

    pub start_passed : first_failure (start_tests b z p za words) ≡ none → (bench_answer ≡ none) × (words ≤ most_words)
    start_passed h = by_bench bench_answer refl
      where
        by_words : (t : Bool) → ltb most_words words ≡ t → bench_answer ≡ none → (bench_answer ≡ none) × (words ≤ most_words)
        by_words true f e = let g = sym (start_too_long e (ltb-true most_words words f)) ∙ h in let y : ◌≡◌ {A = ℕ} 0 1 = cc in absurd (omega arith)
        by_words false f e = (e, ltb-false most_words words f)

        by_bench : (o : Option Refusal) → bench_answer ≡ o → (bench_answer ≡ none) × (words ≤ most_words)
        by_bench (some r) e = let g = sym (start_refused r e) ∙ h in let y : ◌≡◌ {A = ℕ} 0 1 = cc in absurd (omega arith)
        by_bench none e = by_words (ltb most_words words) refl e

  module _ (o : Option Refusal) where
    abbrev pub given : ℕ
    given = number_of (or_else bench_answer o)

    given_by : (a : Option Refusal) → bench_answer ≡ a → given ≡ number_of (or_else a o)
    given_by a e = ap (λ a. number_of (or_else a o)) e

    stops_by : {n : ℕ} → given ≡ n → Stops (number_of o) n → Stops (number_of o) given
    stops_by e s = subst (Stops (number_of o)) (sym e) s

    stops : Stops (number_of o) given
    stops = by_flags (ltb all_flags b.flags) refl
      where
        by_za : (f : b.flags ≤ all_flags) (l : legal b.vb ≡ true) (g : z ≡ z_size b.vb) (h : p ≡ p_size b.vb) (t : Bool)
            → eqb za (za_size b.vb) ≡ t → Stops (number_of o) given
        by_za f l g h true e =
            let i = eqb-true _ _ e in
            stops_by (given_by none (bench_none f l g h i)) (after (record { flags = f; length_legal = l; z_sized = g; p_sized = h; za_sized = i }))
        by_za f l g h false e = let i = eqb-false _ _ e in stops_by (given_by (some ZaLength) (bench_5 f l g h i)) (at_5 f l g h i)

        by_p : (f : b.flags ≤ all_flags) (l : legal b.vb ≡ true) (g : z ≡ z_size b.vb) (t : Bool) → eqb p (p_size b.vb) ≡ t → Stops (number_of o) given
        by_p f l g true e = by_za f l g (eqb-true _ _ e) (eqb za (za_size b.vb)) refl
        by_p f l g false e = let h = eqb-false _ _ e in stops_by (given_by (some PLength) (bench_4 f l g h)) (at_4 f l g h)

        by_z : (f : b.flags ≤ all_flags) (l : legal b.vb ≡ true) (t : Bool) → eqb z (z_size b.vb) ≡ t → Stops (number_of o) given
        by_z f l true e = by_p f l (eqb-true _ _ e) (eqb p (p_size b.vb)) refl
        by_z f l false e = let h = eqb-false _ _ e in stops_by (given_by (some ZLength) (bench_3 f l h)) (at_3 f l h)

        by_length : (f : b.flags ≤ all_flags) (t : Bool) → legal b.vb ≡ t → Stops (number_of o) given
        by_length f true e = by_z f e (eqb z (z_size b.vb)) refl
        by_length f false e = stops_by (given_by (some VectorLength) (bench_2 f e)) (at_2 f e)

        by_flags : (t : Bool) → ltb all_flags b.flags ≡ t → Stops (number_of o) given
        by_flags true e = let h = ltb-true all_flags b.flags e in stops_by (given_by (some Flags) (bench_1 h)) (at_1 h)
        by_flags false e = by_length (ltb-false all_flags b.flags e) (legal b.vb) refl

  is_1 : {m : ℕ} → Late m → Stops m 1 → all_flags < b.flags
  is_1 late (at_1 f) = f
  is_1 late (after h) = let l = late (omega arith) in absurd (omega arith)

  is_2 : {m : ℕ} → Late m → Stops m 2 → (b.flags ≤ all_flags) × (legal b.vb ≡ false)
  is_2 late (at_2 f l) = (f, l)
  is_2 late (after h) = let l = late (omega arith) in absurd (omega arith)

  is_3 : {m : ℕ} → Late m → Stops m 3 → (b.flags ≤ all_flags) × (legal b.vb ≡ true) × (z ≡ z_size b.vb → ⊥)
  is_3 late (at_3 f l g) = (f, l, g)
  is_3 late (after h) = let l = late (omega arith) in absurd (omega arith)

  is_4 : {m : ℕ} → Late m → Stops m 4 → (b.flags ≤ all_flags) × (legal b.vb ≡ true) × (z ≡ z_size b.vb) × (p ≡ p_size b.vb → ⊥)
  is_4 late (at_4 f l g h) = (f, l, g, h)
  is_4 late (after h) = let l = late (omega arith) in absurd (omega arith)

  is_5 : {m : ℕ} → Late m → Stops m 5
      → (b.flags ≤ all_flags) × (legal b.vb ≡ true) × (z ≡ z_size b.vb) × (p ≡ p_size b.vb) × (za ≡ za_size b.vb → ⊥)
  is_5 late (at_5 f l g h i) = (f, l, g, h, i)
  is_5 late (after h) = let l = late (omega arith) in absurd (omega arith)

  -- a number that is none of 1 to 5 is from what follows
  is_later : {m n : ℕ} → Late n → Stops m n → Passes b z p za × (m ≡ n)
  is_later late (at_1 f) = let l = late (omega arith) in absurd (omega arith)
  is_later late (at_2 f l) = let l = late (omega arith) in absurd (omega arith)
  is_later late (at_3 f l g) = let l = late (omega arith) in absurd (omega arith)
  is_later late (at_4 f l g h) = let l = late (omega arith) in absurd (omega arith)
  is_later late (at_5 f l g h i) = let l = late (omega arith) in absurd (omega arith)
  is_later late (after h) = (h, refl)

  module _ (o : Option Refusal) where
    stopped : {n : ℕ} → given o ≡ n → Stops (number_of o) n
    stopped e = subst (Stops (number_of o)) e (stops o)

    pub first_five : Late (number_of o) → FirstFive b z p za (given o)
    first_five late =
        record {
          gives_1 = (λ e. is_1 late (stopped e), λ f. given_by o _ (bench_1 f));
          gives_2 = (λ e. is_2 late (stopped e), λ c. given_by o _ (bench_2 c.0 c.1));
          gives_3 = (λ e. is_3 late (stopped e), λ c. given_by o _ (bench_3 c.0 c.1 c.2));
          gives_4 = (λ e. is_4 late (stopped e), λ c. given_by o _ (bench_4 c.0 c.1 c.2 c.3));
          gives_5 = (λ e. is_5 late (stopped e), λ c. given_by o _ (bench_5 c.0 c.1 c.2 c.3 c.4));
        }

    -- a later number, by the condition that it has among the later tests
    pub later : {n : ℕ} {C : Type 0} → Late n → (Passes b z p za → (number_of o ≡ n) ↔ C) → (given o ≡ n) ↔ Passes b z p za × C
    later late c = (
      λ e. let (h, m) = is_later late (stopped e) in (h, (c h).0 m),
      λ d. given_by o none (bench_passed d.0) ∙ (c d.0).1 d.1,
    )

-- ---- tests 7 to 10
-- where they stop, by decode's number, of each mode whether it is needed and whether it is on, and the number that is given
pub data Word : ℕ → Bool → Bool → Bool → Bool → ℕ → Type 0 where
  unlisted : {o s n a : Bool} → Word 7 o s n a 7
  feature_off : {o s n a : Bool} → Word 8 o s n a 8
  streaming_off : {n a : Bool} → Word 0 true false n a 9
  za_off : {o s : Bool} → (o ≡ true → s ≡ true) → Word 0 o s true false 10
  done : {o s n a : Bool} → (o ≡ true → s ≡ true) → (n ≡ true → a ≡ true) → Word 0 o s n a 0

false-true : {A : Type 0} → false ≡ true → A
false-true e = absurd (true≢false (sym e))

pub word_late : {d m : ℕ} {o s n a : Bool} → Word d o s n a m → 0 < m → 6 < m
word_late unlisted h = omega arith
word_late feature_off h = omega arith
word_late streaming_off h = omega arith
word_late (za_off f) h = omega arith
word_late (done f g) h = absurd (omega arith)

word-most : {d m : ℕ} {o s n a : Bool} → Word d o s n a m → m ≤ 10
word-most unlisted = omega arith
word-most feature_off = omega arith
word-most streaming_off = omega arith
word-most (za_off f) = omega arith
word-most (done f g) = omega arith

pub word_7 : {d m : ℕ} {o s n a : Bool} → Word d o s n a m → (m ≡ 7) ↔ (d ≡ 7)
word_7 unlisted = (λ e. e, λ e. e)
word_7 feature_off = (λ e. e, λ e. e)
word_7 streaming_off = (λ e. absurd (omega arith), λ e. absurd (omega arith))
word_7 (za_off f) = (λ e. absurd (omega arith), λ e. absurd (omega arith))
word_7 (done f g) = (λ e. e, λ e. e)

pub word_8 : {d m : ℕ} {o s n a : Bool} → Word d o s n a m → (m ≡ 8) ↔ (d ≡ 8)
word_8 unlisted = (λ e. e, λ e. e)
word_8 feature_off = (λ e. e, λ e. e)
word_8 streaming_off = (λ e. absurd (omega arith), λ e. absurd (omega arith))
word_8 (za_off f) = (λ e. absurd (omega arith), λ e. absurd (omega arith))
word_8 (done f g) = (λ e. e, λ e. e)

pub word_9 : {d m : ℕ} {o s n a : Bool} → Word d o s n a m → (m ≡ 9) ↔ (d ≡ 0) × (o ≡ true) × (s ≡ false)
word_9 unlisted = (λ e. absurd (omega arith), λ c. absurd (omega arith))
word_9 feature_off = (λ e. absurd (omega arith), λ c. absurd (omega arith))
word_9 streaming_off = (λ e. (refl, refl, refl), λ c. refl)
word_9 (za_off f) = (λ e. absurd (omega arith), λ c. false-true (sym c.2 ∙ f c.1))
word_9 (done f g) = (λ e. absurd (omega arith), λ c. false-true (sym c.2 ∙ f c.1))

pub word_10 : {d m : ℕ} {o s n a : Bool} → Word d o s n a m → (m ≡ 10) ↔ (d ≡ 0) × (o ≡ true → s ≡ true) × (n ≡ true) × (a ≡ false)
word_10 unlisted = (λ e. absurd (omega arith), λ c. absurd (omega arith))
word_10 feature_off = (λ e. absurd (omega arith), λ c. absurd (omega arith))
word_10 streaming_off = (λ e. absurd (omega arith), λ c. false-true (c.1 refl))
word_10 (za_off f) = (λ e. (refl, f, refl, refl), λ c. refl)
word_10 (done f g) = (λ e. absurd (omega arith), λ c. false-true (sym c.3 ∙ g c.2))

pub word_0 : {d m : ℕ} {o s n a : Bool} → Word d o s n a m → (m ≡ 0) ↔ (d ≡ 0) × (o ≡ true → s ≡ true) × (n ≡ true → a ≡ true)
word_0 unlisted = (λ e. absurd (omega arith), λ c. absurd (omega arith))
word_0 feature_off = (λ e. absurd (omega arith), λ c. absurd (omega arith))
word_0 streaming_off = (λ e. absurd (omega arith), λ c. false-true (c.1 refl))
word_0 (za_off f) = (λ e. absurd (omega arith), λ c. false-true (c.2 refl))
word_0 (done f g) = (λ e. (refl, f, g), λ c. refl)

-- where streaming mode fits, ZA decides
modes : (o s n a : Bool) → (o ≡ true → s ≡ true) → Word 0 o s n a (number_of (cond (n && not a) (some ZaOff) none))
modes o s true false f = za_off f
modes o s true true f = done f (λ e. refl)
modes o s false a f = done f (λ e. false-true e)

module _ (b : Bench) (w : ℕ) where
  -- the number that 7 to 10 give
  abbrev pub word_number : ℕ
  word_number = number_of (first_failure (word_tests b w))

  decode_number_lem : b.flags ≤ all_flags → decode_number b.flags w ≡ number_of (first_failure (listing_tests b.flags w))
  decode_number_lem f = go (decode_of b.flags w) refl
    where
      go : (d : Result Instruction Refusal) → decode_of b.flags w ≡ d → decode_number b.flags w ≡ number_of (first_failure (listing_tests b.flags w))
      go (Err r) e = rw (e, listing_refused b w f r e)
      go (Ok i) e = rw (e, listing-accepted b w f i e)

  abbrev needs : Modes
  needs = modes_of (describe w)

  listed : Word (number_of (first_failure (listing_tests b.flags w))) needs.streaming b.sm needs.za b.za word_number
  listed = go (absent (describe w)) (not (eqb (missing b.flags w) 0)) needs.streaming b.sm needs.za b.za (missing b.flags w)
    where
      go : (l m o s n a : Bool) (sum : ℕ)
          → Word (number_of (cond l (some Unlisted) (cond m (some (FeatureOff sum)) none))) o s n a
          (number_of (cond l (some Unlisted) (cond m (some (FeatureOff sum)) (cond (o && not s) (some StreamingOff) (cond (n && not a) (some ZaOff) none)))))
      go true m o s n a sum = unlisted
      go false true o s n a sum = feature_off
      go false false true false n a sum = streaming_off
      go false false true true n a sum = modes true true n a (λ e. refl)
      go false false false s n a sum = modes false s n a (λ e. false-true e)

  pub word : b.flags ≤ all_flags → Word (decode_number b.flags w) needs.streaming b.sm needs.za b.za word_number
  word f = subst (λ k. Word k needs.streaming b.sm needs.za b.za word_number) (sym (decode_number_lem f)) listed

  pub word-number_late : 0 < word_number → 6 < word_number
  word-number_late = word_late listed

  pub word-number-most : word_number ≤ 10
  word-number-most = word-most listed
