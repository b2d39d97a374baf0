-- What documents 01 and 02 ask of one executed word and of a run: the claims of specs/Claims.antt hold for every input. Assumes
-- nothing.
use mathlib.Core.Path.{◌≡◌, ◌∙◌, sym, refl, ap, subst}
use mathlib.Core.Bool.{Bool, true, false, cond, ◌&&◌}
use mathlib.Core.Logic.{◌↔◌}
use mathlib.Core.List.{List, [], ◌∷◌, ◌++◌}
use mathlib.Core.Option.{Option, none, some}
use Prim.Native.Nat.{ℕ, ◌≤◌, ◌<◌}
use native.Mathlib.Omega.{arith}
use lib.Dec.{ltb}
use lib.ListN.{length, get_or, take}
use borrow.Author.Tests.{ltb-true, ltb-false}
use Rattle.std.specs.Prelude.{Err, Ok, Result}
use Rattle.isa.specs.Refusals.{first_failure, or_else, number_in}
use Rattle.isa.specs.Answers.{describe, decode_of, decode_number}
use Rattle.isa.specs.Claims.{HandsBack}
use Rattle.isa.specs.declared.Instruction.{Instruction}
use Rattle.isa.specs.declared.Instruction.TheVariants.{Predicated, Quarter, Zero}
use Rattle.isa.specs.declared.Refusal.{Refusal}
use Rattle.isa.specs.declared.Refusal.TheVariants.{ListLength}
use Rattle.isa.proofs.Answers.{decode_passed}
use Rattle.isa.proofs.Sums.{Handed, handed, fair-++, plain_fair}
use Rattle.storage.specs.Bytes.{at}
use Rattle.storage.specs.Tile.{clear}
use Rattle.storage.proofs.Clearing.{clear_in, clear_out}
use Rattle.isa.proofs.Refusals.{failure-++, number_positive}
use Rattle.machine.specs.declared.Ended.{Ended}
use Rattle.machine.specs.Machine.{Machine}
use Rattle.machine.specs.Instructions.{is_outer, modes_of, has_opposite}
use Rattle.machine.specs.Execution.{machine_tests, word_tests, word_refusal, refusal_of, none?, effect, unless, after}
use Rattle.machine.specs.Lists.{played, most_words, list_test, run_tests, at_start, before, stop, ran_words, ran, run_of, run_left}
use Rattle.machine.specs.Exchange.{flip_s, exchanged}
use Rattle.machine.specs.Claims.{execute_number, execute_missing, Keeps, Clears, BenchPasses, FirstFiveOn, Executes, NeedsModes, run_number, run_count, Ends, Runs}
use Rattle.machine.proofs.Tests.{outcome_back, word_fair}
use Rattle.machine.proofs.Execution.{refusal_by, after_by}
use Rattle.machine.proofs.Keeping.{after_keeps, played_keeps, same_refusal}
use Rattle.machine.proofs.Endings.{leaves, taken, leaves_within, leaves_late, HandedAt, leaves_handed, run_ends}
use Rattle.machine.proofs.Runs.{run_by, run_not_begun, run_bench_refused, run_too_long, run_begun}
use Rattle.machine.proofs.Numbers.{number_of, Late, given, bench_passed, first_five, later}
use Rattle.machine.proofs.Numbers.{Word, word_7, word_8, word_9, word_10, word_0, word_number, word, word-number_late}

-- ---- one word, and what it leaves by its number
refused_all : (o : Option Refusal) (m then : Machine) → (number_of o ≡ 0 → ⊥) → unless o m then ≡ m
refused_all none m then h = absurd (h refl)
refused_all (some r) m then h = refl

executed_all : (o : Option Refusal) (m then : Machine) → number_of o ≡ 0 → unless o m then ≡ then
executed_all none m then h = refl
executed_all (some r) m then h = absurd (omega (arith, number_positive r))

regroup : {X P A B C : Type 0} → X ↔ P × (A × B × C) → X ↔ (P × A) × B × C
regroup i = (λ x. let (h, c) = i.0 x in ((h, c.0), c.1, c.2), λ d. i.1 (d.0.0, (d.0.1, d.1, d.2)))

regroup' : {X P A B C D : Type 0} → X ↔ P × (A × B × C × D) → X ↔ (P × A) × B × C × D
regroup' i = (λ x. let (h, c) = i.0 x in ((h, c.0), c.1, c.2, c.3), λ d. i.1 (d.0.0, (d.0.1, d.1, d.2, d.3)))

-- tests 1 to 5, then others
abbrev given_on : Machine → Option Refusal → ℕ
given_on m o = given m.bench (length m.z) (length m.p) (length m.za) o

module _ (m : Machine) (w : ℕ) where
  -- tests 1 to 5, then 7 to 10
  execute_is : execute_number m w ≡ given_on m (word_refusal m w)
  execute_is = ap number_of (refusal_by m w _ refl)

  execute_word : BenchPasses m
      → (let needs = modes_of (describe w) in Word (decode_number m.bench.flags w) needs.streaming m.bench.sm needs.za m.bench.za (word_number m.bench w))
  execute_word h = word m.bench w h.flags

  execute_later : {n : ℕ} {C : Type 0} → Late n → (BenchPasses m → (word_number m.bench w ≡ n) ↔ C) → (execute_number m w ≡ n) ↔ BenchPasses m × C
  execute_later {n} {C} late c =
      subst (λ k. (k ≡ n) ↔ BenchPasses m × C) (sym execute_is)
      (later m.bench (length m.z) (length m.p) (length m.za) (word_refusal m w) late c)

  -- tests 1 to 5, then 7 to 10, hand back the word's sum
  hands_back : HandsBack m.bench.flags w (execute_number m w) (execute_missing m w)
  unfolding refusal_of
  hands_back =
      let flags = m.bench.flags in
      let bench = machine_tests m in
      let words = word_tests m.bench w in
      rw (outcome_back (refusal_of m w))
      (handed flags w (bench ++ words) (fair-++ flags w bench words (plain_fair flags w bench refl) (word_fair m.bench w)))

  -- what a word gets, and what it leaves
  pub executes : Executes m w
  executes =
      record {
        first_five =
            subst (FirstFiveOn m) (sym execute_is)
            (first_five m.bench (length m.z) (length m.p) (length m.za) (word_refusal m w)
            (λ h. let l = word-number_late m.bench w h in omega arith));
        gives_7 = execute_later (λ l. omega arith) (λ h. word_7 (execute_word h));
        gives_8 = execute_later (λ l. omega arith) (λ h. word_8 (execute_word h));
        hands_back = hands_back;
        gives_9 = regroup (execute_later (λ l. omega arith) (λ h. word_9 (execute_word h)));
        gives_10 = regroup' (execute_later (λ l. omega arith) (λ h. word_10 (execute_word h)));
        accepts = regroup (execute_later (λ l. absurd (omega arith)) (λ h. word_0 (execute_word h)));
        refused = λ h. after_by m w _ refl ∙ refused_all (refusal_of m w) m _ h;
        executed = λ h. after_by m w _ refl ∙ executed_all (refusal_of m w) m _ h;
      }

-- ---- what needs which mode in document 01: outer products both, ZERO ZA alone
streaming_outer : (d : Option Instruction) → (modes_of d).streaming ≡ is_outer d
streaming_outer none = refl
streaming_outer (some (Predicated p)) = refl
streaming_outer (some (Quarter q)) = refl
streaming_outer (some (Zero mask)) = refl

za-listed : (i : Instruction) → (modes_of (some i)).za ≡ true
za-listed (Predicated p) = refl
za-listed (Quarter q) = refl
za-listed (Zero mask) = refl

decoded_za : (flags w : ℕ) → decode_number flags w ≡ 0 → (modes_of (describe w)).za ≡ true
decoded_za flags w h = go (decode_of flags w) refl h
  where
    go : (d : Result Instruction Refusal) → decode_of flags w ≡ d → number_in d ≡ 0 → (modes_of (describe w)).za ≡ true
    go (Ok i) e n = rw (decode_passed flags w i e).1 (za-listed i)
    go (Err r) e n = absurd (omega (arith, number_positive r))

-- so the numbers 9, 10 and 0 in its own words
pub needs_modes : (m : Machine) (w : ℕ) → NeedsModes m w
needs_modes m w =
    let o = streaming_outer (describe w) in
    let e = executes m w in
    record {
      gives_9 = rw (← o) e.gives_9;
      gives_10 = rw (← o) (
        λ n. let c = e.gives_10.0 n in (c.0, c.1, c.3),
        λ c. e.gives_10.1 (c.0, c.1, decoded_za _ w c.0.1, c.2),
      );
      accepts = rw (← o) (
        λ n. let c = e.accepts.0 n in (c.0, c.1, c.2 (decoded_za _ w c.0.1)),
        λ c. e.accepts.1 (c.0, c.1, λ h. c.2),
      );
    }

-- ---- what stays: the bench, Z, P and the length of ZA; and a word gets the same answer where they do
pub word_keeps : (m : Machine) (w : ℕ) → Keeps m (after m w)
word_keeps = after_keeps

pub list_keeps : (m : Machine) (ws : List ℕ) → Keeps m (played m ws)
list_keeps m ws = played_keeps ws m

pub run_keeps : (m : Machine) (ws : List ℕ) → Keeps m (run_left m ws)
unfolding run_left
run_keeps m ws = played_keeps (ran m ws) m

pub same_answer : {m n : Machine} → Keeps m n → (w : ℕ) → refusal_of n w ≡ refusal_of m w
same_answer = same_refusal

pub same_exchange : {m n : Machine} → Keeps m n → (w : ℕ) → exchanged n w ≡ exchanged m w
same_exchange k w = ap (λ o. cond (none? o && has_opposite (describe w)) (flip_s w) w) (same_refusal k w)

-- ---- an accepted ZERO
pub clears : (m : Machine) (w mask : ℕ) → execute_number m w ≡ 0 → describe w ≡ some (Zero mask) → Clears m w mask
clears m w mask h d =
    let e : (after m w).za ≡ clear m.bench.vb mask m.za = ap (λ (n : Machine). n.za) ((executes m w).executed h ∙ ap (effect m) d) in
    record {
      in_mask = λ q l i. ap (λ (za : List ℕ). at za q) e ∙ clear_in m.bench.vb mask m.za q l i;
      beside = λ q l i. ap (λ (za : List ℕ). at za q) e ∙ clear_out m.bench.vb mask m.za q l i;
    }

-- ---- a run
or_else_assoc : (o q r : Option Refusal) → or_else (or_else o q) r ≡ or_else o (or_else q r)
or_else_assoc none q r = refl
or_else_assoc (some s) q r = refl

module _ (m : Machine) (ws : List ℕ) where
  -- test 6, then the words
  abbrev list_answer : Option Refusal
  list_answer = first_failure (list_test (length ws) ∷ [])

  abbrev from_six : Option Refusal
  from_six = or_else list_answer (stop (at_start m) ws)

  -- tests 1 to 5, then those
  run_is : run_number m ws ≡ given_on m from_six
  unfolding run_of
  run_is =
      ap number_of
      (ap (λ o. or_else o (stop (at_start m) ws)) (failure-++ (machine_tests m) (list_test (length ws) ∷ []))
      ∙ or_else_assoc (first_failure (machine_tests m)) list_answer (stop (at_start m) ws))

  six_late : 0 < number_of from_six → 5 < number_of from_six
  six_late = go (ltb most_words (length ws))
    where
      go : (t : Bool) → 0 < number_of (or_else (cond t (some ListLength) none) (stop (at_start m) ws)) → 5 < number_of (or_else (cond t (some ListLength) none) (stop (at_start m) ws))
      go true h = omega arith
      go false h = let l = leaves_late (leaves ws (at_start m)) h in omega arith

  is_six : (number_of from_six ≡ 6) ↔ (most_words < length ws)
  is_six = go (ltb most_words (length ws)) refl
    where
      go : (t : Bool) → ltb most_words (length ws) ≡ t → (number_of (or_else (cond t (some ListLength) none) (stop (at_start m) ws)) ≡ 6) ↔ (most_words < length ws)
      go true e = (λ n. ltb-true most_words (length ws) e, λ h. refl)
      go false e =
          let h = ltb-false most_words (length ws) e in
          (λ n. let l = leaves_late (leaves ws (at_start m)) (omega arith) in absurd (omega arith), λ l. absurd (omega arith))

  run_passes : BenchPasses m → length ws ≤ most_words → Ends m ws (run_count m ws) (run_number m ws) (run_left m ws)
  run_passes h n =
      let (r, a) = run_begun m ws (bench_passed m.bench (length m.z) (length m.p) (length m.za) h) n in
      subst (λ (r : Ended). Ends m ws r.count (number_in r.outcome) (run_left m ws)) r
      (subst (Ends m ws (length (before (at_start m) ws)) (number_of (stop (at_start m) ws))) a (run_ends m ws h))

  run_refused : 0 < run_number m ws → run_number m ws ≤ 6 → (run_count m ws ≡ 0) × (run_left m ws ≡ m)
  run_refused l k = go (first_failure (run_tests m ws)) refl
    where
      go : (o : Option Refusal) → first_failure (run_tests m ws) ≡ o → (run_count m ws ≡ 0) × (run_left m ws ≡ m)
      go (some r) e = let (c, a) = run_not_begun m ws r e in (sym (ap (λ (r : Ended). r.count) c), sym a)
      go none e =
          let (c, a) = run_by m ws none e in
          let n : number_of (stop (at_start m) ws) ≡ run_number m ws = ap (λ (r : Ended). number_in r.outcome) c in
          let f = leaves_late (leaves ws (at_start m)) (omega arith) in
          absurd (omega arith)

  run_handed : HandedAt m ws (run_of m ws)
  run_handed = go (first_failure (run_tests m ws)) refl
    where
      go : (o : Option Refusal) → first_failure (run_tests m ws) ≡ o → HandedAt m ws (run_of m ws)
      go none e = subst (HandedAt m ws) (run_by m ws none e).0 (leaves_handed (leaves ws (at_start m)))
      go (some r) e =
          let flags = m.bench.flags in
          let w = get_or ws 0 0 in
          subst (HandedAt m ws) (run_not_begun m ws r e).0
          (subst (Handed flags w) e (handed flags w (run_tests m ws) (plain_fair flags w (run_tests m ws) refl)))

  run_most : run_count m ws ≤ most_words
  run_most = go (first_failure (machine_tests m)) refl (ltb most_words (length ws)) refl
    where
      go : (o : Option Refusal) → first_failure (machine_tests m) ≡ o → (t : Bool) → ltb most_words (length ws) ≡ t → run_count m ws ≤ most_words
      go (some r) e t f = let c = ap (λ (r : Ended). r.count) (run_bench_refused m ws r e).answer in omega arith
      go none e true f = let c = ap (λ (r : Ended). r.count) (run_too_long m ws e (ltb-true most_words (length ws) f)).answer in omega arith
      go none e false f =
          let h = ltb-false most_words (length ws) f in
          let c = ap (λ (r : Ended). r.count) (run_begun m ws e h).0 in
          omega (arith, leaves_within (leaves ws (at_start m)))

  run_words : ran m ws ≡ take (run_count m ws) ws
  unfolding ran run_of
  run_words = go (first_failure (run_tests m ws))
    where
      go : (o : Option Refusal) → ran_words o m ws ≡ take (length (ran_words o m ws)) ws
      go none = taken ws (at_start m)
      go (some r) = refl

  -- what a run gets, how many words it executes, and what it leaves
  pub runs : Runs m ws
  runs =
      record {
        first_five = subst (FirstFiveOn m) (sym run_is) (first_five m.bench (length m.z) (length m.p) (length m.za) from_six six_late);
        gives_6 =
            subst (λ k. (k ≡ 6) ↔ BenchPasses m × (most_words < length ws)) (sym run_is)
            (later m.bench (length m.z) (length m.p) (length m.za) from_six (λ l. omega arith) (λ h. is_six));
        hands_back = run_handed;
        not_begun = run_refused;
        most = run_most;
        words = run_words;
        begun = run_passes;
      }
