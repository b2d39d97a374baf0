-- A list of words part of the way through: what is left of it ends as the whole does. Assumes nothing.
use mathlib.Core.Path.{◌≡◌, ◌∙◌, sym, refl, ap, ap₂, subst, fun_ext}
use mathlib.Core.Bool.{Bool, true, false, not, cond, ◌||◌}
use mathlib.Core.List.{List, [], ◌∷◌}
use mathlib.Core.Option.{Option, none, some}
use Prim.Native.Nat.{ℕ, suc, ◌+◌, ◌%◌, ◌^◌, ◌≤◌, ◌<◌}
use native.Mathlib.Nat.{zero-div}
use native.Mathlib.Omega.{arith}
use lib.ListN.{length, get_or, drop, drop_of_length-le}
use lib.Seq.{drop-cons}
use borrow.Author.Tests.{lt-ltb, le-ltb}
use Rattle.isa.specs.Refusals.{first_failure, or_else, missing_beside, number_in}
use Rattle.isa.specs.Answers.{describe}
use Rattle.isa.specs.declared.Refusal.{Refusal}
use Rattle.isa.specs.declared.Refusal.TheVariants.{ListLength, NotCleared}
use Rattle.storage.specs.Tile.{masked}
use Rattle.machine.specs.Machine.{Machine, with_za}
use Rattle.machine.specs.Instructions.{tile_named}
use Rattle.machine.specs.Execution.{word_tests, word_refusal, machine_tests, left_by, after}
use Rattle.machine.specs.Clearing.{clears_row, tile_cleared, cleared_test}
use Rattle.machine.specs.Lists.{played, most_words, list_test, run_tests, Progress, at_start, onward, next_refusal, ended, before, stop}
use Rattle.machine.specs.Lists.{end_of, left_at_end, ran_words, ran, run_of, run_left}
use Rattle.machine.specs.Claims.{run_count, run_number, run_missing}
use Rattle.machine.specs.declared.Ended.{Ended}
use Rattle.isa.proofs.Refusals.{failure-++}
use Rattle.machine.proofs.Numbers.{start_by, start_passed}
use Rattle.machine.proofs.Execution.{refused_by_word, after_by}
use Rattle.machine.proofs.Keeping.{Alike, alike_refl, alike_trans, after_alike, after_keeps, kept_is}

left_cons : (ws : List ℕ) (i : ℕ) → i < length ws → drop i ws ≡ get_or ws i 0 ∷ drop (i + 1) ws
left_cons ws i h = let e : suc i ≡ i + 1 = omega arith in drop-cons ws i 0 h ∙ ap (λ n. get_or ws i 0 ∷ drop n ws) e

pub played_cons : (m : Machine) (w : ℕ) (ws : List ℕ) → played m (w ∷ ws) ≡ played (after m w) ws
unfolding played
played_cons m w ws = refl

pub played-none : (m : Machine) → played m [] ≡ m
unfolding played
played-none m = refl

-- ---- the next word of a run, by its own tests and by what is cleared
pub data Next (s : Progress) (w : ℕ) : Option Refusal → Type 0 where
  by_word : (r : Refusal) → word_refusal s.machine w ≡ some r → Next s w (some r)
  uncleared : word_refusal s.machine w ≡ none → tile_cleared s.machine.bench.vb s.cleared (tile_named (describe w)) ≡ false → Next s w (some NotCleared)
  passes : word_refusal s.machine w ≡ none → tile_cleared s.machine.bench.vb s.cleared (tile_named (describe w)) ≡ true → Next s w none

pub next_by : (s : Progress) (w : ℕ) → Next s w (next_refusal s w)
next_by s w =
    let b = s.machine.bench in
    subst (Next s w) (sym (failure-++ (word_tests b w) (cleared_test b.vb s.cleared (describe w) ∷ [])))
    (go (word_refusal s.machine w) refl (tile_cleared b.vb s.cleared (tile_named (describe w))) refl)
  where
    go : (o : Option Refusal) → word_refusal s.machine w ≡ o → (c : Bool) → tile_cleared s.machine.bench.vb s.cleared (tile_named (describe w)) ≡ c
        → Next s w (or_else o (cond (not c) (some NotCleared) none))
    go (some r) e c f = by_word r e
    go none e true f = passes e f
    go none e false f = uncleared e f

next_passed : (s : Progress) (w : ℕ) → next_refusal s w ≡ none → word_refusal s.machine w ≡ none
next_passed s w e = go (subst (Next s w) e (next_by s w))
  where
    go : Next s w none → word_refusal s.machine w ≡ none
    go (passes f c) = f

-- what it leaves, by its refusal
abbrev pub next_left : Progress → ℕ → Machine
next_left s w = left_by s.machine w (next_refusal s w)

-- ---- the first word of a list
module _ (s : Progress) (w : ℕ) (ws : List ℕ) where
  pub before_cons : next_refusal s w ≡ none → before s (w ∷ ws) ≡ w ∷ before (onward s w) ws
  unfolding before
  before_cons f = rw f

  pub before-none : (r : Refusal) → next_refusal s w ≡ some r → before s (w ∷ ws) ≡ []
  unfolding before
  before-none r f = rw f

  pub stop_cons : next_refusal s w ≡ none → stop s (w ∷ ws) ≡ stop (onward s w) ws
  unfolding stop
  stop_cons f = rw f

  pub stop_here : (r : Refusal) → next_refusal s w ≡ some r → stop s (w ∷ ws) ≡ some r
  unfolding stop
  stop_here r f = rw f

pub before_end : (s : Progress) → before s [] ≡ []
unfolding before
before_end s = refl

pub stop_end : (s : Progress) → stop s [] ≡ none
unfolding stop
stop_end s = refl

-- a word leaves what its ZA says, as it changes nothing else
pub turn : (m : Machine) (w : ℕ) (za : List ℕ) → za ≡ (after m w).za → with_za m za ≡ after m w
turn m w za e = ap (with_za m) e ∙ sym (kept_is (after_keeps m w))

module _ (m₀ : Machine) (ws : List ℕ) where
  -- ---- a play
  pub record Playing (m : Machine) (i : ℕ) : Type 0 where
    pub within : i ≤ length ws
    pub alike : Alike m₀ m
    pub left : played m (drop i ws) ≡ played m₀ ws

  pub play_start : Playing m₀ 0
  play_start = record { within = omega arith; alike = alike_refl m₀; left = refl }

  pub play_turn : (m m' : Machine) (i : ℕ) → Playing m i → i < length ws → m' ≡ after m (get_or ws i 0) → Playing m' (i + 1)
  play_turn m m' i g h e =
      record {
        within = omega arith;
        alike = rw e (alike_trans g.alike (after_alike m (get_or ws i 0)));
        left = ap (λ (n : Machine). played n (drop (i + 1) ws)) e ∙ sym (played_cons m _ _) ∙ sym (ap (played m) (left_cons ws i h)) ∙ g.left;
      }

  pub play_end : (m : Machine) (i : ℕ) → Playing m i → length ws ≤ i → m.za ≡ (played m₀ ws).za
  play_end m i g h = ap (λ (n : Machine). n.za) (sym (played-none m) ∙ sym (ap (played m) (drop_of_length-le ws h)) ∙ g.left)

-- ---- a run: what its byte stands for
abbrev pub by_mask : Machine → ℕ → Progress
by_mask m mask = record { machine = m; cleared = masked mask }

pub nothing_cleared : (m : Machine) → at_start m ≡ by_mask m 0
nothing_cleared m = ap (λ (c : ℕ → Bool). record { machine = m; cleared = c }) (fun_ext (λ r. rw (zero-div (2 ^ (r % 8)))))

-- an executed word leaves what its ZA says, and clears what its mask says
pub executed_next : (m : Machine) (mask w : ℕ) (za : List ℕ) (mask' : ℕ) → with_za m za ≡ after m w → ((r : ℕ) → masked mask' r ≡ masked mask r || clears_row w r)
    → by_mask (with_za m za) mask' ≡ onward (by_mask m mask) w
executed_next m mask w za mask' e c = ap₂ (λ (n : Machine) (c : ℕ → Bool). record { machine = n; cleared = c }) e (fun_ext c)

module _ (s₀ : Progress) (ws : List ℕ) where
  pub record Running (s : Progress) (i : ℕ) : Type 0 where
    pub within : i ≤ length ws
    pub alike : Alike s₀.machine s.machine
    pub counts : i + length (before s (drop i ws)) ≡ length (before s₀ ws)
    pub stops : stop s (drop i ws) ≡ stop s₀ ws
    pub left : left_at_end s (drop i ws) ≡ left_at_end s₀ ws

  pub run_start : (s : Progress) → s₀ ≡ s → Running s 0
  run_start s e = subst (λ (s : Progress). Running s 0) e (record { within = omega arith; alike = alike_refl s₀.machine; counts = omega arith; stops = refl; left = refl })

  -- how a run ends: its answer, and its ZA
  abbrev pub RunEnds : ℕ → Option Refusal → List ℕ → Type 0
  RunEnds n o za = record { answer : ended n o ≡ end_of s₀ ws; za_after : za ≡ (left_at_end s₀ ws).za }

  module _ (s : Progress) (i : ℕ) (g : Running s i) where
    -- no word is left to execute
    run_stops : (o : Option Refusal) → before s (drop i ws) ≡ [] → stop s (drop i ws) ≡ o → RunEnds i o s.machine.za
    run_stops o n e =
        let c = g.counts in
        let k : length (before s (drop i ws)) ≡ 0 = ap length n in
        let j : i ≡ length (before s₀ ws) = omega arith in
        record {
          answer = ap₂ ended j (sym e ∙ g.stops);
          za_after = ap (λ (n : Machine). n.za) (sym (played-none s.machine) ∙ sym (ap (played s.machine) n) ∙ g.left);
        }

    pub run_end : length ws ≤ i → RunEnds i none s.machine.za
    run_end h = let e = drop_of_length-le ws h in run_stops none (ap (before s) e ∙ before_end s) (ap (stop s) e ∙ stop_end s)

    module _ (h : i < length ws) where
      pub run_refused : (r : Refusal) (za : List ℕ) → next_refusal s (get_or ws i 0) ≡ some r → za ≡ (next_left s (get_or ws i 0)).za → RunEnds i (some r) za
      run_refused r za f u =
          let e = left_cons ws i h in
          let x = run_stops (some r) (ap (before s) e ∙ before-none s _ _ r f) (ap (stop s) e ∙ stop_here s _ _ r f) in
          record { answer = x.answer; za_after = u ∙ ap (λ o. (left_by s.machine (get_or ws i 0) o).za) f ∙ x.za_after }

      pub run_turn : (s' : Progress) → next_refusal s (get_or ws i 0) ≡ none → s' ≡ onward s (get_or ws i 0) → Running s' (i + 1)
      run_turn s' f e =
          let d = left_cons ws i h in
          let c = g.counts in
          let m = s.machine in
          let k : before s (drop i ws) ≡ get_or ws i 0 ∷ before (onward s (get_or ws i 0)) (drop (i + 1) ws) = ap (before s) d ∙ before_cons s _ _ f in
          let n : length (before s (drop i ws)) ≡ suc (length (before (onward s (get_or ws i 0)) (drop (i + 1) ws))) = ap length k in
          rw e
          (record {
            within = omega arith;
            alike = alike_trans g.alike (after_alike m (get_or ws i 0));
            counts = omega arith;
            stops = sym (stop_cons s _ _ f) ∙ sym (ap (stop s) d) ∙ g.stops;
            left = sym (played_cons m _ _) ∙ sym (ap (played m) k) ∙ g.left;
          })

-- a word of a run leaves what it does singly
pub as_single : (s : Progress) (w : ℕ) (za : List ℕ) → first_failure (machine_tests s.machine) ≡ none → next_refusal s w ≡ none → za ≡ (next_left s w).za
    → with_za s.machine za ≡ after s.machine w
as_single s w za h f e =
    let m = s.machine in
    let g = ap (left_by m w) f ∙ sym (after_by m w none (refused_by_word m w h ∙ next_passed s w f)) in
    turn m w za (e ∙ ap (λ (n : Machine). n.za) g)

-- ---- a run by its first tests
module _ (m : Machine) (ws : List ℕ) where
  -- a run is ended, and leaves, as tests 1 to 6 and its words say; and with its numbers, of ZA
  abbrev pub RunIs : Ended → Machine → Type 0
  RunIs r m' = (r ≡ run_of m ws) × (m' ≡ run_left m ws)

  abbrev pub RunZa : Ended → List ℕ → Type 0
  RunZa r za = record {
    answer : r ≡ run_of m ws;
    za_after : za ≡ (run_left m ws).za;
    count : r.count ≡ run_count m ws;
    number : number_in r.outcome ≡ run_number m ws;
    missing : missing_beside r.outcome ≡ run_missing m ws;
  }

  pub run_numbers : (r : Ended) (za : List ℕ) → r ≡ run_of m ws → za ≡ (run_left m ws).za → RunZa r za
  run_numbers r za e f = record {
    answer = e;
    za_after = f;
    count = ap (λ (r : Ended). r.count) e;
    number = ap (λ (r : Ended). number_in r.outcome) e;
    missing = ap (λ (r : Ended). missing_beside r.outcome) e;
  }

  run_za : (r : Ended) (m' : Machine) → RunIs r m' → RunZa r m'.za
  run_za r m' e = run_numbers r m'.za e.0 (ap (λ (n : Machine). n.za) e.1)

  pub run_by : (o : Option Refusal) → first_failure (run_tests m ws) ≡ o
      → RunIs (ended (length (ran_words o m ws)) (or_else o (stop (at_start m) ws))) (played m (ran_words o m ws))
  unfolding run_of run_left ran
  run_by o h = (sym (ap (λ o. ended (length (ran_words o m ws)) (or_else o (stop (at_start m) ws))) h), sym (ap (λ o. played m (ran_words o m ws)) h))

  pub run_not_begun : (r : Refusal) → first_failure (run_tests m ws) ≡ some r → RunIs (ended 0 (some r)) m
  run_not_begun r h = let e = run_by (some r) h in (e.0, sym (played-none m) ∙ e.1)

  pub tests_by : (o : Option Refusal) → first_failure (machine_tests m) ≡ o → first_failure (run_tests m ws) ≡ or_else o (first_failure (list_test (length ws) ∷ []))
  tests_by o h = start_by m.bench (length m.z) (length m.p) (length m.za) (length ws) o h

  pub run_unbegun : (r : Refusal) → first_failure (run_tests m ws) ≡ some r → RunZa (ended 0 (some r)) m.za
  run_unbegun r h = run_za _ _ (run_not_begun r h)

  pub run_bench_refused : (r : Refusal) → first_failure (machine_tests m) ≡ some r → RunZa (ended 0 (some r)) m.za
  run_bench_refused r h = run_unbegun r (tests_by (some r) h)

  module _ (passes : first_failure (machine_tests m) ≡ none) where
    pub run_too_long : most_words < length ws → RunZa (ended 0 (some ListLength)) m.za
    run_too_long h = run_unbegun ListLength (tests_by none passes ∙ rw (lt-ltb most_words (length ws) h))

    pub run_begun : length ws ≤ most_words → RunIs (end_of (at_start m) ws) (left_at_end (at_start m) ws)
    run_begun h = run_by none (tests_by none passes ∙ rw (le-ltb most_words (length ws) h))

  -- its tests let it begin
  module _ (h : first_failure (run_tests m ws) ≡ none) where
    pub run_bench_passed : first_failure (machine_tests m) ≡ none
    run_bench_passed = (start_passed m.bench (length m.z) (length m.p) (length m.za) (length ws) h).0

    pub run_words-played : (r : Ended) (za : List ℕ) → r ≡ end_of (at_start m) ws → za ≡ (left_at_end (at_start m) ws).za → RunZa r za
    run_words-played r za e f = let y = run_by none h in run_numbers r za (e ∙ y.0) (f ∙ ap (λ (n : Machine). n.za) y.1)
