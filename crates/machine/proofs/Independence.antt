-- Two runs of a list, alike in all but ZA's bytes: the claim of specs/Independence.antt holds for every machine, every other ZA
-- of the same length and every list. Assumes nothing.
use mathlib.Core.Path.{◌≡◌, refl, sym, ap, ap₂, ◌∙◌, subst}
use mathlib.Core.Bool.{Bool, true, false, false≢true, true≢false, ◌||◌}
use mathlib.Core.List.{List, [], ◌∷◌}
use mathlib.Core.Option.{Option, none, some}
use Prim.Native.Nat.{ℕ, zero, suc, ◌/◌, ◌≤◌, ◌<◌}
use native.Mathlib.Nat.{div-lt_iff_lt-mul}
use native.Mathlib.Omega.{arith}
use lib.Dec.{ltb}
use lib.ListN.{length, get_or, take}
use borrow.Author.Tests.{ltb-true, ltb-false}
use Rattle.isa.specs.Refusals.{first_failure, or_else}
use Rattle.isa.specs.Answers.{describe}
use Rattle.isa.specs.declared.Refusal.{Refusal}
use Rattle.isa.specs.declared.Refusal.TheVariants.{ListLength}
use Rattle.isa.proofs.Refusals.{number_positive}
use Rattle.storage.specs.Bytes.{at}
use Rattle.storage.specs.Sizes.{za_size}
use Rattle.storage.specs.Tile.{in_tile}
use Rattle.storage.proofs.Changes.{Rows}
use Rattle.storage.proofs.Sizes.{Length, legal-length}
use Rattle.machine.specs.Machine.{Machine, with_za}
use Rattle.machine.specs.Instructions.{names_tile}
use Rattle.machine.specs.Execution.{machine_tests, refusal_of, after}
use Rattle.machine.specs.Clearing.{in_mask, clears_row, cleared_by}
use Rattle.machine.specs.Lists.{played, most_words, run_tests, Progress, next_refusal, ended, keep, before, stop, ran_words, ran, run_of, run_left}
use Rattle.machine.specs.Claims.{Keeps, run_count, run_number, Ends}
use Rattle.machine.specs.Independence.{OtherZa, EndsSame, TileEndsSame, Independent}
use Rattle.machine.proofs.Tests.{machine_passes}
use Rattle.machine.proofs.Keeping.{keeps_sym, keeps_trans, za_keeps, after_keeps, played_keeps, same_refusal}
use Rattle.machine.proofs.Acts.{Spared, clearing, deeds, cleared_rows, spared_rows}
use Rattle.machine.proofs.Links.{act, act_fits, act_adds, mask_in, played_deeds}
use Rattle.machine.proofs.Runs.{played-none, tests_by, run_bench_refused, run_too_long}
use Rattle.machine.proofs.Numbers.{number_of}
use Rattle.machine.proofs.Theorems.{run_keeps, runs}

-- ---- the answer depends on nothing that ZA holds
keeps_after : {m n : Machine} → Keeps m n → (w : ℕ) → Keeps (after m w) (after n w)
keeps_after {m} {n} k w = keeps_trans (keeps_sym (after_keeps m w)) (keeps_trans k (after_keeps n w))

-- a run that has got to a machine, with these rows cleared
abbrev got : Machine → (ℕ → Bool) → Progress
got m cleared = record { machine = m; cleared = cleared }

same_next : {m n : Machine} → Keeps m n → (cleared : ℕ → Bool) (w : ℕ) → next_refusal (got n cleared) w ≡ next_refusal (got m cleared) w
same_next k cleared w = rw k.bench

same-before : (ws : List ℕ) {m n : Machine} → Keeps m n → (cleared : ℕ → Bool) → before (got n cleared) ws ≡ before (got m cleared) ws
unfolding before
same-before [] k cleared = refl
same-before (w ∷ ws) k cleared = ap₂ (λ (o : Option Refusal) (l : List ℕ). keep o w l) (same_next k cleared w) (same-before ws (keeps_after k w) _)

same_stop : (ws : List ℕ) {m n : Machine} → Keeps m n → (cleared : ℕ → Bool) → stop (got n cleared) ws ≡ stop (got m cleared) ws
unfolding stop
same_stop [] k cleared = refl
same_stop (w ∷ ws) k cleared = ap₂ or_else (same_next k cleared w) (same_stop ws (keeps_after k w) _)

module _ {m n : Machine} (k : Keeps m n) (ws : List ℕ) where
  same_run_tests : first_failure (run_tests n ws) ≡ first_failure (run_tests m ws)
  same_run_tests = rw (k.bench, k.z, k.p, k.za_length)

  same-words : ran n ws ≡ ran m ws
  unfolding ran
  same-words = ap (λ (o : Option Refusal). ran_words o n ws) same_run_tests ∙ go (first_failure (run_tests m ws))
    where
      go : (o : Option Refusal) → ran_words o n ws ≡ ran_words o m ws
      go none = same-before ws k (λ r. false)
      go (some r) = refl

  same_run : run_of n ws ≡ run_of m ws
  unfolding run_of
  same_run = ap₂ ended (ap length same-words) (ap₂ or_else same_run_tests (same_stop ws k (λ r. false)))

-- ---- what a list has cleared, and what a longer part of it has
neither : (a b : Bool) → a || b ≡ false → (a ≡ false) × (b ≡ false)
neither true b e = absurd (true≢false e)
neither false b e = (refl, e)

module _ (r : ℕ) where
  nothing : cleared_by [] r ≡ false
  unfolding cleared_by
  nothing = refl

  cleared_more : (i n : ℕ) (ws : List ℕ) → i ≤ n → cleared_by (take i ws) r ≡ true → cleared_by (take n ws) r ≡ true
  unfolding cleared_by
  cleared_more zero n ws l h = absurd (false≢true h)
  cleared_more (suc i) zero ws l h = absurd (omega arith)
  cleared_more (suc i) (suc n) [] l h = h
  cleared_more (suc i) (suc n) (w ∷ ws) l h = go (clears_row w r) h (cleared_more i n ws (omega arith))
    where
      go : (b : Bool) → b || cleared_by (take i ws) r ≡ true → (cleared_by (take i ws) r ≡ true → cleared_by (take n ws) r ≡ true)
          → b || cleared_by (take n ws) r ≡ true
      go true c more = refl
      go false c more = more c

  -- a row that it has not cleared is of none of its words
  not_clearing : (i n : ℕ) (ws : List ℕ) → i < n → i < length ws → cleared_by (take n ws) r ≡ false → clears_row (get_or ws i 0) r ≡ false
  unfolding cleared_by
  not_clearing i n [] l k h = absurd (omega arith)
  not_clearing i zero (w ∷ ws) l k h = absurd (omega arith)
  not_clearing zero (suc n) (w ∷ ws) l k h = (neither (clears_row w r) (cleared_by (take n ws) r) h).0
  not_clearing (suc i) (suc n) (w ∷ ws) l k h =
      not_clearing i n ws (omega arith) (omega arith) (neither (clears_row w r) (cleared_by (take n ws) r) h).1

-- ---- words that are accepted, as actions and masks
module _ (m : Machine) (r : ℕ) where
  accepted_clearing : (n : ℕ) (ws : List ℕ) → ((i : ℕ) → i < n → i < length ws → refusal_of m (get_or ws i 0) ≡ none)
      → clearing (act m) (mask_in m) (take n ws) r ≡ cleared_by (take n ws) r
  unfolding cleared_by
  accepted_clearing zero ws h = refl
  accepted_clearing (suc n) [] h = refl
  accepted_clearing (suc n) (w ∷ ws) h = rw (h 0 (omega arith) (omega arith), accepted_clearing n ws (λ i l k. h (suc i) (omega arith) (omega arith)))

  -- row r is of no mask of the word, and of no tile that it names
  abbrev Spares : ℕ → Type 0
  Spares w = (clears_row w r ≡ false) × ((E t : ℕ) → names_tile E t (describe w) ≡ true → in_tile E t r ≡ false)

  spares_mask : (w : ℕ) → clears_row w r ≡ false → in_mask (mask_in m w) r ≡ false
  spares_mask w h = go (refusal_of m w) refl
    where
      go : (o : Option Refusal) → refusal_of m w ≡ o → in_mask (mask_in m w) r ≡ false
      go none e = rw e h
      go (some x) e = rw e

  spared : (n : ℕ) (ws : List ℕ) → ((i : ℕ) → i < n → i < length ws → Spares (get_or ws i 0)) → Spared (act m) (mask_in m) r (take n ws)
  spared zero ws h = tt
  spared (suc n) [] h = tt
  spared (suc n) (w ∷ ws) h =
      let (c, t) = h 0 (omega arith) (omega arith) in
      ((spares_mask w c, λ E u f e. t E u (act_adds m w E u f e).1), spared n ws (λ i l k. h (suc i) (omega arith) (omega arith)))

-- ---- a run, from two ZAs
module _ (m : Machine) (ws : List ℕ) where
  abbrev vb : ℕ
  vb = m.bench.vb

  -- no word was executed, or the run began
  data Started : Type 0 where
    no : ran m ws ≡ [] → (run_number m ws ≡ 0 → ⊥) → Started
    yes : Length vb → length m.za ≡ za_size vb → Ends m ws (run_count m ws) (run_number m ws) (run_left m ws) → Started

  not_begun : (r : Refusal) → first_failure (run_tests m ws) ≡ some r → ran m ws ≡ []
  unfolding ran
  not_begun r e = ap (λ (o : Option Refusal). ran_words o m ws) e

  started : Started
  started = go (first_failure (machine_tests m)) refl (ltb most_words (length ws)) refl
    where
      go : (o : Option Refusal) → first_failure (machine_tests m) ≡ o → (t : Bool) → ltb most_words (length ws) ≡ t → Started
      go (some r) e t f = no (not_begun r (tests_by m ws (some r) e)) (λ z. let n = (run_bench_refused m ws r e).number in absurd (omega (arith, number_positive r)))
      go none e true f =
          let l = ltb-true most_words (length ws) f in
          no (not_begun ListLength (tests_by m ws none e ∙ rw f)) (λ z. let n = (run_too_long m ws e l).number in absurd (omega arith))
      go none e false f = let q = machine_passes m e in yes (legal-length vb q.length_legal) q.za_sized ((runs m ws).begun q (ltb-false most_words (length ws) f))

  left_unmoved : ran m ws ≡ [] → run_left m ws ≡ m
  unfolding run_left
  left_unmoved e = ap (played m) e ∙ played-none m

  counts_none : ran m ws ≡ [] → run_count m ws ≡ 0
  unfolding run_of
  counts_none e = ap length e

  number-none : (o : Option Refusal) → number_of o ≡ 0 → o ≡ none
  number-none none h = refl
  number-none (some r) h = absurd (omega (arith, number_positive r))

  -- ---- a run that began
  module _ (l : Length vb) (size : length m.za ≡ za_size vb) (ends : Ends m ws (run_count m ws) (run_number m ws) (run_left m ws)) where
    abbrev executed : List ℕ
    executed = take (run_count m ws) ws

    accepted-words : (i : ℕ) → i < run_count m ws → i < length ws → refusal_of m (get_or ws i 0) ≡ none
    accepted-words i h k =
        sym (same_refusal (played_keeps (take i ws) m) (get_or ws i 0)) ∙ number-none (refusal_of (played m (take i ws)) (get_or ws i 0)) (ends.executed i h)

    -- what it leaves of a ZA, by what its words add and clear
    left_deeds : (za : List ℕ) → length za ≡ length m.za → (run_left (with_za m za) ws).za ≡ deeds (act m) (mask_in m) vb za executed
    unfolding run_left
    left_deeds za e =
        ap (λ (es : List ℕ). (played (with_za m za) es).za) (same-words (za_keeps m za e) ws ∙ (runs m ws).words) ∙ played_deeds m l executed za e

    row_lt : (q : ℕ) → q < length m.za → q / vb < vb
    row_lt q h = (div-lt_iff_lt-mul {k = vb} {x = q} {y = vb} (omega (arith, l.least))).1 (rw size at h)

    cleared-same : (zb : List ℕ) → length zb ≡ length m.za → (q : ℕ) → q < length m.za → cleared_by executed (q / vb) ≡ true → EndsSame m zb ws q
    cleared-same zb e q h c =
        let u = left_deeds zb e in
        let v = left_deeds m.za refl in
        let k : q < length (run_left (with_za m zb) ws).za = rw ((run_keeps (with_za m zb) ws).za_length, e) h in
        let rows : Rows vb vb zb = record { positive = omega (arith, l.least); whole = e ∙ size } in
        let s = cleared_rows (act m) (mask_in m) (act_fits m) vb l executed (q / vb) zb m.za rows e (accepted_clearing m (q / vb) (run_count m ws) ws accepted-words ∙ c) in
        ap (λ (za : List ℕ). at za q) u ∙ s.agree q (subst (λ (za : List ℕ). q < length za) u k) refl ∙ sym (ap (λ (za : List ℕ). at za q) v)

    -- no executed word names a tile with a row that is not cleared
    named_rows : (i E t r : ℕ) → i < run_count m ws → names_tile E t (describe (get_or ws i 0)) ≡ true → r < vb → in_tile E t r ≡ true → cleared_by executed r ≡ true
    named_rows i E t r h n k g = go (cleared_by (take i ws) r) refl
      where
        go : (b : Bool) → cleared_by (take i ws) r ≡ b → cleared_by executed r ≡ true
        go true e = cleared_more r i (run_count m ws) ws (omega arith) e
        go false e = absurd (ends.cleared i h (record { E = E; tile = t; row = r; names = n; within = k; of_tile = g; not_cleared = e }))

    stays : (q : ℕ) → q < length m.za → cleared_by executed (q / vb) ≡ false → at (run_left m ws).za q ≡ at m.za q
    stays q h c =
        ap (λ (za : List ℕ). at za q) (left_deeds m.za refl)
        ∙ spared_rows (act m) (mask_in m) (act_fits m) vb l executed m.za q h
        (spared m (q / vb) (run_count m ws) ws (λ i a k. (not_clearing (q / vb) i (run_count m ws) ws a k c, λ E t n. go i E t a n (in_tile E t (q / vb)) refl)))
      where
        go : (i E t : ℕ) → i < run_count m ws → names_tile E t (describe (get_or ws i 0)) ≡ true → (b : Bool) → in_tile E t (q / vb) ≡ b → b ≡ false
        go i E t a n true e = sym (named_rows i E t (q / vb) a n (row_lt q h) e) ∙ c
        go i E t a n false e = refl

-- the same count and refusal, and the same bytes in every row that an executed ZERO cleared
pub independent : (m : Machine) (zb : List ℕ) (ws : List ℕ) → OtherZa m zb → Independent m zb ws
independent m zb ws e = go (started m ws)
  where
    k : Keeps m (with_za m zb)
    k = za_keeps m zb e

    go : Started m ws → Independent m zb ws
    go (no unbegun unfinished) =
        let c = counts_none m ws unbegun in
        let rows : (r : ℕ) → cleared_by (ran m ws) r ≡ false = λ r. ap (λ (es : List ℕ). cleared_by es r) unbegun ∙ nothing r in
        record {
          answer = same_run k ws;
          words = same-words k ws;
          cleared_rows = λ q h i. absurd (false≢true (sym (rows (q / m.bench.vb)) ∙ i));
          other_rows = λ q h i. ap (λ (n : Machine). at n.za q) (left_unmoved m ws unbegun);
          executed_tiles = λ i E t h n. absurd (omega arith);
          named_tiles = λ z i E t h n. absurd (unfinished z);
        }
    go (yes l size ends) =
        let words : (r : ℕ) → cleared_by (ran m ws) r ≡ cleared_by (take (run_count m ws) ws) r = λ r. ap (λ (es : List ℕ). cleared_by es r) (runs m ws).words in
        let tiles : (i E t : ℕ) → i < run_count m ws → names_tile E t (describe (get_or ws i 0)) ≡ true → TileEndsSame m zb ws E t =
        λ i E t h n q g r. cleared-same m ws l size ends zb e q g (named_rows m ws l size ends i E t (q / m.bench.vb) h n (row_lt m ws l size ends q g) r) in
        record {
          answer = same_run k ws;
          words = same-words k ws;
          cleared_rows = λ q h i. cleared-same m ws l size ends zb e q h (sym (words (q / m.bench.vb)) ∙ i);
          other_rows = λ q h i. stays m ws l size ends q h (sym (words (q / m.bench.vb)) ∙ i);
          executed_tiles = tiles;
          named_tiles = λ z i E t h n. tiles i E t (rw (ends.whole.0 z) h) n;
        }
