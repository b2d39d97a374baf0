-- Where a run leaves its list: how many words are before, and the refusal of the next, by its own tests or by what they have
-- cleared. Assumes nothing.
use mathlib.Core.Path.{◌≡◌, ◌∙◌, sym, refl, ap, ap₂, subst, fun_ext}
use mathlib.Core.Bool.{Bool, true, false, false≢true, true≢false, not, ◌||◌}
use mathlib.Core.Logic.{◌↔◌}
use mathlib.Core.List.{List, [], ◌∷◌, foldl}
use mathlib.Core.Option.{Option, none, some}
use Prim.Native.Nat.{ℕ, zero, suc, ◌≤◌, ◌<◌}
use native.Mathlib.Omega.{arith}
use lib.Dec.{eqb}
use lib.ListN.{length, get_or, take}
use borrow.Author.Tests.{eqb-true, eq-eqb}
use Rattle.isa.specs.Refusals.{number, first_failure, missing_beside, number_in}
use Rattle.isa.specs.Answers.{describe}
use Rattle.isa.specs.Claims.{HandsBack}
use Rattle.isa.specs.declared.Refusal.{Refusal}
use Rattle.isa.proofs.Refusals.{number_positive}
use Rattle.isa.proofs.Rows.{both}
use Rattle.isa.proofs.Sums.{without_sum, Handed, handed, Fair, fair-++, plain_fair}
use Rattle.isa.proofs.Tests.{below, one_below}
use Rattle.storage.specs.Tile.{in_tile}
use Rattle.machine.specs.declared.Bench.{Bench}
use Rattle.machine.specs.declared.Ended.{Ended}
use Rattle.machine.specs.Machine.{Machine}
use Rattle.machine.specs.Instructions.{TileName, tile_named, is_tile}
use Rattle.machine.specs.Execution.{machine_tests, word_tests, word_refusal}
use Rattle.machine.specs.Clearing.{clears_row, cleared_by, tile_cleared, cleared_test}
use Rattle.machine.specs.Lists.{played, Progress, at_start, onward, next_tests, next_refusal, ended, keep, before, stop}
use Rattle.machine.specs.Claims.{execute_number, BenchPasses, Uncleared, UnclearedAt, Ends}
use Rattle.machine.proofs.Tests.{word_fair}
use Rattle.machine.proofs.Execution.{refused_by_word}
use Rattle.machine.proofs.Keeping.{played_keeps, played_alike, same_tests}
use Rattle.machine.proofs.Masks.{or-false}
use Rattle.machine.proofs.Runs.{Next, by_word, uncleared, passes, next_by}
use Rattle.machine.proofs.Runs.{before_cons, before-none, before_end, stop_cons, stop_here, stop_end}
use Rattle.machine.proofs.Numbers.{number_of, bench_passed, word_number, word-number_late, word-number-most}

-- ---- where words lead
abbrev pub reached : Progress → List ℕ → Progress
reached s ws = foldl onward s ws

reached_machine : (ws : List ℕ) (s : Progress) → (reached s ws).machine ≡ played s.machine ws
unfolding played
reached_machine [] s = refl
reached_machine (w ∷ ws) s = reached_machine ws (onward s w)

or_assoc : (a b c : Bool) → (a || b) || c ≡ a || (b || c)
or_assoc true b c = refl
or_assoc false b c = refl

-- what they have cleared, beside what was cleared before them
reached_cleared : (ws : List ℕ) (s : Progress) (r : ℕ) → (reached s ws).cleared r ≡ s.cleared r || cleared_by ws r
unfolding cleared_by
reached_cleared [] s r = sym (or-false (s.cleared r))
reached_cleared (w ∷ ws) s r = reached_cleared ws (onward s w) r ∙ or_assoc (s.cleared r) (clears_row w r) (cleared_by ws r)

-- ---- a tile that is not cleared has a row that is not
named : (E t : ℕ) (n : Option TileName) → is_tile E t n ≡ true → n ≡ some (record { E = E; tile = t })
named E t none h = absurd (false≢true h)
named E t (some n) h =
    let (e, f) = both (eqb n.E E) (eqb n.tile t) h in
    ap₂ (λ (E t : ℕ). some (record { E = E; tile = t })) (eqb-true n.E E e) (eqb-true n.tile t f)

module _ (vb : ℕ) (executed : List ℕ) (w : ℕ) where
  cleared_whole : tile_cleared vb (cleared_by executed) (tile_named (describe w)) ≡ true → Uncleared vb executed w → ⊥
  cleared_whole h u =
      let k = below _ vb u.row (rw (named u.E u.tile (tile_named (describe w)) u.names) at h) u.within in
      false≢true (rw (u.of_tile, u.not_cleared) at k)

  row_uncleared : tile_cleared vb (cleared_by executed) (tile_named (describe w)) ≡ false → Uncleared vb executed w
  row_uncleared h = go (tile_named (describe w)) refl h
    where
      either : (a b : Bool) → not a || b ≡ false → (a ≡ true) × (b ≡ false)
      either true b e = (refl, e)
      either false b e = absurd (true≢false e)

      go : (n : Option TileName) → tile_named (describe w) ≡ n → tile_cleared vb (cleared_by executed) n ≡ false → Uncleared vb executed w
      go none e f = absurd (true≢false f)
      go (some n) e f =
          let (r, l, q) = one_below _ vb f in
          let (i, c) = either (in_tile n.E n.tile r) (cleared_by executed r) q in
          record {
            E = n.E;
            tile = n.tile;
            row = r;
            names = rw (e, eq-eqb n.E n.E refl) (eq-eqb n.tile n.tile refl);
            within = l;
            of_tile = i;
            not_cleared = c;
          }

-- the refusal of word n of a list, on what the words before it left and cleared
abbrev pub refusal_at : Progress → List ℕ → ℕ → Option Refusal
refusal_at s ws n = next_refusal (reached s (take n ws)) (get_or ws n 0)

-- where it leaves the list: how many words are before, and the refusal
pub data Leaves (s : Progress) (ws : List ℕ) : ℕ → Option Refusal → Type 0 where
  at_end : Leaves s ws (length ws) none
  at-word : (n : ℕ) (r : Refusal) → n < length ws → refusal_at s ws n ≡ some r → Leaves s ws n (some r)

leaves_cons : (s : Progress) {n : ℕ} {o : Option Refusal} (w : ℕ) (ws : List ℕ) → Leaves (onward s w) ws n o → Leaves s (w ∷ ws) (suc n) o
leaves_cons s w ws at_end = at_end
leaves_cons s w ws (at-word n r h e) = at-word (suc n) r (omega arith) e

pub leaves : (ws : List ℕ) (s : Progress) → Leaves s ws (length (before s ws)) (stop s ws)
leaves [] s = rw (before_end s, stop_end s) at_end
leaves (w ∷ ws) s = go (next_refusal s w) refl (leaves ws (onward s w))
  where
    go : (o : Option Refusal) → next_refusal s w ≡ o → Leaves (onward s w) ws (length (before (onward s w) ws)) (stop (onward s w) ws)
        → Leaves s (w ∷ ws) (length (before s (w ∷ ws))) (stop s (w ∷ ws))
    go none e l = rw (before_cons s w ws e, stop_cons s w ws e) (leaves_cons s w ws l)
    go (some r) e l = rw (before-none s w ws r e, stop_here s w ws r e) (at-word 0 r (omega arith) e)

-- the words before
pub taken : (ws : List ℕ) (s : Progress) → before s ws ≡ take (length (before s ws)) ws
unfolding before
taken [] s = refl
taken (w ∷ ws) s = go (next_refusal s w) (taken ws (onward s w))
  where
    go : (o : Option Refusal) → before (onward s w) ws ≡ take (length (before (onward s w) ws)) ws
        → keep o w (before (onward s w) ws) ≡ take (length (keep o w (before (onward s w) ws))) (w ∷ ws)
    go none e = ap (λ (r : List ℕ). w ∷ r) e
    go (some r) e = refl

passed : (ws : List ℕ) (s : Progress) (i : ℕ) → i < length (before s ws) → refusal_at s ws i ≡ none
unfolding before
passed [] s i h = absurd (omega arith)
passed (w ∷ ws) s i h = go (next_refusal s w) refl i h (passed ws (onward s w))
  where
    go : (o : Option Refusal) → next_refusal s w ≡ o → (i : ℕ) → i < length (keep o w (before (onward s w) ws))
        → ((i : ℕ) → i < length (before (onward s w) ws) → refusal_at (onward s w) ws i ≡ none) → refusal_at s (w ∷ ws) i ≡ none
    go none e zero h rest = e
    go none e (suc i) h rest = rest i (omega arith)
    go (some r) e i h rest = absurd (omega arith)

pub leaves_within : {s : Progress} {ws : List ℕ} {n : ℕ} {o : Option Refusal} → Leaves s ws n o → n ≤ length ws
leaves_within at_end = omega arith
leaves_within (at-word n r h e) = omega arith

next_late : {s : Progress} {w : ℕ} {o : Option Refusal} → Next s w o → 0 < number_of o → 6 < number_of o
next_late {s} {w} (by_word r e) h = subst (λ o. 0 < number_of o → 6 < number_of o) e (word-number_late s.machine.bench w) h
next_late (uncleared e c) h = omega arith
next_late (passes e c) h = absurd (omega arith)

pub leaves_late : {s : Progress} {ws : List ℕ} {n : ℕ} {o : Option Refusal} → Leaves s ws n o → 0 < number_of o → 6 < number_of o
leaves_late at_end h = absurd (omega arith)
leaves_late {s} {ws} (at-word n r l e) h =
    next_late (subst (Next (reached s (take n ws)) (get_or ws n 0)) e (next_by (reached s (take n ws)) (get_or ws n 0))) h

leaves_whole : {s : Progress} {ws : List ℕ} {n : ℕ} {o : Option Refusal} → Leaves s ws n o → (number_of o ≡ 0) ↔ (n ≡ length ws)
leaves_whole at_end = (λ e. refl, λ e. refl)
leaves_whole (at-word n r l e) = (λ e. absurd (omega (arith, number_positive r)), λ e. absurd (omega arith))

-- what is handed back where a run ends
abbrev pub HandedAt : Machine → List ℕ → Ended → Type 0
HandedAt m ws r = HandsBack m.bench.flags (get_or ws r.count 0) (number_in r.outcome) (missing_beside r.outcome)

next_fair : (b : Bench) (cleared : ℕ → Bool) (w : ℕ) → Fair b.flags w (next_tests b cleared w)
next_fair b cleared w =
    let last = cleared_test b.vb cleared (describe w) ∷ [] in
    fair-++ b.flags w (word_tests b w) last (word_fair b w) (plain_fair b.flags w last refl)

pub leaves_handed : {m : Machine} {ws : List ℕ} {n : ℕ} {o : Option Refusal} → Leaves (at_start m) ws n o → HandedAt m ws (ended n o)
leaves_handed at_end = without_sum (λ e. omega arith)
leaves_handed {m} {ws} (at-word n r l e) =
    let s = reached (at_start m) (take n ws) in
    let b = s.machine.bench in
    let w = get_or ws n 0 in
    let h : Handed b.flags w (some r) = subst (Handed b.flags w) e (handed b.flags w (next_tests b s.cleared w) (next_fair b s.cleared w)) in
    subst (λ (b : Bench). Handed b.flags w (some r)) (ap (λ (n : Machine). n.bench) (reached_machine (take n ws) (at_start m)) ∙ (played_keeps (take n ws) m).bench) h

-- ---- a run on a bench that passes 1 to 5
module _ (m : Machine) (ws : List ℕ) (h : BenchPasses m) where
  -- word n, on what the words before it left and cleared: its own number, and what its tile asks
  abbrev Reached : ℕ → Progress
  Reached n = reached (at_start m) (take n ws)

  singly : (n : ℕ) → execute_number (played m (take n ws)) (get_or ws n 0) ≡ number_of (word_refusal (Reached n).machine (get_or ws n 0))
  singly n =
      ap (λ (k : Machine). execute_number k (get_or ws n 0)) (sym (reached_machine (take n ws) (at_start m)))
      ∙ ap number_of (refused_by_word (Reached n).machine (get_or ws n 0)
      (ap (λ (k : Machine). first_failure (machine_tests k)) (reached_machine (take n ws) (at_start m))
      ∙ same_tests (played_alike (take n ws) m) ∙ bench_passed m.bench (length m.z) (length m.p) (length m.za) h))

  -- its test 14, in terms of the words before it
  tile_asked : (n : ℕ) (c : Bool) → tile_cleared (Reached n).machine.bench.vb (Reached n).cleared (tile_named (describe (get_or ws n 0))) ≡ c
      → tile_cleared m.bench.vb (cleared_by (take n ws)) (tile_named (describe (get_or ws n 0))) ≡ c
  tile_asked n c e =
      ap₂ (λ (vb : ℕ) (rows : ℕ → Bool). tile_cleared vb rows (tile_named (describe (get_or ws n 0))))
      (sym (ap (λ (k : Machine). k.bench.vb) (reached_machine (take n ws) (at_start m)) ∙ (played_alike (take n ws) m).vb))
      (sym (fun_ext (λ r. reached_cleared (take n ws) (at_start m) r)))
      ∙ e

  next_at : {o : Option Refusal} (n : ℕ) → refusal_at (at_start m) ws n ≡ o → Next (Reached n) (get_or ws n 0) o
  next_at n e = subst (Next (Reached n) (get_or ws n 0)) e (next_by (Reached n) (get_or ws n 0))

  passes_both : (n : ℕ) → Next (Reached n) (get_or ws n 0) none → (execute_number (played m (take n ws)) (get_or ws n 0) ≡ 0) × (UnclearedAt m ws n → ⊥)
  passes_both n (passes e c) = (singly n ∙ ap number_of e, cleared_whole m.bench.vb (take n ws) (get_or ws n 0) (tile_asked n true c))

  -- the word that is refused
  stops_by : (n : ℕ) {r : Refusal} → Next (Reached n) (get_or ws n 0) (some r) → (number r ≡ 14 → ⊥) → execute_number (played m (take n ws)) (get_or ws n 0) ≡ number r
  stops_by n (by_word r e) d = singly n ∙ ap number_of e
  stops_by n (uncleared e c) d = absurd (d refl)

  stops_14 : (n : ℕ) {r : Refusal} → Next (Reached n) (get_or ws n 0) (some r)
      → (number r ≡ 14) ↔ (execute_number (played m (take n ws)) (get_or ws n 0) ≡ 0) × UnclearedAt m ws n
  stops_14 n (by_word r e) =
      let s = singly n ∙ ap number_of e in
      let most = word-number-most (Reached n).machine.bench (get_or ws n 0) in
      let k : word_number (Reached n).machine.bench (get_or ws n 0) ≡ number r = ap number_of e in
      (λ d. absurd (omega arith), λ c. absurd (omega (arith, number_positive r)))
  stops_14 n (uncleared e c) = (
    λ d. (singly n ∙ ap number_of e, row_uncleared m.bench.vb (take n ws) (get_or ws n 0) (tile_asked n false c)),
    λ d. refl,
  )

  leaves_singly : {n : ℕ} {o : Option Refusal} → Leaves (at_start m) ws n o → n < length ws → (number_of o ≡ 14 → ⊥)
      → execute_number (played m (take n ws)) (get_or ws n 0) ≡ number_of o
  leaves_singly at_end l d = absurd (omega arith)
  leaves_singly (at-word n r l e) k d = stops_by n (next_at n e) d

  leaves_14 : {n : ℕ} {o : Option Refusal} → Leaves (at_start m) ws n o
      → (number_of o ≡ 14) ↔ (n < length ws) × (execute_number (played m (take n ws)) (get_or ws n 0) ≡ 0) × UnclearedAt m ws n
  leaves_14 at_end = (λ d. absurd (omega arith), λ c. absurd (omega arith))
  leaves_14 (at-word n r l e) =
      let i = stops_14 n (next_at n e) in
      (λ d. (l, (i.0 d).0, (i.0 d).1), λ c. i.1 (c.1, c.2))

  pub run_ends : Ends m ws (length (before (at_start m) ws)) (number_of (stop (at_start m) ws)) (played m (before (at_start m) ws))
  run_ends =
      let l = leaves ws (at_start m) in
      let n = length (before (at_start m) ws) in
      let left : played m (before (at_start m) ws) ≡ played m (take n ws) = ap (played m) (taken ws (at_start m)) in
      record {
        within = leaves_within l;
        executed = λ i k. (passes_both i (next_at i (passed ws (at_start m) i k))).0;
        cleared = λ i k. (passes_both i (next_at i (passed ws (at_start m) i k))).1;
        refused = rw left (leaves_singly l);
        gives_14 = rw left (leaves_14 l);
        whole = leaves_whole l;
        leaves = left;
      }
