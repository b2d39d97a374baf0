-- What C-20 asks of capture files. Assumes nothing.
use mathlib.Core.Path.{◌≡◌, refl, sym, ap, subst, ◌∙◌}
use mathlib.Core.Bool.{Bool, true, false}
use mathlib.Core.Logic.{◌↔◌}
use mathlib.Core.List.{List, [], ◌∷◌}
use mathlib.Core.Option.{Option, none, some}
use Prim.Native.Nat.{ℕ, ◌≤◌, ◌<◌}
use native.Mathlib.Omega.{arith}
use lib.Dec.{ltb}
use borrow.Author.Tests.{ltb-true, ltb-false}
use lib.ListN.{length, take, drop}
use lib.Seq.{take_at, drop_at}
use Rattle.std.specs.Prelude.{Err, Ok, Result}
use Rattle.isa.specs.Refusals.{missing_in, first_failure, number_in, value_in}
use Rattle.isa.specs.declared.Refusal.{Refusal}
use Rattle.isa.specs.declared.Refusal.TheVariants.{Room, Version, Format}
use Rattle.isa.proofs.Refusals.{failure-++}
use Rattle.storage.specs.Sizes.{z_size, p_size, za_size}
use Rattle.storage.specs.Bytes.{at}
use Rattle.isa.specs.Table.{all_flags}
use Rattle.machine.specs.declared.Bench.{Bench}
use Rattle.machine.specs.Execution.{bench_tests}
use Rattle.machine.specs.Lists.{most_words, list_test}
use Rattle.machine.specs.Claims.{FirstFive}
use Rattle.machine.proofs.Numbers.{number_of, Late, given, first_five, later, start_passes}
use Rattle.capture.specs.Format.{Capture, bytes_of_capture, Legal, Holds, NoCapture}
use Rattle.capture.specs.declared.Contents.{Contents}
use Rattle.capture.specs.Outcomes.{room_test, write_tests, written, filled, over, write_of, room_written, Buffers, Fits, holding, contents_of, OtherVersion, Reads, Refuses, longest, Roomy}
use Rattle.capture.specs.Outcomes.Reads.{contents, another, malformed, too_long}
use Rattle.capture.specs.Outcomes.Refuses.{by_version, by_format}
use Rattle.capture.specs.Claims.{OneCapture, Answers, EveryAnswer, OneOutcome, BenchPasses, Writes, Suffices, WriteThenRead, in_buffers, WrittenAgain, ReadThenWrite}
use Rattle.capture.proofs.Captures.{bounds, length_capture, made, one_capture as one}
use Rattle.capture.proofs.Writing.{write_done, put_over}

pub one_capture : OneCapture
one_capture c d l k e = one c d l k e

-- ---- what a file is decides what read answers and leaves
same_capture : {file : List ℕ} {c d : Capture} → Holds file c → Holds file d → c ≡ d
same_capture {c = c} {d = d} h k = one c d h.lawful k.lawful (sym h.bytes ∙ k.bytes)

not_another : {file : List ℕ} {c : Capture} → Holds file c → OtherVersion file → ⊥
unfolding bytes_of_capture
not_another h o = o.other (ap (λ (l : List ℕ). at l 0) (sym o.is ∙ h.bytes))

module _ {file : List ℕ} {b a : Buffers} {r : Result Contents Refusal} where
  reads_capture : {c : Capture} → Holds file c → Fits c b → Reads file b r a → (r ≡ contents_of c) × (a ≡ holding c b)
  reads_capture {c} h f (contents d k g e l) = let s : d ≡ c = same_capture k h in (e ∙ ap contents_of s, l ∙ ap (λ (x : Capture). holding x b) s)
  reads_capture h f (another o e l) = absurd (not_another h o)
  reads_capture {c} h f (malformed o n e l) = absurd (n.never c h)
  reads_capture h f (too_long d k g e l) = absurd (g (subst (λ (x : Capture). Fits x b) (same_capture h k) f))

  reads_long : {c : Capture} → Holds file c → (Fits c b → ⊥) → Reads file b r a → (r ≡ Err Room) × (a ≡ b)
  reads_long h f (contents d k g e l) = absurd (f (subst (λ (x : Capture). Fits x b) (same_capture k h) g))
  reads_long h f (another o e l) = absurd (not_another h o)
  reads_long {c} h f (malformed o n e l) = absurd (n.never c h)
  reads_long h f (too_long d k g e l) = (e, l)

  reads_another : OtherVersion file → Reads file b r a → (r ≡ Err Version) × (a ≡ b)
  reads_another o (contents d k g e l) = absurd (not_another k o)
  reads_another o (another p e l) = (e, l)
  reads_another o (malformed p n e l) = absurd (p o)
  reads_another o (too_long d k g e l) = absurd (not_another k o)

  reads_malformed : (OtherVersion file → ⊥) → NoCapture file → Reads file b r a → (r ≡ Err Format) × (a ≡ b)
  reads_malformed o n (contents d k g e l) = absurd (n.never d k)
  reads_malformed o n (another p e l) = absurd (o p)
  reads_malformed o n (malformed p m e l) = (e, l)
  reads_malformed o n (too_long d k g e l) = absurd (n.never d k)

pub one_outcome : OneOutcome
one_outcome file b a a' r r' (contents c h f e l) q = let (x, y) = reads_capture h f q in (e ∙ sym x, l ∙ sym y)
one_outcome file b a a' r r' (another o e l) q = let (x, y) = reads_another o q in (e ∙ sym x, l ∙ sym y)
one_outcome file b a a' r r' (malformed o n e l) q = let (x, y) = reads_malformed o n q in (e ∙ sym x, l ∙ sym y)
one_outcome file b a a' r r' (too_long c h f e l) q = let (x, y) = reads_long h f q in (e ∙ sym x, l ∙ sym y)

pub every-answer : EveryAnswer
every-answer file b after r q =
    record {
      gives_0 = (λ e. zero q e, λ t. ap number_in (reads_capture t.1 t.2 q).0);
      gives_15 = (λ e. fifteen q e, λ o. ap number_in (reads_another o q).0);
      gives_16 = (λ e. sixteen q e, λ t. ap number_in (reads_malformed t.0 t.1 q).0);
      gives_12 = (λ e. twelve q e, λ t. ap number_in (reads_long t.1 t.2 q).0);
      refused = λ a p n. untouched p n;
    }
  where
    zero : Reads file b r after → number_in r ≡ 0 → (c : Capture) × Holds file c × Fits c b
    zero (contents c h f e l) n = (c, h, f)
    zero (another o e l) n = absurd (omega (arith, ap number_in e))
    zero (malformed o m e l) n = absurd (omega (arith, ap number_in e))
    zero (too_long c h f e l) n = absurd (omega (arith, ap number_in e))

    fifteen : Reads file b r after → number_in r ≡ 15 → OtherVersion file
    fifteen (contents c h f e l) n = absurd (omega (arith, ap number_in e))
    fifteen (another o e l) n = o
    fifteen (malformed o m e l) n = absurd (omega (arith, ap number_in e))
    fifteen (too_long c h f e l) n = absurd (omega (arith, ap number_in e))

    sixteen : Reads file b r after → number_in r ≡ 16 → (OtherVersion file → ⊥) × NoCapture file
    sixteen (contents c h f e l) n = absurd (omega (arith, ap number_in e))
    sixteen (another o e l) n = absurd (omega (arith, ap number_in e))
    sixteen (malformed o m e l) n = (o, m)
    sixteen (too_long c h f e l) n = absurd (omega (arith, ap number_in e))

    twelve : Reads file b r after → number_in r ≡ 12 → (c : Capture) × Holds file c × (Fits c b → ⊥)
    twelve (contents c h f e l) n = absurd (omega (arith, ap number_in e))
    twelve (another o e l) n = absurd (omega (arith, ap number_in e))
    twelve (malformed o m e l) n = absurd (omega (arith, ap number_in e))
    twelve (too_long c h f e l) n = (c, h, f)

    untouched : {a : Buffers} → Reads file b r a → (number_in r ≡ 0 → ⊥) → a ≡ b
    untouched (contents c h f e l) n = absurd (n (ap number_in e))
    untouched (another o e l) n = l
    untouched (malformed o m e l) n = l
    untouched (too_long c h f e l) n = l

pub answered : {file : List ℕ} {b after : Buffers} {r : Result Contents Refusal} → Reads file b r after
    → record { reads : Reads file b r after; answers : Answers file b r }
answered {file} {b} {after} {r} q = record { reads = q; answers = every-answer file b after r q }

-- ---- writing
module _ (c : Capture) (room : List ℕ) where
  abbrev size : ℕ
  size = length (bytes_of_capture c)

  -- test 6, then 12
  abbrev from_six : Option Refusal
  from_six = first_failure (list_test (length c.words) ∷ room_test c (length room) ∷ [])

  -- tests 1 to 5, then those
  write_is : number_in (write_of c (length room)) ≡ given c.bench (length c.z) (length c.p) (length c.za) from_six
  unfolding write_of
  write_is = number_of_lem (first_failure (write_tests c (length room))) ∙ ap number_of (failure-++ (bench_tests c.bench (length c.z) (length c.p) (length c.za)) (list_test (length c.words) ∷ room_test c (length room) ∷ []))
    where
      number_of_lem : (o : Option Refusal) → number_in (written o size) ≡ number_of o
      number_of_lem none = refl
      number_of_lem (some r) = refl

  -- where they stop, and the number that is given
  data Stops : ℕ → Type 0 where
    too_many : most_words < length c.words → Stops 6
    too_short : length c.words ≤ most_words → length room < size → Stops 12
    fits : length c.words ≤ most_words → size ≤ length room → Stops 0

  stops : Stops (number_of from_six)
  stops = go (ltb most_words (length c.words)) refl (ltb (length room) size) refl
    where
      go : (t : Bool) → ltb most_words (length c.words) ≡ t → (u : Bool) → ltb (length room) size ≡ u → Stops (number_of from_six)
      go true e u f = rw e (too_many (ltb-true _ _ e))
      go false e true f = rw (e, f) (too_short (ltb-false _ _ e) (ltb-true _ _ f))
      go false e false f = rw (e, f) (fits (ltb-false _ _ e) (ltb-false _ _ f))

  late : {n : ℕ} → Stops n → Late n
  late (too_many h) l = omega arith
  late (too_short h k) l = omega arith
  late (fits h k) l = absurd (omega arith)

  is_6 : {n : ℕ} → Stops n → (n ≡ 6) ↔ (most_words < length c.words)
  is_6 (too_many h) = (λ e. h, λ g. refl)
  is_6 (too_short h k) = (λ e. absurd (omega arith), λ g. absurd (omega arith))
  is_6 (fits h k) = (λ e. absurd (omega arith), λ g. absurd (omega arith))

  is_12 : {n : ℕ} → Stops n → (n ≡ 12) ↔ (length c.words ≤ most_words) × (length room < size)
  is_12 (too_many h) = (λ e. absurd (omega arith), λ g. absurd (omega (arith, g.0)))
  is_12 (too_short h k) = (λ e. (h, k), λ g. refl)
  is_12 (fits h k) = (λ e. absurd (omega arith), λ g. absurd (omega (arith, g.1)))

  is_0 : {n : ℕ} → Stops n → (n ≡ 0) ↔ (length c.words ≤ most_words) × (size ≤ length room)
  is_0 (too_many h) = (λ e. absurd (omega arith), λ g. absurd (omega (arith, g.0)))
  is_0 (too_short h k) = (λ e. absurd (omega arith), λ g. absurd (omega (arith, g.1)))
  is_0 (fits h k) = (λ e. (h, k), λ g. refl)

  abbrev Gives : ℕ → Type 0 → Type 0
  Gives n C = (number_in (write_of c (length room)) ≡ n) ↔ BenchPasses c × C

  gives : {n : ℕ} {C : Type 0} → Late n → (number_of from_six ≡ n) ↔ C → Gives n C
  gives {n} {C} l h = subst (λ k. (k ≡ n) ↔ BenchPasses c × C) (sym write_is) (later c.bench (length c.z) (length c.p) (length c.za) from_six l (λ b. h))

  accepts : Gives 0 ((length c.words ≤ most_words) × (size ≤ length room))
  accepts = gives (λ l. omega arith) (is_0 stops)

  written_whole : BenchPasses c → length c.words ≤ most_words → size ≤ length room → (write_of c (length room) ≡ Ok size) × (room_written c room ≡ over (bytes_of_capture c) room)
  written_whole b w h =
      let p = start_passes c.bench (length c.z) (length c.p) (length c.za) (length c.words) b w in
      let (a, e) = write_done c room size p (length_capture c) h in
      (sym a, sym e ∙ put_over (bytes_of_capture c) room h)

  untouched : (number_in (write_of c (length room)) ≡ 0 → ⊥) → room_written c room ≡ room
  unfolding write_of room_written
  untouched h = go (first_failure (write_tests c (length room))) h
    where
      go : (o : Option Refusal) → (number_in (written o size) ≡ 0 → ⊥) → filled o (bytes_of_capture c) room ≡ room
      go none h = absurd (h refl)
      go (some r) h = refl

  pub every_write : Writes c room (number_in (write_of c (length room)))
  every_write =
      record {
        first_five =
            subst (FirstFive c.bench (length c.z) (length c.p) (length c.za)) (sym write_is)
            (first_five c.bench (length c.z) (length c.p) (length c.za) from_six (late stops));
        gives_6 = gives (λ l. omega arith) (is_6 stops);
        gives_12 = gives (λ l. omega arith) (is_12 stops);
        accepts = accepts;
        refused = untouched;
        written = λ e. let (b, w) = accepts.0 e in written_whole b w.0 w.1;
      }

-- ---- room for every capture
pub suffices : (c : Capture) → Legal c → Suffices c
suffices c l =
    let s = bounds _ _ _ _ l.passes in
    record {
      for_contents = λ b r. record {
        words_fit = omega (arith, l.words_most, r.0);
        z_fit = omega (arith, s.z_most, r.1);
        p_fit = omega (arith, s.p_most, r.2);
        za_fit = omega (arith, s.za_most, r.3);
      };
      for_file = omega (arith, length_capture c, l.words_most, s.z_most, s.p_most, s.za_most);
    }

pub written_small : (c : Capture) (room : List ℕ) (n : ℕ) → write_of c (length room) ≡ Ok n → n ≤ longest
written_small c room n e =
    let (b, (w, f)) = (accepts c room).0 (ap number_in e) in
    let s = bounds _ _ _ _ b in
    let l : n ≡ length (bytes_of_capture c) = ap value_in (sym e ∙ (written_whole c room b w f).0) in
    omega (arith, length_capture c, w, s.z_most, s.p_most, s.za_most)

-- ---- there and back
pub write_then_read : WriteThenRead
write_then_read c room n h e =
    let (b, (w, f)) = (accepts c room).0 (ap number_in e) in
    let l : Legal c = record { passes = b; words_most = w; words_fit = h.words_fit; z_fit = h.z_fit; p_fit = h.p_fit; za_fit = h.za_fit } in
    let (a, s) = written_whole c room b w f in
    let m : length (bytes_of_capture c) ≡ n = same (sym a ∙ e) in
    let file : take n (room_written c room) ≡ bytes_of_capture c = rw s (take_at (bytes_of_capture c) (drop (length (bytes_of_capture c)) room) n m) in
    record {
      lawful = l;
      whole = sym m;
      file = file;
      rest = rw s (drop_at (bytes_of_capture c) (drop (length (bytes_of_capture c)) room) n m ∙ rw m);
      back = λ b after r q g. reads_capture (record { lawful = l; bytes = file }) g q;
    }
  where
    same : {m : ℕ} → ◌≡◌ {A = Result ℕ Refusal} (Ok m) (Ok n) → m ≡ n
    same p = cc

written_again : {file : List ℕ} {c : Capture} → Holds file c → WrittenAgain file c
written_again {file} {c} h =
    record {
      holds = h;
      again = λ room g.
          let (x, y) = written_whole c room h.lawful.passes h.lawful.words_most (subst (λ (l : List ℕ). length l ≤ length room) h.bytes g) in
          (x ∙ ap (λ (l : List ℕ). Ok (length l)) (sym h.bytes), y ∙ ap (λ (l : List ℕ). over l room) (sym h.bytes));
    }

-- an answer with contents is of a capture
contents_of_lem : {file : List ℕ} {before after : Buffers} {b : Bench} {n : ℕ} → Reads file before (Ok (record { bench = b; words = n })) after
    → (c : Capture) × Holds file c × (b ≡ c.bench) × (n ≡ length c.words) × (after ≡ holding c before)
contents_of_lem {b = b} {n = n} (contents c h f e l) =
    let s : ◌≡◌ {A = Contents} (record { bench = b; words = n }) (record { bench = c.bench; words = length c.words }) = cc in
    (c, h, ap (λ (x : Contents). x.bench) s, ap (λ (x : Contents). x.words) s, l)
contents_of_lem (another o e l) = let z : ◌≡◌ {A = ℕ} 0 1 = cc in absurd (omega arith)
contents_of_lem (malformed o m e l) = let z : ◌≡◌ {A = ℕ} 0 1 = cc in absurd (omega arith)
contents_of_lem (too_long c h f e l) = let z : ◌≡◌ {A = ℕ} 0 1 = cc in absurd (omega arith)

-- the capture that stands in the buffers then is that of the file
in_buffers_lem : {file : List ℕ} {before after : Buffers} {b : Bench} {n : ℕ} → Reads file before (Ok (record { bench = b; words = n })) after
    → Holds file (in_buffers b n after) × (length (take n after.words) ≡ n)
in_buffers_lem {file} {before} {after} {b} {n} q =
    let (c, h, x, y, l) = contents_of_lem q in
    let s = h.lawful.passes in
    let vb : c.bench.vb ≡ b.vb = ap (λ (v : Bench). v.vb) (sym x) in
    let w : take n after.words ≡ c.words = ap (λ (t : Buffers). take n t.words) l ∙ start c.words before.words n (sym y) in
    let same : c ≡ in_buffers b n after =
    sym
    (made x w
    (ap (λ (t : Buffers). take (z_size b.vb) t.z) l ∙ start c.z before.z (z_size b.vb) (s.z_sized ∙ ap z_size vb))
    (ap (λ (t : Buffers). take (p_size b.vb) t.p) l ∙ start c.p before.p (p_size b.vb) (s.p_sized ∙ ap p_size vb))
    (ap (λ (t : Buffers). take (za_size b.vb) t.za) l ∙ start c.za before.za (za_size b.vb) (s.za_sized ∙ ap za_size vb))) in
    (subst (Holds file) same h, ap length w ∙ sym y)
  where
    start : (t room : List ℕ) (m : ℕ) → length t ≡ m → take m (over t room) ≡ t
    start t room m k = take_at t (drop (length t) room) m k

pub read_then_write : ReadThenWrite
read_then_write file before after b n q = written_again (in_buffers_lem q).0

-- how long the contents are there
pub record There (b : Bench) (n : ℕ) (s : Buffers) : Type 0 where
  pub words : length (take n s.words) ≡ n
  pub z : length (take (z_size b.vb) s.z) ≡ z_size b.vb
  pub p : length (take (p_size b.vb) s.p) ≡ p_size b.vb
  pub za : length (take (za_size b.vb) s.za) ≡ za_size b.vb
  pub vb_most : b.vb ≤ 256

pub contents_there : {file : List ℕ} {before after : Buffers} {a : Result Contents Refusal} {c : Contents} → Reads file before a after → a ≡ Ok c
    → There c.bench c.words after
contents_there {file} {before} {after} q e =
    let (h, w) = in_buffers_lem (subst (λ (r : Result Contents Refusal). Reads file before r after) e q) in
    let s = h.lawful.passes in
    record { words = w; z = s.z_sized; p = s.p_sized; za = s.za_sized; vb_most = (bounds _ _ _ _ s).vb_most }

-- where there is room for every capture, only 15 and 16 are left
pub refused_roomy : {file : List ℕ} {before after : Buffers} {a : Result Contents Refusal} {r : Refusal} → Roomy before → Reads file before a after → a ≡ Err r → Refuses file r
refused_roomy {file} {before} {after} {r = r} w q i = go (subst (λ (a : Result Contents Refusal). Reads file before a after) i q)
  where
    go : Reads file before (Err r) after → Refuses file r
    go (contents c h f e l) = let z : ◌≡◌ {A = ℕ} 0 1 = cc in absurd (omega arith)
    go (another o e l) = let x : Version ≡ r = cc in subst (Refuses file) x (by_version o)
    go (malformed o n e l) = let x : Format ≡ r = cc in subst (Refuses file) x (by_format o n)
    go (too_long c h f e l) = absurd (f ((suffices c h.lawful).for_contents before w))

-- no refusal of a read hands anything back
pub refused_plain : {file : List ℕ} {before after : Buffers} {r : Refusal} → Reads file before (Err r) after → missing_in r ≡ 0
refused_plain (contents c h f e l) = let z : ◌≡◌ {A = ℕ} 0 1 = cc in absurd (omega arith)
refused_plain {r = r} (another o e l) = let x : r ≡ Version = cc in rw x
refused_plain {r = r} (malformed o m e l) = let x : r ≡ Format = cc in rw x
refused_plain {r = r} (too_long c h f e l) = let x : r ≡ Room = cc in rw x

-- what was read is small
pub contents_small : {file : List ℕ} {before after : Buffers} {b : Bench} {n : ℕ} → Reads file before (Ok (record { bench = b; words = n })) after
    → (b.flags ≤ all_flags) × (b.vb ≤ 256) × (n ≤ most_words)
contents_small q =
    let (c, h, x, y, l) = contents_of_lem q in
    let s = h.lawful.passes in
    (rw x s.flags, rw x (bounds _ _ _ _ s).vb_most, rw y h.lawful.words_most)
