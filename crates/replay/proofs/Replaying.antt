-- What comes of a file, by what was read from it. Assumes nothing.
use mathlib.Core.Path.{◌≡◌, sym, ap, ap₂, subst, ◌∙◌}
use mathlib.Core.List.{List}
use Prim.Native.Nat.{ℕ, ◌≤◌, ◌<◌}
use native.Mathlib.Omega.{arith}
use lib.ListN.{length}
use Rattle.capture.specs.declared.Contents.{Contents}
use Rattle.storage.proofs.Sizes.{legal-length}
use Rattle.machine.specs.declared.Bench.{Bench}
use Rattle.machine.specs.declared.Ended.{Ended}
use Rattle.machine.specs.Machine.{on}
use Rattle.machine.specs.Lists.{run_of, run_left}
use Rattle.machine.specs.Claims.{Passes}
use Rattle.machine.proofs.Theorems.{run_keeps}
use Rattle.capture.specs.Format.{Capture, capture_of, bytes_of_capture, Holds}
use Rattle.capture.specs.Outcomes.{write_of, room_written, Buffers, Reads, longest}
use Rattle.capture.specs.Claims.{in_buffers}
use Rattle.capture.proofs.Captures.{length_capture}
use Rattle.capture.proofs.Theorems.{every_write, suffices, read_then_write}
use Rattle.replay.specs.Replays.{machine_of, end_of_run, after_run, Replays, told}
use Rattle.replay.specs.Replays.Replays.{ran, refused}
use Rattle.isa.specs.declared.Refusal.{Refusal}
use Rattle.std.specs.Prelude.{Result, Ok}
use Rattle.replay.specs.declared.Ran.{Ran}

-- a run keeps every size, so that what it leaves is written as what was read would be
module _ (file : List ℕ) (c : Capture) (h : Holds file c) where
  same-za : length (after_run c).za ≡ length c.za
  same-za = (run_keeps (machine_of c) c.words).za_length

  passes : Passes c.bench (length c.z) (length c.p) (length (after_run c).za)
  passes = subst (λ n. Passes c.bench (length c.z) (length c.p) n) (sym same-za) h.lawful.passes

  same_length : length (bytes_of_capture (after_run c)) ≡ length file
  same_length = let e = ap length h.bytes in omega (arith, length_capture (after_run c), length_capture c, same-za)

  written : (r : Result Ran Refusal) (room next : List ℕ) → longest ≤ length room
      → r ≡ told c.bench (length c.words) (end_of_run c) (write_of (after_run c) (length room)) → next ≡ room_written (after_run c) room → Replays file room r next
  written r room next l e f =
      let fits : length (bytes_of_capture (after_run c)) ≤ length room = omega (arith, same_length, ap length h.bytes, (suffices c h.lawful).for_file) in
      let w = every_write (after_run c) room in
      let (a, b) = w.written (w.accepts.1 (passes, (h.lawful.words_most, fits))) in
      ran c h
      (e ∙ ap (λ (a : Result ℕ Refusal). told c.bench (length c.words) (end_of_run c) a) a ∙ rw same_length)
      (f ∙ b)

pub replay_ran : {file : List ℕ} {before after : Buffers} {a : Result Contents Refusal} {k : Contents} → Reads file before a after → a ≡ Ok k
    → (r : Result Ran Refusal) (room next : List ℕ) → longest ≤ length room
    → (let c = in_buffers k.bench k.words after in r ≡ told k.bench (length c.words) (end_of_run c) (write_of (after_run c) (length room)))
    → next ≡ room_written (after_run (in_buffers k.bench k.words after)) room → Replays file room r next
replay_ran {file} {before} {after} {k = k} q e =
    written file (in_buffers k.bench k.words after)
    (read_then_write file before after k.bench k.words (subst (λ (a : Result Contents Refusal). Reads file before a after) e q)).holds

-- a run, and what it left written, by what both functions answered
module _ (b : Bench) (ws z p za : List ℕ) where
  pub run_told : (left room : List ℕ) {next : List ℕ} {e : Ended} {a : Result ℕ Refusal} → left ≡ (run_left (on b z p za) ws).za → e ≡ run_of (on b z p za) ws
      → a ≡ write_of (capture_of b ws z p left) (length room) → next ≡ room_written (capture_of b ws z p left) room
      → (let c = capture_of b ws z p (run_left (on b z p za) ws).za in
      record {
        answer : told b (length ws) e a ≡ told b (length ws) (run_of (on b z p za) ws) (write_of c (length room));
        room_after : next ≡ room_written c room;
      })
  run_told left room l e a n = record {
    answer = ap₂ (λ (e : Ended) (a : Result ℕ Refusal). told b (length ws) e a) e (a ∙ ap (λ (za : List ℕ). write_of (capture_of b ws z p za) (length room)) l);
    room_after = n ∙ ap (λ (za : List ℕ). room_written (capture_of b ws z p za) room) l;
  }

-- what was run has a vector length
pub ran-length : {file room next : List ℕ} {r : Result Ran Refusal} {a : Ran} → Replays file room r next → r ≡ Ok a → (0 < a.bench.vb) × (a.bench.vb ≤ 256)
ran-length {a = a} (ran c h f g) q =
    let x : a.bench ≡ c.bench = cc in
    let l = legal-length c.bench.vb h.lawful.passes.length_legal in
    let y : a.bench.vb ≡ c.bench.vb = ap (λ (v : Bench). v.vb) x in
    (omega (arith, l.least), omega (arith, l.most))
ran-length (refused o f g h) q = let z : ◌≡◌ {A = ℕ} 0 1 = cc in absurd (omega arith)
