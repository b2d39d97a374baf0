-- What the functions on capture files answer (document 02, C-20).
use Rattle.std.specs.Prelude.{◌≡◌, List, ℕ, ◌+◌, ◌*◌, Err, Ok, Result}
use Rattle.std.proofs.Math.Option.{none, some}
use Rattle.isa.specs.declared.Refusal.{Refusal}
use Rattle.machine.specs.declared.Bench.{Bench}
use Rattle.capture.specs.declared.Contents.{Contents}
use Rattle.capture.specs.Format.{Capture, modes}
use Rattle.capture.specs.Outcomes.{write_of, Buffers, Reads}
use Rattle.birdaghol.specs.Calls.{answer, packed_result}

-- ---- write: the length
abbrev pub capture_write_call : Capture → ℕ → ℕ
capture_write_call c room = packed_result (write_of c room)

-- ---- read: words · 65,536 + VB · 64 + modes · 16 + flags
abbrev pub contents_number : Bench → ℕ → ℕ
contents_number b words = words * 65536 + b.vb * 64 + modes b.sm b.za * 16 + b.flags

abbrev pub packed_contents : Result Contents Refusal → ℕ
packed_contents (Ok c) = answer (contents_number c.bench c.words) none
packed_contents (Err r) = answer 0 (some r)

-- read's outcome, packed
pub record CaptureReads (file : List ℕ) (before : Buffers) (n : ℕ) (after : Buffers) : Type 0 where
  pub reading : Result Contents Refusal
  pub reads : Reads file before reading after
  pub is : n ≡ packed_contents reading
