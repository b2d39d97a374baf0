-- What comes of a file (document 02, C-20): a capture is run, and written again with ZA as the run left it.
use Rattle.std.specs.Prelude.{◌≡◌, List, ℕ, length, Result, Ok, Err}
use Rattle.isa.specs.declared.Refusal.{Refusal}
use Rattle.machine.specs.declared.Bench.{Bench}
use Rattle.machine.specs.declared.Ended.{Ended}
use Rattle.machine.specs.Machine.{Machine, on}
use Rattle.machine.specs.Lists.{run_of, run_left}
use Rattle.capture.specs.Format.{Capture, capture_of, bytes_of_capture, Holds}
use Rattle.capture.specs.Outcomes.{over, Refuses}
use Rattle.replay.specs.declared.Ran.{Ran}

-- what the run of a capture begins on, how it ends, and the capture with ZA as it is then
abbrev pub machine_of : Capture → Machine
machine_of c = on c.bench c.z c.p c.za

abbrev pub end_of_run : Capture → Ended
end_of_run c = run_of (machine_of c) c.words

abbrev pub after_run : Capture → Capture
after_run c = capture_of c.bench c.words c.z c.p (run_left (machine_of c) c.words).za

-- what is told of a file that was run
abbrev pub ran_on : Bench → ℕ → Ended → ℕ → Ran
ran_on b words ended n = record { bench = b; words = words; ended = ended; length = n }

-- what is answered, and what stands in the room then: nothing new where the file is refused
pub data Replays (file before : List ℕ) (r : Result Ran Refusal) (after : List ℕ) : Type 0 where
  ran : (c : Capture) → Holds file c → r ≡ Ok (ran_on c.bench (length c.words) (end_of_run c) (length file))
      → after ≡ over (bytes_of_capture (after_run c)) before → Replays file before r after
  refused : (q : Refusal) → Refuses file q → r ≡ Err q → after ≡ before → Replays file before r after

-- a run and what write answers of it
abbrev pub told : Bench → ℕ → Ended → Result ℕ Refusal → Result Ran Refusal
told b words ended (Ok n) = Ok (ran_on b words ended n)
told b words ended (Err r) = Err r
