-- Lists of words: a run, which stops at the first refused word, and a play, which goes on (document 01, "Refusal numbers", and
-- document 02, C-16 and C-17).
use Rattle.std.specs.Prelude.{Bool, false, ◌||◌, ℕ, ltb, length}
use mathlib.Core.List.{List, [], ◌∷◌, ◌++◌, foldl}
use Rattle.std.proofs.Math.Option.{Option, none, some}
use Rattle.isa.specs.Refusals.{Test, first_failure, or_else}
use Rattle.isa.specs.Answers.{describe}
use Rattle.isa.specs.declared.Refusal.{Refusal}
use Rattle.isa.specs.declared.Refusal.TheVariants.{ListLength}
use Rattle.machine.specs.declared.Bench.{Bench}
use Rattle.machine.specs.declared.Ended.{Ended}
use Rattle.machine.specs.Machine.{Machine}
use Rattle.machine.specs.Execution.{bench_tests, word_tests, after, outcome}
use Rattle.machine.specs.Clearing.{clears_row, cleared_test}

-- every word in turn, each on what the last one left
unfoldable pub played : Machine → List ℕ → Machine
played m ws = foldl after m ws

-- the most words that a run takes (document 02, C-16)
abbrev pub most_words : ℕ
most_words = 65536

abbrev pub list_test : ℕ → Test
list_test words = record { fails = ltb most_words words; gives = ListLength }

-- tests 1 to 6, of a bench, the lengths of Z, P and ZA and the number of words
abbrev pub start_tests : Bench → ℕ → ℕ → ℕ → ℕ → List Test
start_tests b z p za words = bench_tests b z p za ++ (list_test words ∷ [])

-- a run makes them once
abbrev pub run_tests : Machine → List ℕ → List Test
run_tests m ws = start_tests m.bench (length m.z) (length m.p) (length m.za) (length ws)

-- ---- a run, part of the way: what its words have left so far, and the rows of ZA that they have cleared
pub record Progress : Type 0 where
  pub machine : Machine
  pub cleared : ℕ → Bool

-- before the first word no row is cleared, whatever ZA holds
abbrev pub at_start : Machine → Progress
at_start m = record { machine = m; cleared = λ r. false }

-- a word executed
abbrev pub onward : Progress → ℕ → Progress
onward s w = record { machine = after s.machine w; cleared = λ r. s.cleared r || clears_row w r }

-- tests 7 to 10, then 14, of the next word
abbrev pub next_tests : Bench → (ℕ → Bool) → ℕ → List Test
next_tests b cleared w = word_tests b w ++ (cleared_test b.vb cleared (describe w) ∷ [])

abbrev pub next_refusal : Progress → ℕ → Option Refusal
next_refusal s w = first_failure (next_tests s.machine.bench s.cleared w)

-- how many words were executed, and the refusal that came next
abbrev pub ended : ℕ → Option Refusal → Ended
ended n o = record { count = n; outcome = outcome o }

-- the words before the first that is refused, each tested on what the words before it left and cleared
abbrev pub keep : Option Refusal → ℕ → List ℕ → List ℕ
keep none w ws = w ∷ ws
keep (some r) w ws = []

unfoldable pub before : Progress → List ℕ → List ℕ
before s [] = []
before s (w ∷ ws) = keep (next_refusal s w) w (before (onward s w) ws)

-- the refusal of the word that comes after those, if one does
unfoldable pub stop : Progress → List ℕ → Option Refusal
stop s [] = none
stop s (w ∷ ws) = or_else (next_refusal s w) (stop (onward s w) ws)

-- where a list ends: how many words are before, and the refusal; and what those words leave, executed singly, in turn
abbrev pub end_of : Progress → List ℕ → Ended
end_of s ws = ended (length (before s ws)) (stop s ws)

abbrev pub left_at_end : Progress → List ℕ → Machine
left_at_end s ws = played s.machine (before s ws)

-- the words that a run executes, and the refusal that ends it: tests 1 to 6 first
abbrev pub ran_words : Option Refusal → Machine → List ℕ → List ℕ
ran_words none m ws = before (at_start m) ws
ran_words (some r) m ws = []

unfoldable pub ran : Machine → List ℕ → List ℕ
ran m ws = ran_words (first_failure (run_tests m ws)) m ws

unfoldable pub run_of : Machine → List ℕ → Ended
run_of m ws = ended (length (ran m ws)) (or_else (first_failure (run_tests m ws)) (stop (at_start m) ws))

-- what executing those words singly, in turn, leaves
unfoldable pub run_left : Machine → List ℕ → Machine
run_left m ws = played m (ran m ws)
