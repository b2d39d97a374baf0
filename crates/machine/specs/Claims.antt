-- What documents 01 and 02 ask of one executed word and of a run, in their numbers; proofs/Theorems.antt proves it for every
-- input.
use Rattle.std.specs.Prelude.{◌≡◌, true, false, ◌↔◌, List, [], ◌∷◌, ℕ, ◌/◌, ◌≤◌, ◌<◌, length, get_or, take}
use Rattle.std.proofs.Math.Option.{Option}
use Rattle.isa.specs.Refusals.{missing_beside, number_in}
use Rattle.isa.specs.Table.{all_flags}
use Rattle.isa.specs.Answers.{describe, decode_number}
use Rattle.isa.specs.Claims.{HandsBack}
use Rattle.isa.specs.declared.Refusal.{Refusal}
use Rattle.storage.specs.Sizes.{legal, z_size, p_size, za_size}
use Rattle.storage.specs.Bytes.{at}
use Rattle.storage.specs.Tile.{in_tile, masked}
use Rattle.machine.specs.declared.Bench.{Bench}
use Rattle.machine.specs.Machine.{Machine}
use Rattle.machine.specs.Instructions.{is_outer, modes_of, names_tile}
use Rattle.machine.specs.Execution.{refusal_of, effect, after, outcome}
use Rattle.machine.specs.Clearing.{cleared_by}
use Rattle.machine.specs.Lists.{played, most_words, ran, run_of, run_left}

-- ---- the numbers, and the sums beside them
abbrev pub execute_number : Machine → ℕ → ℕ
execute_number m w = number_in (outcome (refusal_of m w))

abbrev pub execute_missing : Machine → ℕ → ℕ
execute_missing m w = missing_beside (outcome (refusal_of m w))

abbrev pub run_number : Machine → List ℕ → ℕ
run_number m ws = number_in (run_of m ws).outcome

abbrev pub run_missing : Machine → List ℕ → ℕ
run_missing m ws = missing_beside (run_of m ws).outcome

abbrev pub run_count : Machine → List ℕ → ℕ
run_count m ws = (run_of m ws).count

-- each word's whole answer, in the order of the list, as the list is played
unfoldable pub answers : Machine → List ℕ → List (Option Refusal)
answers m [] = []
answers m (w ∷ ws) = refusal_of m w ∷ answers (after m w) ws

-- ---- the bench and the lengths of Z, P and ZA
module _ (b : Bench) (z p za : ℕ) where
  -- they pass 1 to 5
  pub record Passes : Type 0 where
    pub flags : b.flags ≤ all_flags
    pub length_legal : legal b.vb ≡ true
    pub z_sized : z ≡ z_size b.vb
    pub p_sized : p ≡ p_size b.vb
    pub za_sized : za ≡ za_size b.vb

  -- a number is 1 to 5 exactly where the paper gives it
  pub record FirstFive (number : ℕ) : Type 0 where
    pub gives_1 : (number ≡ 1) ↔ (all_flags < b.flags)
    pub gives_2 : (number ≡ 2) ↔ (b.flags ≤ all_flags) × (legal b.vb ≡ false)
    pub gives_3 : (number ≡ 3) ↔ (b.flags ≤ all_flags) × (legal b.vb ≡ true) × (z ≡ z_size b.vb → ⊥)
    pub gives_4 : (number ≡ 4) ↔ (b.flags ≤ all_flags) × (legal b.vb ≡ true) × (z ≡ z_size b.vb) × (p ≡ p_size b.vb → ⊥)
    pub gives_5 : (number ≡ 5) ↔ (b.flags ≤ all_flags) × (legal b.vb ≡ true) × (z ≡ z_size b.vb) × (p ≡ p_size b.vb) × (za ≡ za_size b.vb → ⊥)

-- ---- what no word changes: the bench, Z, P and the length of ZA; a word's answer depends on nothing else
pub record Keeps (m m' : Machine) : Type 0 where
  pub bench : m'.bench ≡ m.bench
  pub z : m'.z ≡ m.z
  pub p : m'.p ≡ m.p
  pub za_length : length m'.za ≡ length m.za

-- ---- one word: what it gets, and what it leaves
module _ (m : Machine) where
  abbrev pub BenchPasses : Type 0
  BenchPasses = Passes m.bench (length m.z) (length m.p) (length m.za)

  abbrev pub FirstFiveOn : ℕ → Type 0
  FirstFiveOn number = FirstFive m.bench (length m.z) (length m.p) (length m.za) number

  -- a mode is on where the word needs it
  abbrev pub StreamingFits : ℕ → Type 0
  StreamingFits w = (modes_of (describe w)).streaming ≡ true → m.bench.sm ≡ true

  abbrev pub ZaFits : ℕ → Type 0
  ZaFits w = (modes_of (describe w)).za ≡ true → m.bench.za ≡ true

  -- tests 1 to 5, 7 and 8 pass: decode accepts the word
  abbrev pub ThroughEight : ℕ → Type 0
  ThroughEight w = BenchPasses × (decode_number m.bench.flags w ≡ 0)

  pub record Executes (w : ℕ) : Type 0 where
    pub first_five : FirstFiveOn (execute_number m w)
    pub gives_7 : (execute_number m w ≡ 7) ↔ BenchPasses × (decode_number m.bench.flags w ≡ 7)
    pub gives_8 : (execute_number m w ≡ 8) ↔ BenchPasses × (decode_number m.bench.flags w ≡ 8)
    pub hands_back : HandsBack m.bench.flags w (execute_number m w) (execute_missing m w)
    pub gives_9 : (execute_number m w ≡ 9) ↔ ThroughEight w × ((modes_of (describe w)).streaming ≡ true) × (m.bench.sm ≡ false)
    pub gives_10 : (execute_number m w ≡ 10) ↔ ThroughEight w × StreamingFits w × ((modes_of (describe w)).za ≡ true) × (m.bench.za ≡ false)
    pub accepts : (execute_number m w ≡ 0) ↔ ThroughEight w × StreamingFits w × ZaFits w
    pub refused : (execute_number m w ≡ 0 → ⊥) → after m w ≡ m
    pub executed : execute_number m w ≡ 0 → after m w ≡ effect m (describe w)

  -- document 01's own wording of 9, 10 and 0: outer products need streaming mode, and every word needs ZA
  abbrev pub OuterFits : ℕ → Type 0
  OuterFits w = is_outer (describe w) ≡ true → m.bench.sm ≡ true

  pub record NeedsModes (w : ℕ) : Type 0 where
    pub gives_9 : (execute_number m w ≡ 9) ↔ ThroughEight w × (is_outer (describe w) ≡ true) × (m.bench.sm ≡ false)
    pub gives_10 : (execute_number m w ≡ 10) ↔ ThroughEight w × OuterFits w × (m.bench.za ≡ false)
    pub accepts : (execute_number m w ≡ 0) ↔ ThroughEight w × OuterFits w × (m.bench.za ≡ true)

  -- ZERO's mask bit i clears the rows of 64-bit tile i; every other byte stays
  pub record Clears (w mask : ℕ) : Type 0 where
    pub in_mask : (q : ℕ) → q < length m.za → masked mask (q / m.bench.vb) ≡ true → at (after m w).za q ≡ 0
    pub beside : (q : ℕ) → q < length m.za → masked mask (q / m.bench.vb) ≡ false → at (after m w).za q ≡ at m.za q

-- ---- a run
-- a row, of ZA's vb rows, of a tile that word w names, which no ZERO among these words cleared
pub record Uncleared (vb : ℕ) (executed : List ℕ) (w : ℕ) : Type 0 where
  pub E : ℕ
  pub tile : ℕ
  pub row : ℕ
  pub names : names_tile E tile (describe w) ≡ true
  pub within : row < vb
  pub of_tile : in_tile E tile row ≡ true
  pub not_cleared : cleared_by executed row ≡ false

module _ (m : Machine) (ws : List ℕ) where
  -- word i names a tile that the words before it have not cleared
  abbrev pub UnclearedAt : ℕ → Type 0
  UnclearedAt i = Uncleared m.bench.vb (take i ws) (get_or ws i 0)

  -- tests 1 to 6 let it begin: so many words are executed, and the number is that of the word after them
  pub record Ends (count number : ℕ) (left : Machine) : Type 0 where
    pub within : count ≤ length ws
    -- each of them passes 7 to 10 singly, on what the words before it left, and 14 by what they cleared
    pub executed : (i : ℕ) → i < count → execute_number (played m (take i ws)) (get_or ws i 0) ≡ 0
    pub cleared : (i : ℕ) → i < count → UnclearedAt i → ⊥
    -- the word after them gets the number that it gets singly, and 14 where that is 0 and its tile is not cleared
    pub refused : count < length ws → (number ≡ 14 → ⊥) → execute_number left (get_or ws count 0) ≡ number
    pub gives_14 : (number ≡ 14) ↔ (count < length ws) × (execute_number left (get_or ws count 0) ≡ 0) × UnclearedAt count
    -- no word is refused exactly where all are executed
    pub whole : (number ≡ 0) ↔ (count ≡ length ws)
    pub leaves : left ≡ played m (take count ws)

  pub record Runs : Type 0 where
    pub first_five : FirstFiveOn m (run_number m ws)
    pub gives_6 : (run_number m ws ≡ 6) ↔ BenchPasses m × (most_words < length ws)
    -- 8 comes with the sum of the word that is refused, the one after those executed
    pub hands_back : HandsBack m.bench.flags (get_or ws (run_count m ws) 0) (run_number m ws) (run_missing m ws)
    pub not_begun : 0 < run_number m ws → run_number m ws ≤ 6 → (run_count m ws ≡ 0) × (run_left m ws ≡ m)
    pub most : run_count m ws ≤ most_words
    -- the words that it executes are so many from the first on
    pub words : ran m ws ≡ take (run_count m ws) ws
    pub begun : BenchPasses m → length ws ≤ most_words → Ends (run_count m ws) (run_number m ws) (run_left m ws)
