-- Demand 3: lists of words whose accepted ones are outer products (document 01, "The lists of demand 3").
use Rattle.std.specs.Prelude.{◌≡◌, true, false, not, cond, ◌&&◌, ℕ, ◌/◌, ◌%◌, ◌^◌, ◌<◌, ℤ, pos, ◌+ℤ◌, length}
use mathlib.Core.List.{List, [], ◌∷◌, map, reverse, Permᴰ, Mem}
use Rattle.std.proofs.Math.Option.{Option, none, some}
use Rattle.isa.specs.Answers.{describe}
use Rattle.isa.specs.declared.Operation.{Operation}
use Rattle.isa.specs.declared.Instruction.{Instruction}
use Rattle.isa.specs.declared.Instruction.TheVariants.{Predicated, Quarter, Zero}
use Rattle.storage.specs.Bytes.{at}
use Rattle.storage.specs.Modulo.{plus}
use Rattle.storage.specs.Tile.{in_tile, element, masked}
use Rattle.machine.specs.Machine.{Machine, with_za}
use Rattle.machine.specs.Instructions.{is_outer, names_tile}
use Rattle.machine.specs.Execution.{refusal_of, accepted, Addition, addition_of}
use Rattle.machine.specs.Lists.{played}
use Rattle.machine.specs.Claims.{answers}
use Rattle.machine.specs.Exchange.{exchanged}

-- ---- add and subtract exchanged

abbrev pub other_direction : Operation → Operation
other_direction op = record { wide = op.wide; two_way = op.two_way; u0 = op.u0; u1 = op.u1; subtract = not op.subtract }

-- an instruction with add and subtract exchanged; ZERO has neither
abbrev pub reversed : Option Instruction → Option Instruction
reversed none = none
reversed (some (Predicated p)) =
    some (Predicated (record { op = other_direction p.op; tile = p.tile; pn = p.pn; pm = p.pm; zn = p.zn; zm = p.zm }))
reversed (some (Quarter q)) = some (Quarter (record { op = other_direction q.op; tile = q.tile; first = q.first; second = q.second }))
reversed (some (Zero m)) = some (Zero m)

-- ---- tiles named and totals

-- what comes to (row, col): the products by the pseudocode, subtracted ones negative
abbrev pub sum_at : ℕ → ℕ → Option Addition → ℤ
sum_at row col none = pos 0
sum_at row col (some a) = a.sum row col

module _ (m : Machine) where
  -- the total at (row, col) of tile t: of each accepted word of that tile, as often as it stands in the list
  abbrev pub total : ℕ → ℕ → ℕ → ℕ → List ℕ → ℤ
  total E t row col [] = pos 0
  total E t row col (w ∷ ws) =
      cond (accepted m w && names_tile E t (describe w)) (sum_at row col (addition_of m (describe w))) (pos 0) +ℤ total E t row col ws

  -- an accepted word of the list names tile t of elements of E bytes
  pub record Names (ws : List ℕ) (E t : ℕ) : Type 0 where
    pub word : ℕ
    pub listed : Mem word ws
    pub accepts : accepted m word ≡ true
    pub names : names_tile E t (describe word) ≡ true

  -- no 32-bit tile named shares rows with a 64-bit tile named
  abbrev pub Apart : List ℕ → Type 0
  Apart ws = (t u : ℕ) → Names ws 4 t → Names ws 8 u → u % 4 ≡ t → ⊥

  -- no named tile has row r of ZA
  abbrev pub Unnamed : List ℕ → ℕ → Type 0
  Unnamed ws r = (E t : ℕ) → Names ws E t → in_tile E t r ≡ false

  -- ---- the hypotheses: ZA is bytes, the words have 32 bits, and the accepted ones are outer products
  pub record Asked (ws : List ℕ) : Type 0 where
    pub bytes : (q : ℕ) → at m.za q < 256
    pub words : (w : ℕ) → Mem w ws → w < 2 ^ 32
    pub outer : (w : ℕ) → Mem w ws → accepted m w ≡ true → is_outer (describe w) ≡ true

  -- ---- the claim, about the whole list
  pub record Demand3 (ws : List ℕ) : Type 0 where
    -- a refused word stays as it is; a word exchanged gets the answer of the word, and differs in S alone
    pub refused_stays : (w : ℕ) → Mem w ws → accepted m w ≡ false → exchanged m w ≡ w
    pub exchanged_answer : (w : ℕ) → Mem w ws → refusal_of m (exchanged m w) ≡ refusal_of m w
    pub exchanged_is : (w : ℕ) → Mem w ws → accepted m w ≡ true → describe (exchanged m w) ≡ reversed (describe w)
    -- in every order each word of the list gets its own answer
    pub answers_in_order : (os : List ℕ) → Permᴰ ws os → answers m os ≡ map (refusal_of m) os
    -- forward, then in reverse order with add and subtract exchanged
    pub back : played (played m ws) (reverse (map (exchanged m) ws)) ≡ m
    -- on the way back the answers of the way forward, in reverse
    pub answers_back : answers (played m ws) (reverse (map (exchanged m) ws)) ≡ reverse (answers m ws)
    -- every other order
    pub order : Apart ws → (os : List ℕ) → Permᴰ ws os → played m ws ≡ played m os
    -- each element of a named tile, and every byte in none
    pub sums : Apart ws → (E t row col : ℕ) → Names ws E t → row < m.bench.vb / E → col < m.bench.vb / E
        → element E m.bench.vb t (played m ws).za row col ≡ plus E (element E m.bench.vb t m.za row col) (total E t row col ws)
    pub stays : (q : ℕ) → q < length m.za → Unnamed ws (q / m.bench.vb) → at (played m ws).za q ≡ at m.za q
    -- an accepted ZERO first: every row that it clears ends the same whatever ZA held
    pub zero_first : (w₀ mask : ℕ) (zb : List ℕ) → accepted m w₀ ≡ true → describe w₀ ≡ some (Zero mask) → length zb ≡ length m.za → ((q : ℕ) → at zb q < 256)
        → (q : ℕ) → q < length m.za → masked mask (q / m.bench.vb) ≡ true
        → at (played m (w₀ ∷ ws)).za q ≡ at (played (with_za m zb) (w₀ ∷ ws)).za q
