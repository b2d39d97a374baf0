-- When the order of two accepted outer products matters (document 02, C-23); proofs/Theorems.antt proves it for every pair of
-- words, on every machine that accepts them.
use Rattle.std.specs.Prelude.{◌≡◌, true, false, ◌⊎◌, ◌↔◌, ℕ, ◌<◌, length}
use mathlib.Core.List.{List, Mem, Permᴰ}
use Rattle.std.proofs.Math.Option.{some}
use Rattle.isa.specs.Answers.{describe, decode_number}
use Rattle.storage.specs.Bytes.{at}
use Rattle.storage.specs.Sizes.{legal, z_size, p_size, za_size}
use Rattle.machine.specs.Machine.{Machine}
use Rattle.machine.specs.Instructions.{is_outer, TileName, tile_named}
use Rattle.machine.specs.Execution.{accepted}
use Rattle.machine.specs.Lists.{played}
use Rattle.machine.specs.Demand3.{Asked}
use Rattle.pairs.specs.Order.{in_turn, has_row, order_matters, telling, modes_on}

abbrev pub Bytes : List ℕ → Type 0
Bytes l = (q : ℕ) → at l q < 256

-- ---- the hypotheses

-- two outer products, and the tiles that they name
pub record Outers (a b : ℕ) (n k : TileName) : Type 0 where
  pub outer : (is_outer (describe a) ≡ true) × (is_outer (describe b) ≡ true)
  pub names : (tile_named (describe a) ≡ some n) × (tile_named (describe b) ≡ some k)

-- both are accepted, as in demand 3
abbrev pub BothAccepted : Machine → ℕ → ℕ → Type 0
BothAccepted m a b = (accepted m a ≡ true) × (accepted m b ≡ true)

-- two tiles share a row of ZA, which has vb
pub record SharedRow (vb : ℕ) (n k : TileName) : Type 0 where
  pub row : ℕ
  pub within : row < vb
  pub of_first : has_row n row ≡ true
  pub of_second : has_row k row ≡ true

-- their elements have as many bytes
abbrev pub SameWidth : TileName → TileName → Type 0
SameWidth n k = n.E ≡ k.E

-- ---- the claim

-- on m, whose contents have the sizes that its length asks for and are bytes, both words are accepted, and ZA does not end the same
pub record TellsApart (m : Machine) (a b : ℕ) : Type 0 where
  pub z_sized : length m.z ≡ z_size m.bench.vb
  pub p_sized : length m.p ≡ p_size m.bench.vb
  pub za_sized : length m.za ≡ za_size m.bench.vb
  pub bytes : Bytes m.z × Bytes m.p × Bytes m.za
  pub both : BothAccepted m a b
  pub differ : (in_turn m a b).za ≡ (in_turn m b a).za → ⊥

pub record WhenOrderMatters (m : Machine) (a b : ℕ) (n k : TileName) : Type 0 where
  -- it doesn't: whatever Z, P and ZA hold
  pub never : (SharedRow m.bench.vb n k → ⊥) ⊎ SameWidth n k → Bytes m.za → in_turn m a b ≡ in_turn m b a
  -- it does: on the contents that the two words and the bench give
  pub somewhere : SharedRow m.bench.vb n k → (SameWidth n k → ⊥) → TellsApart (telling m.bench a b) a b

-- ---- the function that decides it

-- decode accepts both, they are outer products, and their tiles share rows and differ in width
pub record Clashing (flags vb a b : ℕ) : Type 0 where
  pub accepts : (decode_number flags a ≡ 0) × (decode_number flags b ≡ 0)
  pub n : TileName
  pub k : TileName
  pub outers : Outers a b n k
  pub shared : SharedRow vb n k
  pub widths : SameWidth n k → ⊥

pub record Decides (flags a b : ℕ) : Type 0 where
  pub exactly : (vb : ℕ) → legal vb ≡ true → (order_matters flags a b ≡ true) ↔ Clashing flags vb a b
  pub either_way : order_matters flags b a ≡ order_matters flags a b
  -- so it says at every length whether there are contents that tell the two orders apart, once both modes are on
  pub told : order_matters flags a b ≡ true → (vb : ℕ) → legal vb ≡ true → TellsApart (telling (modes_on flags vb) a b) a b
  pub settled : order_matters flags a b ≡ false → (m : Machine) → m.bench.flags ≡ flags → BothAccepted m a b → Bytes m.za
      → (n k : TileName) → Outers a b n k → in_turn m a b ≡ in_turn m b a

-- a list of outer products and refused words in which no two words clash gives the same ZA in every order
abbrev pub NoneClash : ℕ → List ℕ → Type 0
NoneClash flags ws = (v w : ℕ) → Mem v ws → Mem w ws → order_matters flags v w ≡ false

abbrev pub AnyOrder : Machine → List ℕ → Type 0
AnyOrder m ws = Asked m ws → NoneClash m.bench.flags ws → (os : List ℕ) → Permᴰ ws os → played m ws ≡ played m os
