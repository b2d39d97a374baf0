-- One word: which refusal it gets, and what it leaves (document 01, "Execution" and "Refusal numbers", and document 02, C-15).
use Rattle.std.specs.Prelude.{Bool, true, false, not, ◌&&◌, List, [], ◌∷◌, ◌++◌, ℕ, eqb, ℤ, length, Err, Ok, Result}
use Rattle.std.proofs.Math.Option.{Option, none, some}
use Rattle.isa.specs.Refusals.{Test, first_failure}
use Rattle.isa.specs.Answers.{describe, flags_test, listing_tests}
use Rattle.isa.specs.declared.Refusal.{Refusal}
use Rattle.isa.specs.declared.Refusal.TheVariants.{VectorLength, ZLength, PLength, ZaLength, StreamingOff, ZaOff}
use Rattle.isa.specs.declared.Instruction.{Instruction}
use Rattle.storage.specs.Sizes.{legal, z_size, p_size, za_size}
use Rattle.storage.specs.Tile.{add_to, clear}
use Rattle.machine.specs.Machine.{Machine, with_za}
use Rattle.outer.specs.declared.OuterProduct.{OuterProduct}
use Rattle.outer.specs.Products.{sums}
use Rattle.machine.specs.Instructions.{outer_of, mask_of, modes_of}
use Rattle.machine.specs.declared.Bench.{Bench}
use Rattle.machine.specs.declared.Modes.{Modes}

-- tests 1 to 5, of the bench and the lengths of Z, P and ZA
abbrev pub bench_tests : Bench → ℕ → ℕ → ℕ → List Test
bench_tests b z p za =
    flags_test b.flags
    ∷ record { fails = not (legal b.vb); gives = VectorLength }
    ∷ record { fails = not (eqb z (z_size b.vb)); gives = ZLength }
    ∷ record { fails = not (eqb p (p_size b.vb)); gives = PLength }
    ∷ record { fails = not (eqb za (za_size b.vb)); gives = ZaLength }
    ∷ []

-- tests 9 and 10, of an instruction with these needs
abbrev pub mode_tests : Bench → Modes → List Test
mode_tests b needs =
    record { fails = needs.streaming && not b.sm; gives = StreamingOff }
    ∷ record { fails = needs.za && not b.za; gives = ZaOff }
    ∷ []

-- tests 7 to 10, of a word
abbrev pub word_tests : Bench → ℕ → List Test
word_tests b w = listing_tests b.flags w ++ mode_tests b (modes_of (describe w))

-- tests 1 to 5, of what a word is executed on
abbrev pub machine_tests : Machine → List Test
machine_tests m = bench_tests m.bench (length m.z) (length m.p) (length m.za)

-- the refusal that 7 to 10 give a word
abbrev pub word_refusal : Machine → ℕ → Option Refusal
word_refusal m w = first_failure (word_tests m.bench w)

-- the refusal that a word gets: tests 1 to 5, then 7 to 10
unfoldable pub refusal_of : Machine → ℕ → Option Refusal
refusal_of m w = first_failure (machine_tests m ++ word_tests m.bench w)

abbrev pub none? : Option Refusal → Bool
none? none = true
none? (some r) = false

-- document 01's "accepted": none of 1 to 5 and 7 to 10 applies
abbrev pub accepted : Machine → ℕ → Bool
accepted m w = none? (refusal_of m w)

-- ---- what an accepted instruction leaves

-- sum row col comes to each element (row, col) of a tile of elements of E bytes
pub record Addition : Type 0 where
  pub E : ℕ
  pub tile : ℕ
  pub sum : ℕ → ℕ → ℤ

abbrev pub outer_addition : ℕ → List ℕ → List ℕ → Option OuterProduct → Option Addition
outer_addition vb z p none = none
outer_addition vb z p (some o) = some (record { E = o.element; tile = o.tile.0; sum = sums vb o z p })

-- what an instruction adds, if it adds to a tile
abbrev pub addition_of : Machine → Option Instruction → Option Addition
addition_of m d = outer_addition m.bench.vb m.z m.p (outer_of d)

abbrev pub added : Machine → Option Addition → Machine
added m none = m
added m (some a) = with_za m (add_to a.E m.bench.vb a.tile a.sum m.za)

-- the rows of a mask cleared
abbrev pub cleared : Machine → Option ℕ → Machine
cleared m none = m
cleared m (some mask) = with_za m (clear m.bench.vb mask m.za)

-- it adds to its tile or clears rows, and changes nothing else
abbrev pub effect : Machine → Option Instruction → Machine
effect m d = cleared (added m (addition_of m d)) (mask_of d)

abbrev pub unless : {A : Type 0} → Option Refusal → A → A → A
unless (some r) refused done = refused
unless none refused done = done

-- ---- what a word leaves, by its refusal: all as it was where there is one
abbrev pub left_by : Machine → ℕ → Option Refusal → Machine
left_by m w o = unless o m (effect m (describe w))

unfoldable pub after : Machine → ℕ → Machine
after m w = left_by m w (refusal_of m w)

-- the same on a bench that passed 1 to 5
abbrev pub word_left : Machine → ℕ → Machine
word_left m w = left_by m w (word_refusal m w)

-- the answer
abbrev pub outcome : Option Refusal → Result Unit Refusal
outcome none = Ok tt
outcome (some r) = Err r
