-- `isa::table::line_of` meets its contract: at each place the tests that led there say what is left of the table.
-- Assumes nothing.
use mathlib.Core.Path.{◌≡◌, ◌∙◌, sym, refl}
use mathlib.Core.Bool.{Bool, true, false}
use mathlib.Core.List.{List, ◌∷◌, Memᴰ}
use mathlib.Core.Option.{some}
use Prim.Native.Nat.{ℕ}
use lib.Dec.{eqb}
use lib.ListN.{drop}
use lib.Bits.{bit_and}
use Rattle.isa.specs.Table.{Entry, table}
use Rattle.isa.specs.Answers.{lookup}
use Rattle.isa.proofs.Rows.{Sound}
use Rattle.isa.proofs.Masks.{mask_of, bare, by_mask}
use Rattle.isa.proofs.Lines.{line_sound}
use Rattle.isa.proofs.table.line_of.Goals as goal
use Rattle.isa.proofs.table.line_of.Goals.{Else-has, Else-has-2, Else-has-3, Else-has-4, Else-has-5, Else-has-6, Else-has-7}

-- no line of the table before es matches
record Left (es : List Entry) (w : ℕ) : Type 0 where
  is : lookup table w ≡ lookup es w
  sound : (e : Entry) → Memᴰ e es → Sound e.row

-- before the first test the whole table is left
whole : (w : ℕ) → Left table w
whole w = record { is = refl; sound = λ e m. (line_sound m).1 }

module _ {e : Entry} {es : List Entry} {w : ℕ} {b : Bool} (l : Left (e ∷ es) w) (p : b ≡ eqb (bit_and w (mask_of e.row)) (bare e.row)) where
  matched : b ≡ true → lookup table w ≡ some e
  matched q = l.is ∙ rw (by_mask e.row w (l.sound e (Memᴰ.head refl)), sym p ∙ q)

  hit : b ≡ true → some e ≡ lookup table w
  hit q = sym (matched q)

  miss : b ≡ false → Left es w
  miss q = record {
    is = l.is ∙ rw (by_mask e.row w (l.sound e (Memᴰ.head refl)), sym p ∙ q);
    sound = λ x m. l.sound x (Memᴰ.tail m);
  }

-- the lines that are left behind each test
left-1 : (c : Else-has) → Left (drop 1 table) c.args.word
left-1 c = miss (whole c.args.word) c.has.ensures c.if-has.false

left-2 : (c : Else-has-2) → Left (drop 2 table) c.args.word
left-2 c = miss (left-1 c.before.before) c.has-2.ensures c.if-has-2.false

left-3 : (c : Else-has-3) → Left (drop 3 table) c.args.word
left-3 c = miss (left-2 c.before.before) c.has-3.ensures c.if-has-3.false

left-4 : (c : Else-has-4) → Left (drop 4 table) c.args.word
left-4 c = miss (left-3 c.before.before) c.has-4.ensures c.if-has-4.false

left-5 : (c : Else-has-5) → Left (drop 5 table) c.args.word
left-5 c = miss (left-4 c.before.before) c.has-5.ensures c.if-has-5.false

left-6 : (c : Else-has-6) → Left (drop 6 table) c.args.word
left-6 c = miss (left-5 c.before.before) c.has-6.ensures c.if-has-6.false

left-7 : (c : Else-has-7) → Left (drop 7 table) c.args.word
left-7 c = miss (left-6 c.before.before) c.has-7.ensures c.if-has-7.false

pub returns-then-has : goal.returns-then-has
returns-then-has c = hit (whole c.args.word) c.has.ensures c.if-has.true

pub returns-then-has-2 : goal.returns-then-has-2
returns-then-has-2 c = hit (left-1 c.before.before) c.has-2.ensures c.if-has-2.true

pub returns-then-has-3 : goal.returns-then-has-3
returns-then-has-3 c = hit (left-2 c.before.before) c.has-3.ensures c.if-has-3.true

pub returns-then-has-4 : goal.returns-then-has-4
returns-then-has-4 c = hit (left-3 c.before.before) c.has-4.ensures c.if-has-4.true

pub returns-then-has-5 : goal.returns-then-has-5
returns-then-has-5 c = hit (left-4 c.before.before) c.has-5.ensures c.if-has-5.true

pub returns-then-has-6 : goal.returns-then-has-6
returns-then-has-6 c = hit (left-5 c.before.before) c.has-6.ensures c.if-has-6.true

pub returns-then-has-7 : goal.returns-then-has-7
returns-then-has-7 c = hit (left-6 c.before.before) c.has-7.ensures c.if-has-7.true

pub returns : goal.returns
returns c = sym (left-7 c).is
