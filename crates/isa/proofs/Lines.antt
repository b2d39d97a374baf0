-- What the table's lines have in common: each row is sound and has 32 bits, values that fit a row make a description
-- that is in range and has those values, and a description in range fits its row. Assumes nothing.
use mathlib.Core.Path.{◌≡◌, ◌∙◌, sym, ap, refl}
use mathlib.Core.Bool.{Bool, true, false, not, cond, ◌&&◌}
use mathlib.Core.List.Memᴰ
use mathlib.Core.List.{List, [], ◌∷◌, ◌++◌, Memᴰ}
use Prim.Native.Nat.{ℕ, zero, suc, ◌+◌, ◌-◌, ◌*◌, ◌/◌, ◌%◌, ◌^◌, ◌<◌, ◌≤◌}
use native.Mathlib.Omega.{arith}
use lib.Dec.{eqb, ltb, leb}
use borrow.Author.Tests.{eq-eqb, eqb-true, ltb-true, leb-true, lt-ltb, le-leb}
use Rattle.isa.specs.Row.{Name, u0, u1, S, ZAda, Zn, Zm, Pn, Pm, N, M, mask, field, Row, Fields, size, every, word_of, field_of, matches}
use Rattle.isa.specs.Table.{predicated64, quarter64, one?, is_wide, second_sign, operation_of_fields, bit, source, is_pair, register, Entry, predicated_row, quarter_row, predicated, quarter, zeroing, base_table, table, described, shape_of, entry_of, fields_from, word_for, element_bytes, products_of, is_formed, ranges, in_range}
use Rattle.isa.specs.declared.Shape.{Shape}
use Rattle.isa.specs.declared.Shape.TheVariants.{Bytes32, Halves64, Halves32}
use Rattle.isa.specs.declared.Operation.{Operation}
use Rattle.isa.specs.declared.Source.{Source}
use Rattle.isa.specs.declared.Source.TheVariants.{One, Pair}
use Rattle.isa.specs.declared.PredicatedProduct.{PredicatedProduct}
use Rattle.isa.specs.declared.QuarterProduct.{QuarterProduct}
use Rattle.isa.specs.declared.Instruction.{Instruction}
use Rattle.isa.specs.declared.Instruction.TheVariants.{Predicated, Quarter, Zero}
use Rattle.isa.proofs.Tests.{All, every_all, all_every}
use Rattle.isa.proofs.Rows.{Fit, Agree, soundness, Sound, Over, Within, Alike, unfixed, over_unfixed, over_split, over_join, agree_word, word_lt, word-matches, fields_back, fields_fit, word_is}

-- ---- a test of every line
abbrev pub checked : (Entry → Bool) → List Entry → List Bool
checked test [] = []
checked test (e ∷ es) = test e ∷ checked test es

pub at-line : (test : Entry → Bool) (es : List Entry) {e : Entry} → All (checked test es) → Memᴰ e es → test e ≡ true
at-line test [] t m = elim m [ ]
at-line test (x ∷ es) t (Memᴰ.head p) = rw p t.0
at-line test (x ∷ es) t (Memᴰ.tail m) = at-line test es t.1 m

abbrev sound_line : Entry → Bool
sound_line e = every (eqb (size e.row) 32 ∷ soundness e.row)

table_sound : every (checked sound_line table) ≡ true
table_sound = refl

pub line_sound : {e : Entry} → Memᴰ e table → (size e.row ≡ 32) × Sound e.row
line_sound {e} m =
    let t = every_all (eqb (size e.row) 32 ∷ soundness e.row) (at-line sound_line table (every_all (checked sound_line table) table_sound) m) in
    (eqb-true _ _ t.0, t.1)

-- ---- bits, sources and tiles
pub bit_lt : (b : Bool) → bit b < 2
bit_lt true = omega arith
bit_lt false = omega arith

-- the bits of an operation
bits_lt : (op : Operation) → (bit op.u0 < 2) × (bit op.u1 < 2) × (bit op.subtract < 2)
bits_lt op = (bit_lt op.u0, bit_lt op.u1, bit_lt op.subtract)

pub one_bit : (b : Bool) → one? (bit b) ≡ b
one_bit true = refl
one_bit false = refl

bit_one : (v : ℕ) → v < 2 → bit (one? v) ≡ v
bit_one zero h = refl
bit_one (suc zero) h = refl
bit_one (suc (suc v)) h = absurd (omega arith)

source_pair : (b : Bool) (n : ℕ) → is_pair (source b n) ≡ b
source_pair true n = refl
source_pair false n = refl

pub source-register : (b : Bool) (n : ℕ) → register (source b n) ≡ n
source-register true n = refl
source-register false n = refl

pub source_back : (s : Source) (n : ℕ) → n ≡ register s → source (one? (bit (is_pair s))) n ≡ s
source_back (One v) n e = rw e
source_back (Pair v) n e = rw e

pub element-between : (op : Operation) → (0 < element_bytes op) × (element_bytes op ≤ 8)
element-between op = go op.wide
  where
    go : (wide : Bool) → (0 < cond wide 8 4) × (cond wide 8 4 ≤ 8)
    go true = omega arith
    go false = omega arith

pub products_some : (op : Operation) → 0 < products_of op
products_some op = go op.two_way
  where
    go : (two : Bool) → 0 < cond two 2 4
    go true = omega arith
    go false = omega arith

-- ---- the two families of outer products, each a line for each shape
pub data Family : Type 0 where
  predicates quarters : Family

abbrev pub line : Family → Shape → Entry
line predicates s = predicated s
line quarters s = quarter s

line_in : (k : Family) (s : Shape) → Memᴰ (line k s) table
line_in predicates Bytes32 = Memᴰ.head refl
line_in predicates Halves64 = Memᴰ.tail (Memᴰ.head refl)
line_in quarters Bytes32 = Memᴰ.tail (Memᴰ.tail (Memᴰ.head refl))
line_in quarters Halves64 = Memᴰ.tail (Memᴰ.tail (Memᴰ.tail (Memᴰ.head refl)))
line_in predicates Halves32 = Memᴰ.append_right base_table (Memᴰ.head refl)
line_in quarters Halves32 = Memᴰ.append_right base_table (Memᴰ.tail (Memᴰ.head refl))

-- the fields of a family's rows: signs by the shape, and operands that differ in the width of the tile's number alone
abbrev signs_of : Shape → Row
signs_of Bytes32 = field u0 1 ∷ field u1 1 ∷ []
signs_of Halves64 = field u0 1 ∷ field u1 1 ∷ []
signs_of Halves32 = field u0 1 ∷ []

abbrev tile_bits : Shape → ℕ
tile_bits s = cond (is_wide s) 3 2

abbrev operands_of : Family → Shape → Row
operands_of predicates s = field Zm 5 ∷ field Pm 3 ∷ field Pn 3 ∷ field Zn 5 ∷ field S 1 ∷ field ZAda (tile_bits s) ∷ []
operands_of quarters s = field M 1 ∷ field Zm 3 ∷ field N 1 ∷ field Zn 3 ∷ field S 1 ∷ field ZAda (tile_bits s) ∷ []

line_fields : (k : Family) (s : Shape) → unfixed (line k s).row ≡ signs_of s ++ operands_of k s
line_fields predicates Bytes32 = refl
line_fields predicates Halves64 = refl
line_fields predicates Halves32 = refl
line_fields quarters Bytes32 = refl
line_fields quarters Halves64 = refl
line_fields quarters Halves32 = refl

-- a tile's number has as many values as there are tiles
tile_bits_lem : (s : Shape) → 2 ^ tile_bits s ≡ cond (is_wide s) 8 4
tile_bits_lem Bytes32 = refl
tile_bits_lem Halves64 = refl
tile_bits_lem Halves32 = refl

-- what holds over a line's row holds over its signs and over its operands
module _ (P : Name → ℕ → Type 0) (k : Family) (s : Shape) where
  row_is : Over P (signs_of s ++ operands_of k s) ≡ Over P (line k s).row
  row_is = ap (Over P) (sym (line_fields k s)) ∙ over_unfixed P (line k s).row

  parts : Over P (line k s).row → Over P (signs_of s) × Over P (operands_of k s)
  parts t = over_split P (signs_of s) (operands_of k s) (rw (← row_is) at t)

  whole : Over P (signs_of s) → Over P (operands_of k s) → Over P (line k s).row
  whole a b = rw (← row_is) (over_join P (signs_of s) (operands_of k s) a b)

-- ---- signs and shapes

signs_fit : (s : Shape) (f : Fields) → f u0 < 2 → f u1 < 2 → Fit (signs_of s) f
signs_fit Bytes32 f h k = (h, (k, tt))
signs_fit Halves64 f h k = (h, (k, tt))
signs_fit Halves32 f h k = (h, tt)

signs_kept : (s : Shape) (f g : Fields) → Fit (signs_of s) f → g u0 ≡ bit (one? (f u0)) → g u1 ≡ bit (one? (f (second_sign s))) → Agree (signs_of s) g f
signs_kept Bytes32 f g t p q = (p ∙ bit_one (f u0) t.0, (q ∙ bit_one (f u1) t.1.0, tt))
signs_kept Halves64 f g t p q = (p ∙ bit_one (f u0) t.0, (q ∙ bit_one (f u1) t.1.0, tt))
signs_kept Halves32 f g t p q = (p ∙ bit_one (f u0) t.0, tt)

signs_agree : (s : Shape) (f g : Fields) → Agree (signs_of s) f g → (f u0 ≡ g u0) × (f (second_sign s) ≡ g (second_sign s))
signs_agree Bytes32 f g a = (a.0, a.1.0)
signs_agree Halves64 f g a = (a.0, a.1.0)
signs_agree Halves32 f g a = (a.0, a.0)

-- what a shape makes of fields is of that shape, and well formed
shape_made : (s : Shape) (f : Fields) → shape_of (operation_of_fields s f) ≡ s
shape_made Bytes32 f = refl
shape_made Halves64 f = refl
shape_made Halves32 f = refl

formed_made : (s : Shape) (f : Fields) → is_formed (operation_of_fields s f) ≡ true
formed_made Bytes32 f = refl
formed_made Halves64 f = refl
formed_made Halves32 f = eq-eqb (bit (one? (f u0))) (bit (one? (f u0))) refl

-- a well formed operation comes back from its fields
operation_back : (op : Operation) (f : Fields) → is_formed op ≡ true → f u0 ≡ bit op.u0 → f u1 ≡ bit op.u1 → f S ≡ bit op.subtract
    → operation_of_fields (shape_of op) f ≡ op
operation_back op f h p q r = go op.wide op.two_way h
  where
    made : Bool → Bool → Operation
    made wide two = operation_of_fields (cond two Halves32 (cond wide Halves64 Bytes32)) f

    one_sign : eqb (bit op.u0) (bit op.u1) ≡ true → one? (f u0) ≡ op.u1
    one_sign e = ap one? (p ∙ eqb-true (bit op.u0) (bit op.u1) e) ∙ one_bit op.u1

    u0_is : one? (f u0) ≡ op.u0
    u0_is = ap one? p ∙ one_bit op.u0

    u1_is : one? (f u1) ≡ op.u1
    u1_is = ap one? q ∙ one_bit op.u1

    s_is : one? (f S) ≡ op.subtract
    s_is = ap one? r ∙ one_bit op.subtract

    go : (wide two : Bool) → cond two (not wide && eqb (bit op.u0) (bit op.u1)) true ≡ true
        → made wide two ≡ record { wide = wide; two_way = two; u0 = op.u0; u1 = op.u1; subtract = op.subtract }
    go false false e = rw (u0_is, u1_is, s_is)
    go true false e = rw (u0_is, u1_is, s_is)
    go false true e = let u = one_sign e in let v = u0_is in let t = s_is in cc
    go true true e = let z : true ≡ false = sym e in cc

-- ---- values that fit a line's row
record Kept (e : Entry) (f : Fields) : Type 0 where
  is_in_range : in_range (e.make f) ≡ true
  entry : entry_of (e.make f) ≡ e
  fields : Agree e.row (fields_from (e.make f)) f

kept : (k : Family) (s : Shape) (f : Fields) → Fit (line k s).row f → Kept (line k s) f
kept predicates s f t =
    let (a, p) = parts (Within f) predicates s t in
    let b = bit_one (f S) (omega arith) in
    record {
      is_in_range = all_every (ranges ((predicated s).make f)) (formed_made s f, omega (arith, lt-ltb, tile_bits_lem s));
      entry = ap predicated (shape_made s f);
      fields = whole (Alike (fields_from ((predicated s).make f)) f) predicates s (signs_kept s f _ a refl refl) (omega arith);
    }
kept quarters s f t =
    let (a, p) = parts (Within f) quarters s t in
    let b = bit_one (f S) (omega arith) in
    let n = bit_one (f N) (omega arith) in
    let m = bit_one (f M) (omega arith) in
    record {
      is_in_range =
          simp source-register
          (all_every
          (is_formed (operation_of_fields s f) ∷ ltb (f ZAda) (cond (is_wide s) 8 4) ∷ eqb (2 * f Zn % 2) 0 ∷ leb (2 * f Zn) 14
          ∷ eqb ((16 + 2 * f Zm) % 2) 0 ∷ leb 16 (16 + 2 * f Zm) ∷ leb (16 + 2 * f Zm) 30 ∷ [])
          (formed_made s f, omega (arith, lt-ltb, le-leb, eq-eqb, tile_bits_lem s)));
      entry = ap quarter (shape_made s f);
      fields =
          whole (Alike (fields_from ((quarter s).make f)) f) quarters s (signs_kept s f _ a refl refl)
          (simp (source-register, source_pair) (omega arith));
    }

zero_kept : (f : Fields) → Fit zeroing.row f → Kept zeroing f
zero_kept f t = record { is_in_range = all_every (ltb (f mask) 256 ∷ []) (omega (arith, lt-ltb)); entry = refl; fields = (refl, tt) }

-- what holds of each line in turn holds of every line
abbrev Each : (Entry → Type 0) → List Entry → Type 0
Each P [] = Unit {0}
Each P (e ∷ es) = P e × Each P es

each_line : (P : Entry → Type 0) (es : List Entry) {e : Entry} → Each P es → Memᴰ e es → P e
each_line P [] t m = elim m [ ]
each_line P (x ∷ es) t (Memᴰ.head p) = rw p t.0
each_line P (x ∷ es) t (Memᴰ.tail m) = each_line P es t.1 m

line_kept : {e : Entry} → Memᴰ e table → (f : Fields) → Fit e.row f → Kept e f
line_kept =
    each_line (λ e. (f : Fields) → Fit e.row f → Kept e f) table (
      kept predicates Bytes32,
      (
        kept predicates Halves64,
        (
          kept quarters Bytes32,
          (
            kept quarters Halves64,
            (
              zero_kept,
              (kept predicates Halves32, (kept quarters Halves32, tt)),
            ),
          ),
        ),
      ),
    )

-- ---- a description in range
pub in_table : (i : Instruction) → Memᴰ (entry_of i) table
in_table (Predicated p) = line_in predicates (shape_of p.op)
in_table (Quarter q) = line_in quarters (shape_of q.op)
in_table (Zero m) = Memᴰ.tail (Memᴰ.tail (Memᴰ.tail (Memᴰ.tail (Memᴰ.head refl))))

-- there are as many tiles as the number of its shape's tile has values
tiles_are : (op : Operation) → is_formed op ≡ true → 2 ^ tile_bits (shape_of op) ≡ element_bytes op
tiles_are op h = go op.wide op.two_way h
  where
    go : (wide two : Bool) → cond two (not wide && eqb (bit op.u0) (bit op.u1)) true ≡ true
        → 2 ^ tile_bits (cond two Halves32 (cond wide Halves64 Bytes32)) ≡ cond wide 8 4
    go false false e = refl
    go true false e = refl
    go false true e = refl
    go true true e = let z : true ≡ false = sym e in cc

-- of any shape it fits its family's widest row
pub predicated_range : (p : PredicatedProduct) → in_range (Predicated p) ≡ true → Fit predicated64 (fields_from (Predicated p))
predicated_range p h =
    let t = every_all (ranges (Predicated p)) h in
    omega (arith, ltb-true, element-between p.op, bits_lt p.op)

pub quarter_range : (q : QuarterProduct) → in_range (Quarter q) ≡ true
    → Fit quarter64 (fields_from (Quarter q)) × (register q.first ≤ 14) × (16 ≤ register q.second) × (register q.second ≤ 30)
quarter_range q h =
    let t = every_all (ranges (Quarter q)) h in
    omega (arith, ltb-true, leb-true, element-between q.op, bits_lt q.op, bit_lt (is_pair q.first), bit_lt (is_pair q.second))

-- and its own
pub range_fit : (i : Instruction) → in_range i ≡ true → Fit (entry_of i).row (fields_from i)
range_fit (Predicated p) h =
    let i = Predicated p in
    let op = p.op in
    let r = (every_all (ranges i) h).1 in
    let t = predicated_range p h in
    let e = tiles_are op (every_all (ranges i) h).0 in
    whole (Within (fields_from i)) predicates (shape_of op) (signs_fit (shape_of op) _ (bit_lt op.u0) (bit_lt op.u1)) (omega (arith, ltb-true))
range_fit (Quarter q) h =
    let i = Quarter q in
    let op = q.op in
    let r = (every_all (ranges i) h).1 in
    let t = quarter_range q h in
    let e = tiles_are op (every_all (ranges i) h).0 in
    whole (Within (fields_from i)) quarters (shape_of op) (signs_fit (shape_of op) _ (bit_lt op.u0) (bit_lt op.u1)) (omega (arith, ltb-true))
range_fit (Zero m) h = let p = every_all (ranges (Zero m)) h in omega (arith, ltb-true)

-- ---- the word of a family's row, as a sum: the fixed bits of each shape, and the fields at the same places in all; no 2-way
-- row has u1
abbrev pub sign_bits : Operation → Fields → ℕ
sign_bits op f = f u0 * 0x1000000 + cond op.two_way 0 (f u1) * 0x200000

pub predicated-sum : (op : Operation) (f : Fields) → word_of (predicated_row (shape_of op)) f
    ≡ cond op.two_way 0xa0800008 (cond op.wide 0xa0c00000 0xa0800000)
    + (sign_bits op f + f Zm * 0x10000 + f Pm * 0x2000 + f Pn * 0x400 + f Zn * 0x20 + f S * 0x10 + f ZAda)
predicated-sum op f = go op.two_way op.wide
  where
    go : (two wide : Bool) → word_of (predicated_row (cond two Halves32 (cond wide Halves64 Bytes32))) f
        ≡ cond two 0xa0800008 (cond wide 0xa0c00000 0xa0800000)
        + (f u0 * 0x1000000 + cond two 0 (f u1) * 0x200000 + f Zm * 0x10000 + f Pm * 0x2000 + f Pn * 0x400 + f Zn * 0x20 + f S * 0x10 + f ZAda)
    go true wide = omega arith
    go false true = omega arith
    go false false = omega arith

pub quarter-sum : (op : Operation) (f : Fields) → word_of (quarter_row (shape_of op)) f
    ≡ cond op.two_way 0x80008008 (cond op.wide 0xa0c00008 0x80008000)
    + (sign_bits op f + f M * 0x100000 + f Zm * 0x20000 + f N * 0x200 + f Zn * 0x40 + f S * 0x10 + f ZAda)
quarter-sum op f = go op.two_way op.wide
  where
    go : (two wide : Bool) → word_of (quarter_row (cond two Halves32 (cond wide Halves64 Bytes32))) f
        ≡ cond two 0x80008008 (cond wide 0xa0c00008 0x80008000)
        + (f u0 * 0x1000000 + cond two 0 (f u1) * 0x200000 + f M * 0x100000 + f Zm * 0x20000 + f N * 0x200 + f Zn * 0x40 + f S * 0x10 + f ZAda)
    go true wide = omega arith
    go false true = omega arith
    go false false = omega arith

-- the bit of u1, which no 2-way row has
pub u1_bit : (op : Operation) → bit (op.u1 && not op.two_way) ≡ cond op.two_way 0 (bit op.u1)
u1_bit op = go op.u1 op.two_way
  where
    go : (u two : Bool) → bit (u && not two) ≡ cond two 0 (bit u)
    go true true = refl
    go true false = refl
    go false true = refl
    go false false = refl

-- a line makes the same description of fields that agree
make_agree : (k : Family) (s : Shape) (f g : Fields) → Agree (line k s).row f g → (line k s).make f ≡ (line k s).make g
make_agree predicates s f g a =
    let (b, p) = parts (Alike f g) predicates s a in
    let (c, d) = signs_agree s f g b in
    cc
make_agree quarters s f g a =
    let (b, p) = parts (Alike f g) quarters s a in
    let (c, d) = signs_agree s f g b in
    cc

make_back : (i : Instruction) (f : Fields) → in_range i ≡ true → Agree (entry_of i).row f (fields_from i) → (entry_of i).make f ≡ i
make_back (Predicated p) f h a =
    let i = Predicated p in
    make_agree predicates (shape_of p.op) f (fields_from i) a
    ∙ rw (operation_back p.op (fields_from i) (every_all (ranges i) h).0 refl refl refl)
make_back (Quarter q) f h a =
    let i = Quarter q in
    let p = (every_all (ranges i) h).1 in
    make_agree quarters (shape_of q.op) f (fields_from i) a
    ∙ rw (
      operation_back q.op (fields_from i) (every_all (ranges i) h).0 refl refl refl,
      source_back q.first (2 * (register q.first / 2)) (omega (arith, eqb-true)),
      source_back q.second (16 + 2 * ((register q.second - 16) / 2)) (omega (arith, eqb-true, leb-true)),
    )
make_back (Zero m) f h a = ap Zero a.0

-- ---- a line and its words

-- a word that matches a line is the word of what the line makes of it
pub record Word-of (e : Entry) (w : ℕ) : Type 0 where
  pub is_in_range : in_range (described e w) ≡ true
  pub word : word_for (described e w) ≡ w

-- whatever a line makes of a number is in range
pub described_range : {e : Entry} (w : ℕ) → Memᴰ e table → in_range (described e w) ≡ true
described_range {e} w m = (line_kept m (field_of e.row w) (fields_fit e.row w (line_sound m).1)).is_in_range

pub described-word : {e : Entry} (w : ℕ) → Memᴰ e table → w < 2 ^ 32 → matches e.row w ≡ true → Word-of e w
described-word {e} w m h q =
    let (n, s) = line_sound m in
    let f = field_of e.row w in
    let k = line_kept m f (fields_fit e.row w s) in
    record {
      is_in_range = k.is_in_range;
      word =
          ap (λ (x : Entry). word_of x.row (fields_from (e.make f))) k.entry
          ∙ agree_word e.row (fields_from (e.make f)) f k.fields
          ∙ word_is e.row w s (rw n h) q;
    }

-- the word of a description in range matches its line, which makes the description of it
pub record Line-of (i : Instruction) : Type 0 where
  pub fits : word_for i < 2 ^ 32
  pub hit : matches (entry_of i).row (word_for i) ≡ true
  pub back : described (entry_of i) (word_for i) ≡ i

pub word-described : (i : Instruction) → in_range i ≡ true → Line-of i
word-described i h =
    let (n, s) = line_sound (in_table i) in
    let r = (entry_of i).row in
    let t = range_fit i h in
    record {
      fits = rw n at (word_lt r (fields_from i) s t);
      hit = word-matches r (fields_from i) s t;
      back = make_back i (field_of r (word_for i)) h (fields_back r (fields_from i) s t);
    }
