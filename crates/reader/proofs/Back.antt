-- The guess gives every instruction in range back from its line. Assumes nothing.
use mathlib.Core.Path.{◌≡◌, ◌∙◌, ap, refl}
use mathlib.Core.Bool.{Bool, true, false, false≢true, not, cond, ◌&&◌, ◌||◌}
use mathlib.Core.List.{List, [], ◌∷◌, ◌++◌}
use Prim.Native.Nat.{ℕ, ◌+◌, ◌*◌, ◌/◌, ◌%◌, ◌<◌}
use native.Mathlib.Omega.{arith}
use lib.Dec.{eqb, ltb}
use borrow.Author.Tests.{le-ltb, ne_eqb, ltb-true, ltb-false, eqb-true}
use Rattle.isa.specs.Table.{bit, source_bytes, is_formed, ranges, in_range, is_pair, register}
use Rattle.isa.specs.declared.Operation.{Operation}
use Rattle.isa.specs.declared.PredicatedProduct.{PredicatedProduct}
use Rattle.isa.specs.declared.QuarterProduct.{QuarterProduct}
use Rattle.isa.specs.declared.Tile.{Tile}
use Rattle.isa.specs.declared.Predicate.{Predicate}
use Rattle.isa.specs.declared.Source.{Source}
use Rattle.isa.specs.declared.Source.TheVariants.{One, Pair}
use Rattle.isa.specs.declared.Instruction.{Instruction}
use Rattle.isa.specs.declared.Instruction.TheVariants.{Predicated, Quarter, Zero}
use Rattle.isa.proofs.Tests.{every_all, below}
use Rattle.isa.proofs.Lines.{predicated_range, quarter_range}
use Rattle.names.specs.Names.{names_of}
use Rattle.text.specs.Ascii.{ascii}
use Rattle.text.specs.Spelling.{Text, decimal, mnemonic, tile_name, predicate_name, vector_name, source_name, further, separated, spelling}
use Rattle.reader.specs.declared.Scan.{Scan}
use Rattle.reader.specs.Claims.{old_line}
use Rattle.reader.specs.Guess.{fresh, stepped, scanned, tiles_from, zero_mask, byte_at, operation_of, source_of, outer_of, guess_of}

scanned_append : (s : Scan) (a b : Text) → scanned s (a ++ b) ≡ scanned (scanned s a) b
unfolding scanned
scanned_append s [] b = refl
scanned_append s (x ∷ a) b = scanned_append (stepped s x) a b

-- ---- numbers
abbrev numbered : Scan → ℕ → Scan
numbered s n =
    record {
      wide = s.wide;
      half = s.half;
      predicated = s.predicated;
      n0 = s.n0;
      n1 = s.n1;
      n2 = s.n2;
      n3 = s.n3;
      number = n;
      earlier = s.earlier;
      pair = s.pair;
    }

digit-step : (s : Scan) (d : ℕ) → d < 10 → stepped s (48 + d) ≡ numbered s (s.number % 10 * 10 + d)
digit-step s d h =
    rw (
      ne_eqb (48 + d) 44 (λ e. omega arith),
      ne_eqb (48 + d) 100 (λ e. omega arith),
      ne_eqb (48 + d) 104 (λ e. omega arith),
      ne_eqb (48 + d) 47 (λ e. omega arith),
      ne_eqb (48 + d) 122 (λ e. omega arith),
      ne_eqb (48 + d) 112 (λ e. omega arith),
      ne_eqb (48 + d) 45 (λ e. omega arith),
      le-ltb (48 + d) 48 (omega arith),
      le-ltb 57 (48 + d) (omega arith),
    )
    (ap (λ (k : ℕ). numbered s (s.number % 10 * 10 + k)) (omega arith))

decimal_scan : (s : Scan) (n : ℕ) → n < 100 → s.number ≡ 0 → scanned s (decimal n) ≡ numbered s n
unfolding scanned
decimal_scan s n h z = go (ltb n 10) refl
  where
    go : (b : Bool) → ltb n 10 ≡ b → scanned s (decimal n) ≡ numbered s n
    go true q = rw q (digit-step s n (ltb-true n 10 q) ∙ ap (numbered s) (rw z (omega arith)))
    go false q =
        rw q
        (ap (λ (x : Scan). stepped x (48 + n % 10)) (digit-step s (n / 10) (omega arith))
        ∙ digit-step (numbered s (s.number % 10 * 10 + n / 10)) (n % 10) (omega arith)
        ∙ ap (numbered s) (rw z (omega (arith, ltb-false n 10 q))))

-- a text with a number in it
around : (s : Scan) (n : ℕ) (t : Text) → n < 100 → s.number ≡ 0 → scanned s (decimal n ++ t) ≡ scanned (numbered s n) t
around s n t h z = scanned_append s (decimal n) t ∙ ap (λ (x : Scan). scanned x t) (decimal_scan s n h z)

-- ---- operands: one more, with its number, whether its elements are halfwords, whether it is a predicate, and whether a pair
abbrev operand : Scan → Bool → Bool → Bool → ℕ → Scan
operand s half predicate pair n =
    record {
      wide = s.wide;
      half = half || s.half;
      predicated = predicate || s.predicated;
      n0 = s.n1;
      n1 = s.n2;
      n2 = s.n3;
      n3 = s.number;
      number = n;
      earlier = s.pair;
      pair = pair;
    }

predicate_scan : (s : Scan) (p : Predicate) → p.0 < 100 → scanned s (ascii ", " ++ predicate_name p) ≡ operand s false true false p.0
unfolding scanned
predicate_scan s p h = around (scanned s (ascii ", p")) p.0 (ascii "/m") h refl

-- the bytes of a source's elements
abbrev bytes_by : Bool → ℕ
bytes_by half = cond half 2 1

abbrev vectored : Scan → Bool → ℕ → Scan
vectored s half n =
    record {
      wide = s.wide;
      half = half || s.half;
      predicated = s.predicated;
      n0 = s.n0;
      n1 = s.n1;
      n2 = s.n2;
      n3 = s.n3;
      number = n;
      earlier = s.earlier;
      pair = s.pair;
    }

name_scan : (s : Scan) (half : Bool) (n : ℕ) → n < 100 → scanned s (vector_name (bytes_by half) n) ≡ vectored s half n
unfolding scanned
name_scan s true n h = around (scanned s (ascii "z")) n (ascii ".h") h refl
name_scan s false n h = around (scanned s (ascii "z")) n (ascii ".b") h refl

vector_scan : (s : Scan) (half : Bool) (n : ℕ) → n < 100 → scanned s (ascii ", " ++ vector_name (bytes_by half) n) ≡ operand s half false false n
unfolding scanned
vector_scan s half n h = name_scan (scanned s (ascii ", ")) half n h

-- the first operand, behind a name that left some number
abbrev tiled : Bool → ℕ → Scan
tiled wide n =
    record {
      wide = wide;
      half = false;
      predicated = false;
      n0 = 0;
      n1 = 0;
      n2 = 0;
      n3 = 0;
      number = n;
      earlier = false;
      pair = false;
    }

tile_scan : (k : ℕ) (wide : Bool) (t : Tile) → t.0 < 100 → scanned (numbered fresh k) (tile_name (cond wide 8 4) t) ≡ tiled wide t.0
unfolding scanned
tile_scan k true t h = around (scanned (numbered fresh k) (ascii "za")) t.0 (ascii ".d") h refl
tile_scan k false t h = around (scanned (numbered fresh k) (ascii "za")) t.0 (ascii ".s") h refl

-- a pair's number is that of its second register
abbrev last_number : Source → ℕ
last_number (One v) = v.0
last_number (Pair v) = v.0 + 1

or_twice : (a b : Bool) → a || (a || b) ≡ a || b
or_twice true b = refl
or_twice false b = refl

source_scan : (s : Scan) (half : Bool) (r : Source) → register r < 99
    → scanned s (ascii ", " ++ source_name (bytes_by half) r) ≡ operand s half false (is_pair r) (last_number r)
unfolding scanned
source_scan s half (One v) h = vector_scan s half v.0 (omega arith)
source_scan s half (Pair v) h =
    scanned_append s (ascii ", { " ++ first ++ ascii "-" ++ second) (ascii " }")
    ∙ ap (λ (x : Scan). scanned x (ascii " }"))
    (scanned_append s (ascii ", { " ++ first ++ ascii "-") second
    ∙ ap (λ (x : Scan). scanned x second)
    (scanned_append s (ascii ", { " ++ first) (ascii "-")
    ∙ ap (λ (x : Scan). scanned x (ascii "-")) (name_scan (scanned s (ascii ", { ")) half v.0 (omega arith)))
    ∙ name_scan (scanned (operand s half false false v.0) (ascii "-")) half (v.0 + 1) (omega arith))
    ∙ rw (or_twice half s.half)
  where
    first : Text
    first = vector_name (bytes_by half) v.0

    second : Text
    second = vector_name (bytes_by half) (v.0 + 1)

-- ---- the name of an outer product, with any operands behind it; the digit of mop4 is a number too
abbrev stem : Bool → Text
stem four = cond four (ascii "mop4") (ascii "mop")

abbrev behind_name : Bool → Scan
behind_name four = numbered fresh (cond four 4 0)

record Named (four : Bool) (op : Operation) (t rest : Text) : Type 0 where
  outer : eqb (byte_at t 0) 122 ≡ false
  operands : scanned fresh t ≡ scanned (behind_name four) rest
  operation : operation_of t op.wide op.two_way (not four) ≡ op

told : {four : Bool} {op : Operation} {t rest : Text} → eqb (byte_at t 0) 122 ≡ false → scanned fresh t ≡ scanned (behind_name four) rest
    → operation_of t op.wide op.two_way (not four) ≡ op → Named four op t rest
told a b c = record { outer = a; operands = b; operation = c }

named : (four : Bool) (op : Operation) (rest : Text) → Named four op (mnemonic (stem four) op ++ ascii " " ++ rest) rest
unfolding scanned
named four op rest = go four op.u0 op.u1 op.subtract
  where
    go : (four u0 u1 subtract : Bool)
        → (let o : Operation = record { wide = op.wide; two_way = op.two_way; u0 = u0; u1 = u1; subtract = subtract } in
        Named four o (mnemonic (stem four) o ++ ascii " " ++ rest) rest)
    go true true true true = told refl refl refl
    go true true true false = told refl refl refl
    go true true false true = told refl refl refl
    go true true false false = told refl refl refl
    go true false true true = told refl refl refl
    go true false true false = told refl refl refl
    go true false false true = told refl refl refl
    go true false false false = told refl refl refl
    go false true true true = told refl refl refl
    go false true true false = told refl refl refl
    go false true false true = told refl refl refl
    go false true false false = told refl refl refl
    go false false true true = told refl refl refl
    go false false true false = told refl refl refl
    go false false false true = told refl refl refl
    go false false false false = told refl refl refl

-- the guess, from the name and from what the operands are
outer_back : (four : Bool) (op : Operation) (t rest : Text) (s : Scan) → Named four op t rest → scanned (behind_name four) rest ≡ s
    → s.wide ≡ op.wide → s.half && not op.wide ≡ op.two_way → s.predicated ≡ not four → guess_of t ≡ outer_of op s
unfolding guess_of
outer_back four op t rest s n e w h p = rw (n.outer, n.operands, e, w, h, p, n.operation)

-- operands behind the first lead from one state to another
record Leads (s : Scan) (ts : List Text) (v : Scan) : Type 0 where
  ends : scanned s (further ts) ≡ v

none-behind : {s : Scan} → Leads s [] s
unfolding scanned
none-behind = record { ends = refl }

behind : {s u v : Scan} (t : Text) {ts : List Text} → scanned s (ascii ", " ++ t) ≡ u → Leads u ts v → Leads s (t ∷ ts) v
behind {s} t {ts} p q = record { ends = scanned_append s (ascii ", " ++ t) (further ts) ∙ ap (λ (x : Scan). scanned x (further ts)) p ∙ q.ends }

first_operand : (s : Scan) {u v : Scan} (t : Text) {ts : List Text} → scanned s t ≡ u → Leads u ts v → scanned s (separated (t ∷ ts)) ≡ v
first_operand s t {ts} p q = scanned_append s t (further ts) ∙ ap (λ (x : Scan). scanned x (further ts)) p ∙ q.ends

-- ---- shapes: sources are halfwords in the two that are 2-way or wide
abbrev halves : Operation → Bool
halves op = op.two_way || op.wide

-- a shape's halfwords, named with two sources, tell which it is
record Shaped (op : Operation) : Type 0 where
  bytes : source_bytes op ≡ bytes_by (halves op)
  two_way_lem : (halves op || (halves op || false)) && not op.wide ≡ op.two_way

shaped : (op : Operation) → is_formed op ≡ true → Shaped op
shaped op h = let (b, t) = go op.wide op.two_way h in record { bytes = b; two_way_lem = t }
  where
    go : (wide two : Bool) → cond two (not wide && eqb (bit op.u0) (bit op.u1)) true ≡ true
        → (cond wide 8 4 / cond two 2 4 ≡ bytes_by (two || wide)) × (((two || wide) || ((two || wide) || false)) && not wide ≡ two)
    go false false e = (refl, refl)
    go true false e = (refl, refl)
    go false true e = (refl, refl)
    go true true e = absurd (false≢true e)

-- ---- each kind of instruction
predicated_back : (p : PredicatedProduct) → in_range (Predicated p) ≡ true → guess_of (spelling (Predicated p)) ≡ Predicated p
unfolding spelling
predicated_back p h =
    let op = p.op in
    let f = predicated_range p h in
    let o = shaped op (every_all (ranges (Predicated p)) h).0 in
    let k = halves op in
    rw o.bytes
    (outer_back false op _ _ _ (named false op _)
    (first_operand (behind_name false) (tile_name (cond op.wide 8 4) p.tile) (tile_scan 0 op.wide p.tile (omega (arith, f)))
    (behind (predicate_name p.pn) (predicate_scan _ p.pn (omega (arith, f)))
    (behind (predicate_name p.pm) (predicate_scan _ p.pm (omega (arith, f)))
    (behind (vector_name (bytes_by k) p.zn.0) (vector_scan _ k p.zn.0 (omega (arith, f)))
    (behind (vector_name (bytes_by k) p.zm.0) (vector_scan _ k p.zm.0 (omega (arith, f)))
    none-behind)))))
    refl o.two_way_lem refl)

source_back : (r : Source) → source_of (is_pair r) (last_number r) ≡ r
source_back (One v) = refl
source_back (Pair v) = ap (λ (n : ℕ). Pair (record { 0 = n })) (omega arith)

quarter_back : (q : QuarterProduct) → in_range (Quarter q) ≡ true → guess_of (spelling (Quarter q)) ≡ Quarter q
unfolding spelling
quarter_back q h =
    let op = q.op in
    let f = quarter_range q h in
    let o = shaped op (every_all (ranges (Quarter q)) h).0 in
    let k = halves op in
    simp o.bytes
    (outer_back true op _ _ _ (named true op _)
    (first_operand (behind_name true) (tile_name (cond op.wide 8 4) q.tile) (tile_scan 4 op.wide q.tile (omega (arith, f)))
    (behind (source_name (bytes_by k) q.first) (source_scan _ k q.first (omega (arith, f)))
    (behind (source_name (bytes_by k) q.second) (source_scan _ k q.second (omega (arith, f)))
    none-behind)))
    refl o.two_way_lem refl
    ∙ rw (source_back q.first, source_back q.second))

-- ---- ZERO: every mask's line, computed
mask_back : (m : ℕ) → m < 256 → zero_mask (spelling (Zero m)) ≡ m
unfolding spelling names_of tiles_from
mask_back m h = eqb-true _ m (below (λ (m : ℕ). eqb (zero_mask (spelling (Zero m))) m) 256 m refl h)

zero_back : (m : ℕ) → in_range (Zero m) ≡ true → guess_of (spelling (Zero m)) ≡ Zero m
unfolding guess_of spelling
zero_back m h = ap Zero (mask_back m (ltb-true m 256 (every_all (ltb m 256 ∷ []) h).0))

-- the lines of document 01 lead to the same masks
pub old_back : (m : ℕ) → m < 256 → guess_of (old_line m) ≡ Zero m
unfolding guess_of tiles_from
old_back m h = ap Zero (eqb-true _ m (below (λ (m : ℕ). eqb (zero_mask (old_line m)) m) 256 m refl h))

-- ---- every instruction in range
pub guess_back : (i : Instruction) → in_range i ≡ true → guess_of (spelling i) ≡ i
guess_back (Predicated p) h = predicated_back p h
guess_back (Quarter q) h = quarter_back q h
guess_back (Zero m) h = zero_back m h
