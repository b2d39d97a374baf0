-- How long a line is: never empty, at most 47 bytes, and one is that long. Assumes nothing.
use mathlib.Core.Path.{◌≡◌, refl}
use mathlib.Core.Bool.{Bool, true, false, cond}
use mathlib.Core.List.{List, [], ◌∷◌, ◌++◌, map}
use Prim.Native.Nat.{ℕ, ◌+◌, ◌*◌, ◌≤◌, ◌<◌}
use native.Mathlib.Omega.{arith}
use lib.Dec.{eqb, ltb}
use lib.ListN.{length, length-append}
use borrow.Author.Tests.{lt-ltb, ltb-true}
use Rattle.isa.specs.Table.{element_bytes, source_bytes, ranges, in_range}
use Rattle.isa.specs.Answers.{describe}
use Rattle.isa.specs.declared.Operation.{Operation}
use Rattle.isa.specs.declared.Source.{Source}
use Rattle.isa.specs.declared.Source.TheVariants.{One, Pair}
use Rattle.isa.specs.declared.Instruction.{Instruction}
use Rattle.isa.specs.declared.Instruction.TheVariants.{Predicated, Quarter, Zero}
use Rattle.isa.proofs.Tests.{every_all}
use Rattle.isa.proofs.Lines.{predicated_range, quarter_range}
use Rattle.names.specs.declared.TileName.{TileName}
use Rattle.names.specs.Names.{names_of}
use Rattle.names.proofs.Theorems.{few_names}
use Rattle.text.specs.Ascii.{ascii}
use Rattle.text.specs.Spelling.{Text, decimal, mnemonic, suffix, tile_name, predicate_name, vector_name, source_name}
use Rattle.text.specs.Spelling.{name_text, further, braced, spelling}
use Rattle.text.specs.Printing.{text_of}
use Rattle.text.specs.Claims.{OfLength}

joined : {a b m n : ℕ} {s t : Text} → OfLength a m s → OfLength b n t → OfLength (a + b) (m + n) (s ++ t)
joined {s = s} {t = t} p q = record { low = omega (arith, length-append s t); high = omega (arith, length-append s t) }

either : {a m : ℕ} {s t : Text} (b : Bool) → OfLength a m s → OfLength a m t → OfLength a m (cond b s t)
either true p q = p
either false p q = q

within : {a b m n : ℕ} {t : Text} → OfLength a m t → b ≤ a → m ≤ n → OfLength b n t
within p h k = record { low = omega arith; high = omega arith }

decimal-between : (n : ℕ) → OfLength 1 2 (decimal n)
decimal-between n = either (ltb n 10) (record { low = omega arith; high = omega arith }) (record { low = omega arith; high = omega arith })

-- ---- the parts
literal : (t : Text) → OfLength (length t) (length t) t
literal t = record { low = omega arith; high = omega arith }

mnemonic-between : (stem : Text) (op : Operation) → length stem ≤ 4 → OfLength 2 7 (mnemonic stem op)
mnemonic-between stem op h =
    within
    (joined
    (joined
    (either op.u0
    (either op.u1 (within {b = 1} {n = 2} (literal (ascii "u")) (omega arith) (omega arith)) (within (literal (ascii "us")) (omega arith) (omega arith)))
    (either op.u1 (within (literal (ascii "su")) (omega arith) (omega arith)) (within (literal (ascii "s")) (omega arith) (omega arith))))
    (literal stem))
    (either op.subtract (literal (ascii "s")) (literal (ascii "a"))))
    (omega arith)
    (omega arith)

-- a register's name: what leads up to its number, the number, and a suffix of two bytes
name_between : {a m : ℕ} (lead mark : Text) (n : ℕ) → OfLength a m (decimal n) → length mark ≡ 2 → OfLength (length lead + a + 2) (length lead + m + 2) (lead ++ decimal n ++ mark)
name_between lead mark n d e = within (joined (joined (literal lead) d) (literal mark)) (omega arith) (omega arith)

suffix-length : (bytes : ℕ) → length (suffix bytes) ≡ 2
suffix-length bytes = go (eqb bytes 1) (eqb bytes 2) (eqb bytes 4)
  where
    go : (a b c : Bool) → length (cond a (ascii ".b") (cond b (ascii ".h") (cond c (ascii ".s") (ascii ".d")))) ≡ 2
    go true b c = refl
    go false true c = refl
    go false false true = refl
    go false false false = refl

tile_between : (bytes n : ℕ) → OfLength 5 6 (tile_name bytes (record { 0 = n }))
tile_between bytes n = name_between (ascii "za") (suffix bytes) n (decimal-between n) (suffix-length bytes)

-- an instruction's tile has a number of one digit
short_tile : (bytes n : ℕ) → n < 10 → OfLength 5 5 (tile_name bytes (record { 0 = n }))
short_tile bytes n h =
    let d : OfLength 1 1 (decimal n) = rw (lt-ltb n 10 h) (literal (_ ∷ [])) in
    name_between (ascii "za") (suffix bytes) n d (suffix-length bytes)

vector_between : (bytes n : ℕ) → OfLength 4 5 (vector_name bytes n)
vector_between bytes n = name_between (ascii "z") (suffix bytes) n (decimal-between n) (suffix-length bytes)

source-between : (bytes : ℕ) (s : Source) → OfLength 4 15 (source_name bytes s)
source-between bytes (One v) = within (vector_between bytes v.0) (omega arith) (omega arith)
source-between bytes (Pair v) =
    let name = vector_between bytes in
    within
    (joined (joined (joined (joined (literal (ascii "{ ")) (name v.0)) (literal (ascii "-"))) (name (v.0 + 1))) (literal (ascii " }")))
    (omega arith)
    (omega arith)

-- ---- ZERO's list: at most eight bytes for each name, and no comma before the first
name_short : (k : TileName) → OfLength 2 6 (name_text k)
name_short k = either (eqb k.bytes 1) (within (literal (ascii "za")) (omega arith) (omega arith)) (within (tile_between k.bytes k.tile.0) (omega arith) (omega arith))

further-names : (ks : List TileName) → length (further (map name_text ks)) ≤ 8 * length ks
further-names [] = omega arith
further-names (k ∷ ks) = omega (arith, length-append (ascii ", " ++ name_text k) (further (map name_text ks)), name_short k, further-names ks)

braced-between : (ts : List Text) → length (further ts) ≤ 32 → OfLength 2 34 (braced ts)
braced-between [] h = within (literal (ascii "{}")) (omega arith) (omega arith)
braced-between (t ∷ ts) h =
    let l = length-append (ascii ", " ++ t) (further ts) in
    let r = length-append (ascii "{ " ++ (t ++ further ts)) (ascii " }") in
    let s = length-append t (further ts) in
    record { low = omega arith; high = omega arith }

predicate_between : (n : ℕ) → OfLength 4 5 (predicate_name (record { 0 = n }))
predicate_between n = name_between (ascii "p") (ascii "/m") n (decimal-between n) refl

-- one operand more
more : {a b m n : ℕ} {t rest : Text} → OfLength a m t → OfLength b n rest → OfLength (2 + a + b) (2 + m + n) (ascii ", " ++ t ++ rest)
more p q = joined (joined (literal (ascii ", ")) p) q

-- a mnemonic, a space and operands
line : {a b m n : ℕ} {s t : Text} → OfLength a m s → OfLength b n t → m + 1 + n ≤ 47 → OfLength 1 47 (s ++ ascii " " ++ t)
line p q h = within (joined (joined p (literal (ascii " "))) q) (omega arith) (omega arith)

-- no line is empty, and none of a description in range is longer than 47 bytes
pub line-between : (i : Instruction) → in_range i ≡ true → OfLength 1 47 (spelling i)
unfolding spelling
line-between (Predicated p) h =
    let op = p.op in
    let v = vector_between (source_bytes op) in
    let operands = more (predicate_between p.pn.0) (more (predicate_between p.pm.0) (more (v p.zn.0) (more (v p.zm.0) (literal [])))) in
    let t = short_tile (element_bytes op) p.tile.0 (omega (arith, predicated_range p h)) in
    line (mnemonic-between (ascii "mop") op (omega arith)) (joined t operands) (omega arith)
line-between (Quarter q) h =
    let op = q.op in
    let s = source-between (source_bytes op) in
    let operands = more (s q.first) (more (s q.second) (literal [])) in
    let t = short_tile (element_bytes op) q.tile.0 (omega (arith, quarter_range q h)) in
    line (mnemonic-between (ascii "mop4") op (omega arith)) (joined t operands) (omega arith)
line-between (Zero m) h =
    let f = few_names m (ltb-true m 256 (every_all (ranges (Zero m)) h).0) in
    within
    (joined (literal (ascii "zero ")) (braced-between (map name_text (names_of m)) (omega (arith, f, further-names (names_of m)))))
    (omega arith)
    (omega arith)

-- one is 47 bytes long
pub longest_line_lem : length (text_of 0x811E8352) ≡ 47
unfolding text_of describe spelling
longest_line_lem = refl
