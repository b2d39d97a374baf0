-- A word's line: no word matches two lines of the table, so the line that a word matches is the one that is found.
-- Assumes nothing.
use mathlib.Core.Path.{◌≡◌, ◌∙◌, sym, refl}
use mathlib.Core.Bool.{Bool, true, false, false≢true, cond}
use mathlib.Core.List.{List, [], ◌∷◌, Memᴰ}
use mathlib.Core.Option.{Option, none, some}
use Prim.Native.Nat.{ℕ, ◌+◌, ◌/◌, ◌%◌, ◌^◌, ◌≤◌}
use native.Mathlib.Omega.{arith}
use lib.Dec.{eqb}
use lib.ListN.{length}
use native.Mathlib.Nat.{mod-one}
use lib.Pow.{mod-pow-add, shr-shr}
use borrow.Author.Tests.{eqb-true}
use Rattle.isa.specs.Row.{Row, every, tests, matches}
use Rattle.isa.specs.Table.{Entry, table}
use Rattle.isa.specs.Answers.{lookup}
use Rattle.isa.specs.Claims.{lines_of, OneLine}
use Rattle.isa.proofs.Tests.{All, every_all}
use Rattle.isa.proofs.Rows.{fixed_bit, fixed_bit_lem, apart, apart_none}
use Rattle.isa.proofs.Lines.{checked, at-line}

-- each line is apart from every line behind it
abbrev pub apartness : List Entry → List Bool
apartness [] = []
apartness (e ∷ es) = every (checked (λ x. apart e.row x.row) es) ∷ apartness es

abbrev pub RowsApart : List Entry → Type 0
RowsApart es = All (apartness es)

pub table_apart : RowsApart table
table_apart = every_all (apartness table) refl

-- a word of the first line matches none of the others
pub others : (e x : Entry) (es : List Entry) (w : ℕ) → RowsApart (e ∷ es) → Memᴰ x es → matches e.row w ≡ true → matches x.row w ≡ false
others e x es w a m h =
    let test : Entry → Bool = λ y. apart e.row y.row in
    apart_none e.row x.row w (at-line test es (every_all (checked test es) a.0) m) h

-- a line that the word matches is the one that is found
found : (es : List Entry) (e : Entry) (w : ℕ) → RowsApart es → Memᴰ e es → matches e.row w ≡ true → lookup es w ≡ some e
found [] e w a m h = elim m [ ]
found (x ∷ es) e w a (Memᴰ.head p) h = rw (← p, h)
found (x ∷ es) e w a (Memᴰ.tail m) h = go (matches x.row w) refl (found es e w a.1 m h)
  where
    go : (b : Bool) → matches x.row w ≡ b → lookup es w ≡ some e → cond b (some x) (lookup es w) ≡ some e
    go true q r = let z : true ≡ false = sym h ∙ others x e es w a m q in cc
    go false q r = r

pub lookup_found : {e : Entry} (w : ℕ) → Memᴰ e table → matches e.row w ≡ true → lookup table w ≡ some e
lookup_found {e} w m h = found table e w table_apart m h

-- what is found is a line that the word matches
pub lookup-some : (es : List Entry) (e : Entry) (w : ℕ) → lookup es w ≡ some e → Memᴰ e es × (matches e.row w ≡ true)
lookup-some [] e w p = let z : ◌≡◌ {A = ℕ} 0 1 = cc in absurd (omega arith)
lookup-some (x ∷ es) e w p = go (matches x.row w) refl p (lookup-some es e w)
  where
    go : (b : Bool) → matches x.row w ≡ b → cond b (some x) (lookup es w) ≡ some e
        → (lookup es w ≡ some e → Memᴰ e es × (matches e.row w ≡ true)) → Memᴰ e (x ∷ es) × (matches e.row w ≡ true)
    go true q r f = let z : x ≡ e = cc in (Memᴰ.head (sym z), rw (sym z) q)
    go false q r f = let (m, h) = f r in (Memᴰ.tail m, h)

-- where nothing is found the word matches no line
pub lookup-none : {e : Entry} (w : ℕ) → lookup table w ≡ none → Memᴰ e table → matches e.row w ≡ true → ⊥
lookup-none w p m h = let q = lookup_found w m h in let z : ◌≡◌ {A = ℕ} 0 1 = cc in omega arith

-- ---- bits 25 to 28 are 0 in every line
abbrev zero? : Option ℕ → Bool
zero? none = false
zero? (some x) = eqb x 0

zero_bit : (r : Row) (w b : ℕ) → All (tests r w) → zero? (fixed_bit r b) ≡ true → w / 2 ^ b % 2 ≡ 0
zero_bit r w b t h = go (fixed_bit r b) refl h
  where
    go : (o : Option ℕ) → fixed_bit r b ≡ o → zero? o ≡ true → w / 2 ^ b % 2 ≡ 0
    go none e z = absurd (false≢true z)
    go (some x) e z = fixed_bit_lem r w b x t e ∙ eqb-true x 0 z

-- one bit more
clear_above : (x k : ℕ) → x / 2 ^ k % 2 ≡ 0 → x % 2 ^ k ≡ 0 → x % 2 ^ (1 + k) ≡ 0
clear_above x k h l = mod-pow-add x 1 k ∙ rw (h, l) (omega arith)

abbrev clear_tests : Entry → List Bool
clear_tests e = let r = e.row in zero? (fixed_bit r 25) ∷ zero? (fixed_bit r 26) ∷ zero? (fixed_bit r 27) ∷ zero? (fixed_bit r 28) ∷ []

abbrev clear? : Entry → Bool
clear? e = every (clear_tests e)

table-clear : every (checked clear? table) ≡ true
table-clear = refl

pub lookup-clear : (w : ℕ) → (w / 2 ^ 25 % 16 ≡ 0 → ⊥) → lookup table w ≡ none
lookup-clear w d = go (lookup table w) refl
  where
    go : (o : Option Entry) → lookup table w ≡ o → lookup table w ≡ none
    go none p = p
    go (some e) p =
        let (m, h) = lookup-some table e w p in
        let t = every_all (tests e.row w) h in
        let c = every_all (clear_tests e) (at-line clear? table (every_all (checked clear? table) table-clear) m) in
        let bit : (k : ℕ) → zero? (fixed_bit e.row (25 + k)) ≡ true → w / 2 ^ 25 / 2 ^ k % 2 ≡ 0 = λ k z. rw (shr-shr w 25 k) (zero_bit e.row w (25 + k) t z) in
        let x = w / 2 ^ 25 in
        absurd
        (d
        (clear_above x 3 (bit 3 c.1.1.1.0)
        (clear_above x 2 (bit 2 c.1.1.0) (clear_above x 1 (bit 1 c.1.0) (clear_above x 0 (bit 0 c.0) (mod-one x))))))

-- ---- at most one line
no_lines : (es : List Entry) (w : ℕ) → ((x : Entry) → Memᴰ x es → matches x.row w ≡ false) → length (lines_of es w) ≤ 0
no_lines [] w h = omega arith
no_lines (e ∷ es) w h = rw (h e (Memᴰ.head refl)) (no_lines es w (λ x m. h x (Memᴰ.tail m)))

one_of : (es : List Entry) (w : ℕ) → RowsApart es → length (lines_of es w) ≤ 1
one_of [] w a = omega arith
one_of (e ∷ es) w a = go (matches e.row w) refl (one_of es w a.1)
  where
    go : (b : Bool) → matches e.row w ≡ b → length (lines_of es w) ≤ 1 → length (cond b (e ∷ lines_of es w) (lines_of es w)) ≤ 1
    go true q r = omega (arith, no_lines es w (λ x m. others e x es w a m q))
    go false q r = r

-- no word matches two lines
pub one_line : (w : ℕ) → OneLine w
one_line w = one_of table w table_apart
