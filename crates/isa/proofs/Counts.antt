-- How many words decode accepts: a row has as many words as its fields have values, lines that are apart have no word in
-- common, and a word of a line is accepted where the line lacks no feature. Assumes nothing.
use mathlib.Core.Path.{◌≡◌, ◌∙◌, sym, ap, ap₂, refl}
use mathlib.Core.Bool.{Bool, true, false, cond, ◌&&◌, ◌||◌}
use mathlib.Core.List.Memᴰ
use mathlib.Core.List.{List, [], ◌∷◌, Memᴰ}
use Prim.Native.Nat.{ℕ, zero, suc, ◌+◌, ◌*◌, ◌^◌, ◌≤◌, ◌<◌}
use native.Mathlib.Decide.{ℕ_discrete}
use native.Mathlib.Nat.{zero-mul, suc-mul, add-zero, add-suc, add-mul}
use native.Mathlib.Omega.{arith}
use lib.Dec.{eqb, lit≤}
use lib.Pow.{pow-add}
use borrow.Author.Tests.{eq-eqb, ne_eqb, eqb-true, ltb-true}
use Rattle.std.specs.Prelude.{Err, Ok}
use Rattle.isa.specs.Refusals.{number_in}
use Rattle.isa.specs.Row.{fixed, field, Row, size, matches}
use Rattle.isa.specs.Table.{bit, Entry, all_flags, lacking, base_table, table}
use Rattle.isa.specs.Counts.{count_below, is_accepted, is_of, is_accepted_of, Counted, free_bits, words_of}
use Rattle.isa.specs.declared.Instruction.{Instruction}
use Rattle.isa.specs.declared.Refusal.TheVariants.{FeatureOff}
use Rattle.isa.proofs.Tests.{every_all}
use Rattle.isa.proofs.Rows.{Sound, top, matches_below, both}
use Rattle.isa.proofs.Lines.{line_sound}
use Rattle.isa.proofs.Lookup.{apartness, RowsApart, table_apart, others, lookup_found}
use Rattle.isa.proofs.Answers.{decode_listed}
use Rattle.isa.proofs.Theorems.{decodes}

-- ---- counting

count_cong : (n : ℕ) (s t : ℕ → Bool) → ((w : ℕ) → w < n → s w ≡ t w) → count_below n s ≡ count_below n t
unfolding count_below
count_cong zero s t h = refl
count_cong (suc n) s t h = ap₂ (λ (a : ℕ) (b : Bool). a + bit b) (count_cong n s t (λ w l. h w (omega arith))) (h n (omega arith))

count_all : (n : ℕ) → count_below n (λ w. true) ≡ n
unfolding count_below
count_all zero = refl
count_all (suc n) = rw (count_all n) (omega arith)

count_none : (n : ℕ) → count_below n (λ w. false) ≡ 0
unfolding count_below
count_none zero = refl
count_none (suc n) = rw (count_none n)

-- one number below n is v
count_one : (n v : ℕ) → v < n → count_below n (λ w. eqb w v) ≡ 1
unfolding count_below
count_one zero v h = elim h [ ]
count_one (suc n) v h = go (ℕ_discrete n v) (count_one n v)
  where
    go : Dec (n ≡ v) → (v < n → count_below n (λ w. eqb w v) ≡ 1) → count_below n (λ w. eqb w v) + bit (eqb n v) ≡ 1
    go (yes e) rest =
        rw (eq-eqb n v e, count_cong n (λ w. eqb w v) (λ w. false) (λ w l. ne_eqb w v (λ q. omega arith)), count_none n)
    go (no d) rest = rw (ne_eqb n v d, rest (omega arith))

count_and : (n : ℕ) (b : Bool) (t : ℕ → Bool) → count_below n (λ w. b && t w) ≡ bit b * count_below n t
count_and n true t = omega arith
count_and n false t = count_none n ∙ sym (zero-mul (count_below n t))

-- two tests that no number passes both
count_or : (n : ℕ) (s t : ℕ → Bool) → ((w : ℕ) → s w ≡ true → t w ≡ false) → count_below n (λ w. s w || t w) ≡ count_below n s + count_below n t
unfolding count_below
count_or zero s t h = refl
count_or (suc n) s t h = go (s n) (t n) (h n) (count_or n s t h)
  where
    go : (a b : Bool) → (a ≡ true → b ≡ false) → count_below n (λ w. s w || t w) ≡ count_below n s + count_below n t
        → count_below n (λ w. s w || t w) + bit (a || b) ≡ (count_below n s + bit a) + (count_below n t + bit b)
    go true b k e = rw (k refl, e) (omega arith)
    go false b k e = rw e (omega arith)

count_add : (a b : ℕ) (t : ℕ → Bool) → count_below (a + b) t ≡ count_below a t + count_below b (λ w. t (a + w))
unfolding count_below
count_add a zero t = rw (add-zero a) (omega arith)
count_add a (suc b) t = rw (add-suc a b, count_add a b t) (omega arith)

-- numbers of two digits, the lower one below m: a test of each
module _ (m : ℕ) (f g t : ℕ → Bool) where
  count_digits : (a : ℕ) → ((h lo : ℕ) → h < a → lo < m → t (h * m + lo) ≡ f h && g lo) → count_below (a * m) t ≡ count_below a f * count_below m g
  unfolding count_below
  count_digits zero c = rw (zero-mul m) (omega arith)
  count_digits (suc a) c =
      rw (
        suc-mul a m,
        count_add (a * m) m t,
        count_digits a (λ h lo k l. c h lo (omega arith) l),
        count_cong m (λ w. t (a * m + w)) (λ w. f a && g w) (λ w l. c a w (omega arith) l),
        count_and m (f a) g,
      )
      (sym (add-mul (count_below a f) (bit (f a)) (count_below m g)))

-- ---- the words of a row, and of lines
row_count : (r : Row) → Sound r → count_below (2 ^ size r) (matches r) ≡ 2 ^ free_bits r
row_count [] s = count_all 1
row_count (fixed k v ∷ r) s =
    rw (pow-add 2 k (size r))
    (count_digits (2 ^ size r) (λ h. eqb h v) (matches r) (matches (fixed k v ∷ r)) (2 ^ k)
    (λ h lo p q. ap₂ (λ (x : ℕ) (b : Bool). eqb x v && b) (top h (size r) k p q) (matches_below r h q))
    ∙ rw (count_one (2 ^ k) v (ltb-true _ _ s.0), row_count r s.1) (omega arith))
row_count (field n k ∷ r) s =
    rw (pow-add 2 k (size r), pow-add 2 k (free_bits r))
    (count_digits (2 ^ size r) (λ h. true) (matches r) (matches (field n k ∷ r)) (2 ^ k) (λ h lo p q. matches_below r h q)
    ∙ rw (count_all (2 ^ k), row_count r s.1))

module _ (flags : ℕ) where
  -- the line lacks no feature
  abbrev open? : Entry → Bool
  open? e = eqb (lacking flags e.needs) 0

  abbrev is_open : List Entry → ℕ → Bool
  is_open [] w = false
  is_open (e ∷ es) w = (open? e && matches e.row w) || is_open es w

  -- the lines are some of the table's
  abbrev Some : List Entry → Type 0
  Some es = (e : Entry) → Memᴰ e es → Memᴰ e table

  none_open : (es : List Entry) (w : ℕ) → ((x : Entry) → Memᴰ x es → matches x.row w ≡ false) → is_open es w ≡ false
  none_open [] w h = refl
  none_open (e ∷ es) w h = go (open? e) (h e (Memᴰ.head refl)) (none_open es w (λ x m. h x (Memᴰ.tail m)))
    where
      go : (b : Bool) → matches e.row w ≡ false → is_open es w ≡ false → (b && matches e.row w) || is_open es w ≡ false
      go true p q = rw (p, q)
      go false p q = q

  line_count : (e : Entry) → Memᴰ e table → count_below (2 ^ 32) (λ w. open? e && matches e.row w) ≡ cond (open? e) (2 ^ free_bits e.row) 0
  line_count e m =
      let (n, s) = line_sound m in
      count_and (2 ^ 32) (open? e) (matches e.row) ∙ ap (λ (k : ℕ). bit (open? e) * k) (rw n at (row_count e.row s))
      ∙ go (open? e) (2 ^ free_bits e.row)
    where
      go : (b : Bool) (k : ℕ) → bit b * k ≡ cond b k 0
      go true k = omega arith
      go false k = omega arith

  lines_count : (es : List Entry) → Some es → RowsApart es → count_below (2 ^ 32) (is_open es) ≡ words_of flags es
  lines_count [] i a = count_none (2 ^ 32)
  lines_count (e ∷ es) i a =
      count_or (2 ^ 32) (λ w. open? e && matches e.row w) (is_open es)
      (λ w h. none_open es w (λ x m. others e x es w a m (both (open? e) (matches e.row w) h).1))
      ∙ ap₂ ◌+◌ (line_count e (i e (Memᴰ.head refl))) (lines_count es (λ x m. i x (Memᴰ.tail m)) a.1)

  -- ---- decode accepts the words of open lines
  module _ (legal : flags ≤ all_flags) where
    accepted-line : (e : Entry) (w : ℕ) → Memᴰ e table → matches e.row w ≡ true → is_accepted flags w ≡ open? e
    accepted-line e w m h =
        ap (λ d. eqb (number_in d) 0) (decode_listed flags w e legal (lookup_found w m h)) ∙ go (open? e) _ _
      where
        go : (b : Bool) (i : Instruction) (sum : ℕ) → eqb (number_in (cond b (Ok i) (Err (FeatureOff sum)))) 0 ≡ b
        go true i sum = refl
        go false i sum = refl

    accepted_open : (es : List Entry) → Some es → (w : ℕ) → is_accepted_of es flags w ≡ is_open es w
    accepted_open [] i w = nothing (is_accepted flags w)
      where
        nothing : (b : Bool) → b && false ≡ false
        nothing true = refl
        nothing false = refl
    accepted_open (e ∷ es) i w =
        go (matches e.row w) (is_accepted flags w) (open? e) (accepted-line e w (i e (Memᴰ.head refl)))
        (accepted_open es (λ x m. i x (Memᴰ.tail m)) w)
      where
        go : (m a o : Bool) → (m ≡ true → a ≡ o) → a && is_of es w ≡ is_open es w → a && (m || is_of es w) ≡ (o && m) || is_open es w
        go true true o p q = rw (sym (p refl))
        go true false o p q = rw (sym (p refl), ← q)
        go false a true p q = q
        go false a false p q = q

    -- so many words below 2^32 are accepted of these lines
    pub words_counted : (es : List Entry) → Some es → RowsApart es → count_below (2 ^ 32) (is_accepted_of es flags) ≡ words_of flags es
    words_counted es i a =
        count_cong (2 ^ 32) (is_accepted_of es flags) (is_open es) (λ w l. accepted_open es i w) ∙ lines_count es i a

-- an accepted word is of some line
listed_of : (es : List Entry) {e : Entry} (w : ℕ) → Memᴰ e es → matches e.row w ≡ true → is_of es w ≡ true
listed_of [] w m h = elim m [ ]
listed_of (x ∷ es) w (Memᴰ.head p) h = rw (← p, h)
listed_of (x ∷ es) w (Memᴰ.tail m) h = go (matches x.row w) (listed_of es w m h)
  where
    go : (b : Bool) → is_of es w ≡ true → b || is_of es w ≡ true
    go true p = refl
    go false p = p

accepted_of : (flags w : ℕ) → is_accepted flags w ≡ is_accepted_of table flags w
accepted_of flags w = go (is_accepted flags w) refl
  where
    go : (b : Bool) → is_accepted flags w ≡ b → b ≡ b && is_of table w
    go true p = let (e, m, h) = ((decodes flags w).accepts.0 (eqb-true _ 0 p)).1 in sym (listed_of table w m h)
    go false p = refl

in_base : (e : Entry) → Memᴰ e base_table → Memᴰ e table
in_base e m = Memᴰ.append_left _ m

all_counted : (flags : ℕ) → flags ≤ all_flags → count_below (2 ^ 32) (is_accepted flags) ≡ words_of flags table
all_counted flags h =
    count_cong (2 ^ 32) (is_accepted flags) (is_accepted_of table flags) (λ w l. accepted_of flags w)
    ∙ words_counted flags h table (λ e m. m) table_apart

pub counted : Counted
counted =
    record {
      by_rows = all_counted;
      of_base = words_counted 7 (lit≤ tt) base_table in_base (every_all (apartness base_table) refl);
      of_all = all_counted 15 (lit≤ tt);
    }
