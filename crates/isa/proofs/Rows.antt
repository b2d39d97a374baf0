-- The laws of rows, for every row: fields that fit come back from their word, a word that matches is the word of its
-- fields, and rows that differ in a fixed bit have no word in common. Assumes nothing.
use mathlib.Core.Path.{◌≡◌, ◌∙◌, sym, ap, ap₂, refl, subst, fun_ext}
use mathlib.Core.Bool.{Bool, true, false, not, cond, ◌&&◌, ◌||◌}
use mathlib.Core.Logic.{◌⊎◌, inl, inr, ⊎_elim}
use mathlib.Core.List.{List, [], ◌∷◌, ◌++◌}
use mathlib.Core.Option.{Option, none, some}
use Prim.Native.Nat.{ℕ, zero, suc, ◌+◌, ◌-◌, ◌*◌, ◌/◌, ◌%◌, ◌^◌, ◌<◌}
use native.Mathlib.Nat.{mod-mod, mod-one, mod-lt, mod-eq_of_lt}
use native.Mathlib.Omega.{arith}
use lib.Dec.{eqb, ltb, leb}
use borrow.Author.Tests.{eq-eqb, eqb-true, eqb-false, ltb-true, leb-true, not-true}
use lib.Arith.{digits_lt}
use lib.Pow.{pow_pos, pow-add, high, low, mod-mod-pow, mod-pow-add, shr-shr}
use lib.Pow.{field as field_either_way}
use Rattle.isa.specs.Row.{Name, index, same, fixed, field, Row, Fields, size, bits, word_of, field_of, every, tests, matches}
use Rattle.isa.proofs.Tests.{All, every_all, all_every}

-- ---- what is asked of a row and of values for its fields

-- something holds of each field, by its name and its width
abbrev pub Over : (Name → ℕ → Type 0) → Row → Type 0
Over P [] = Unit {0}
Over P (fixed k v ∷ r) = Over P r
Over P (field n k ∷ r) = P n k × Over P r

-- each value is within its field's width
abbrev pub Within : Fields → Name → ℕ → Type 0
Within f n k = f n < 2 ^ k

abbrev pub Fit : Row → Fields → Type 0
Fit r f = Over (Within f) r

-- f and g give each field of the row the same value
abbrev pub Alike : Fields → Fields → Name → ℕ → Type 0
Alike f g n k = f n ≡ g n

abbrev pub Agree : Row → Fields → Fields → Type 0
Agree r f g = Over (Alike f g) r

abbrev pub fresh : Name → Row → List Bool
fresh n [] = []
fresh n (fixed k v ∷ r) = fresh n r
fresh n (field m k ∷ r) = not (same n m) ∷ fresh n r

-- each pattern is within its width, and no name stands twice
abbrev pub soundness : Row → List Bool
soundness [] = []
soundness (fixed k v ∷ r) = ltb v (2 ^ k) ∷ soundness r
soundness (field n k ∷ r) = every (fresh n r) ∷ soundness r

abbrev pub Sound : Row → Type 0
Sound r = All (soundness r)

-- ---- agreement
agree_refl : (r : Row) (f : Fields) → Agree r f f
agree_refl [] f = tt
agree_refl (fixed k v ∷ r) f = agree_refl r f
agree_refl (field n k ∷ r) f = (refl, agree_refl r f)

pub agree_word : (r : Row) (f g : Fields) → Agree r f g → word_of r f ≡ word_of r g
agree_word [] f g a = refl
agree_word (fixed k v ∷ r) f g a = ap (λ (n : ℕ). v * 2 ^ size r + n) (agree_word r f g a)
agree_word (field n k ∷ r) f g a = ap₂ (λ (x y : ℕ). x * 2 ^ size r + y) a.0 (agree_word r f g a.1)

agree_fit : (r : Row) (f g : Fields) → Agree r f g → Fit r g → Fit r f
agree_fit [] f g a t = tt
agree_fit (fixed k v ∷ r) f g a t = agree_fit r f g a t
agree_fit (field n k ∷ r) f g a t = (rw a.0 t.0, agree_fit r f g a.1 t.1)

-- f, but for the name m
abbrev except : Name → ℕ → Fields → Fields
except m x f n = cond (same m n) x (f n)

-- a value for a name that the row lacks makes no difference
agree_except : (m : Name) (x : ℕ) (r : Row) (f g : Fields) → every (fresh m r) ≡ true → Agree r f g → Agree r (except m x f) g
agree_except m x r f g d = go r (every_all (fresh m r) d)
  where
    go : (r : Row) → All (fresh m r) → Agree r f g → Agree r (except m x f) g
    go [] d a = tt
    go (fixed k v ∷ r) d a = go r d a
    go (field n k ∷ r) d a = (rw (not-true (same m n) d.0) a.0, go r d.1 a.1)

-- so do values that differ for it alone
pub agree_but : (m : Name) (f g : Fields) → ((n : Name) → same m n ≡ false → f n ≡ g n) → (r : Row) → All (fresh m r) → Agree r f g
agree_but m f g h [] d = tt
agree_but m f g h (fixed k v ∷ r) d = agree_but m f g h r d
agree_but m f g h (field n k ∷ r) d = (h n (not-true (same m n) d.0), agree_but m f g h r d.1)

-- fixed bits ask nothing of values
abbrev pub unfixed : Row → Row
unfixed [] = []
unfixed (fixed k v ∷ r) = unfixed r
unfixed (field n k ∷ r) = field n k ∷ unfixed r

module _ (P : Name → ℕ → Type 0) where
  pub over_unfixed : (r : Row) → Over P (unfixed r) ≡ Over P r
  over_unfixed [] = refl
  over_unfixed (fixed k v ∷ r) = over_unfixed r
  over_unfixed (field n k ∷ r) = ap (λ (T : Type 0). P n k × T) (over_unfixed r)

  -- rows one after the other
  pub over_split : (r q : Row) → Over P (r ++ q) → Over P r × Over P q
  over_split [] q t = (tt, t)
  over_split (fixed k v ∷ r) q t = over_split r q t
  over_split (field n k ∷ r) q t = let (a, b) = over_split r q t.1 in ((t.0, a), b)

  pub over_join : (r q : Row) → Over P r → Over P q → Over P (r ++ q)
  over_join [] q a b = b
  over_join (fixed k v ∷ r) q a b = over_join r q a b
  over_join (field n k ∷ r) q a b = (a.0, over_join r q a.1 b)

same_refl : (n : Name) → same n n ≡ true
same_refl n = eq-eqb (index n) (index n) refl

-- ---- what stands above a row's bits does not count
bits_mod : (s k w : ℕ) → bits s k (w % 2 ^ (k + s)) ≡ bits s k w
bits_mod s k w = rw (field_either_way w k s, mod-mod)

-- a reading of words by a row that looks at the row's bits alone; a segment above them changes nothing
module _ {A : Type 0} (r : Row) (read : ℕ → A) (low_bits : (w : ℕ) → read (w % 2 ^ size r) ≡ read w) where
  above : (k w : ℕ) → read (w % 2 ^ (k + size r)) ≡ read w
  above k w = sym (low_bits (w % 2 ^ (k + size r))) ∙ ap read (mod-mod-pow w k (size r)) ∙ low_bits w

  below : (h : ℕ) {lo : ℕ} → lo < 2 ^ size r → read (h * 2 ^ size r + lo) ≡ read lo
  below h {lo} q = sym (low_bits (h * 2 ^ size r + lo)) ∙ ap read (low h (size r) q)

fields_mod : (r : Row) (w : ℕ) → field_of r (w % 2 ^ size r) ≡ field_of r w
fields_mod [] w = refl
fields_mod (fixed k v ∷ r) w = above r (field_of r) (fields_mod r) k w
fields_mod (field m k ∷ r) w =
    fun_ext (λ n. ap₂ (cond (same m n)) (bits_mod (size r) k w) (ap (λ (f : Fields). f n) (above r (field_of r) (fields_mod r) k w)))

tests_mod : (r : Row) (w : ℕ) → tests r (w % 2 ^ size r) ≡ tests r w
tests_mod [] w = refl
tests_mod (fixed k v ∷ r) w = ap₂ (λ (n : ℕ) (ts : List Bool). eqb n v ∷ ts) (bits_mod (size r) k w) (above r (tests r) (tests_mod r) k w)
tests_mod (field n k ∷ r) w = above r (tests r) (tests_mod r) k w

fields_below : (r : Row) (h : ℕ) {lo : ℕ} → lo < 2 ^ size r → field_of r (h * 2 ^ size r + lo) ≡ field_of r lo
fields_below r = below r (field_of r) (fields_mod r)

pub matches_below : (r : Row) (h : ℕ) {lo : ℕ} → lo < 2 ^ size r → matches r (h * 2 ^ size r + lo) ≡ matches r lo
matches_below r h q = ap every (below r (tests r) (tests_mod r) h q)

tests_below : (r : Row) (h : ℕ) {lo : ℕ} → lo < 2 ^ size r → All (tests r lo) → All (tests r (h * 2 ^ size r + lo))
tests_below r h q t = subst All (sym (below r (tests r) (tests_mod r) h q)) t

-- ---- the word of rows one after the other
size-++ : (r q : Row) → size (r ++ q) ≡ size r + size q
size-++ [] q = omega arith
size-++ (fixed k v ∷ r) q = omega (arith, size-++ r q)
size-++ (field n k ∷ r) q = omega (arith, size-++ r q)

pub word-++ : (r q : Row) (f : Fields) → word_of (r ++ q) f ≡ word_of r f * 2 ^ size q + word_of q f
word-++ [] q f = omega arith
word-++ (fixed k v ∷ r) q f = rw (size-++ r q, pow-add 2 (size r) (size q), word-++ r q f) (omega arith)
word-++ (field n k ∷ r) q f = rw (size-++ r q, pow-add 2 (size r) (size q), word-++ r q f) (omega arith)

-- ---- the word of fields that fit
pub word_lt : (r : Row) (f : Fields) → Sound r → Fit r f → word_of r f < 2 ^ size r
word_lt [] f s t = omega arith
word_lt (fixed k v ∷ r) f s t = rw (pow-add 2 k (size r)) (digits_lt (ltb-true _ _ s.0) (word_lt r f s.1 t))
word_lt (field n k ∷ r) f s t = rw (pow-add 2 k (size r)) (digits_lt t.0 (word_lt r f s.1 t.1))

-- the top segment of a word
pub top : (h s k : ℕ) {lo : ℕ} → h < 2 ^ k → lo < 2 ^ s → bits s k (h * 2 ^ s + lo) ≡ h
top h s k p q = rw (high h s q) (mod-eq_of_lt p)

pub fields_back : (r : Row) (f : Fields) → Sound r → Fit r f → Agree r (field_of r (word_of r f)) f
fields_back [] f s t = tt
fields_back (fixed k v ∷ r) f s t = subst (λ (g : Fields). Agree r g f) (sym (fields_below r v (word_lt r f s.1 t))) (fields_back r f s.1 t)
fields_back (field m k ∷ r) f s t =
    let q = word_lt r f s.1 t.1 in (
      rw (same_refl m) (top (f m) (size r) k t.0 q),
      agree_except m _ r (field_of r (word_of (field m k ∷ r) f)) f s.0 (rw (fields_below r (f m) q) (fields_back r f s.1 t.1)),
    )

word-tests : (r : Row) (f : Fields) → Sound r → Fit r f → All (tests r (word_of r f))
word-tests [] f s t = tt
word-tests (fixed k v ∷ r) f s t =
    let q = word_lt r f s.1 t in
    (eq-eqb _ v (top v (size r) k (ltb-true _ _ s.0) q), tests_below r v q (word-tests r f s.1 t))
word-tests (field n k ∷ r) f s t = tests_below r (f n) (word_lt r f s.1 t.1) (word-tests r f s.1 t.1)

pub word-matches : (r : Row) (f : Fields) → Sound r → Fit r f → matches r (word_of r f) ≡ true
word-matches r f s t = all_every (tests r (word_of r f)) (word-tests r f s t)

-- ---- a word that matches
fields_rest : (m : Name) (k : ℕ) (r : Row) (w : ℕ) → every (fresh m r) ≡ true → Agree r (field_of (field m k ∷ r) w) (field_of r w)
fields_rest m k r w d = agree_except m (bits (size r) k w) r (field_of r w) (field_of r w) d (agree_refl r (field_of r w))

pub fields_fit : (r : Row) (w : ℕ) → Sound r → Fit r (field_of r w)
fields_fit [] w s = tt
fields_fit (fixed k v ∷ r) w s = fields_fit r w s.1
fields_fit (field m k ∷ r) w s = (
  rw (same_refl m) (mod-lt (w / 2 ^ size r) (pow_pos k)),
  agree_fit r (field_of (field m k ∷ r) w) (field_of r w) (fields_rest m k r w s.0) (fields_fit r w s.1),
)

word_back : (r : Row) (w : ℕ) → Sound r → All (tests r w) → word_of r (field_of r w) ≡ w % 2 ^ size r
word_back [] w s t = sym (mod-one w)
word_back (fixed k v ∷ r) w s t = rw (mod-pow-add w k (size r), eqb-true _ v t.0, word_back r w s.1 t.1)
word_back (field m k ∷ r) w s t =
    rw (same_refl m, mod-pow-add w k (size r))
    (ap (λ (n : ℕ). bits (size r) k w * 2 ^ size r + n)
    (agree_word r (field_of (field m k ∷ r) w) (field_of r w) (fields_rest m k r w s.0) ∙ word_back r w s.1 t))

pub word_is : (r : Row) (w : ℕ) → Sound r → w < 2 ^ size r → matches r w ≡ true → word_of r (field_of r w) ≡ w
word_is r w s h m = word_back r w s (every_all (tests r w) m) ∙ mod-eq_of_lt h

-- ---- two rows that differ in a fixed bit

-- bit b of the words that match a row, where the row fixes it
abbrev pub fixed_bit : Row → ℕ → Option ℕ
fixed_bit [] b = none
fixed_bit (fixed k v ∷ r) b = cond (leb (size r) b && ltb b (k + size r)) (some (v / 2 ^ (b - size r) % 2)) (fixed_bit r b)
fixed_bit (field n k ∷ r) b = fixed_bit r b

abbrev differ : Option ℕ → Option ℕ → Bool
differ none y = false
differ (some x) none = false
differ (some x) (some y) = not (eqb x y)

-- the rows differ in a bit below b
abbrev differ_below : ℕ → Row → Row → Bool
differ_below zero r q = false
differ_below (suc b) r q = differ (fixed_bit r b) (fixed_bit q b) || differ_below b r q

abbrev pub apart : Row → Row → Bool
apart r q = differ_below (size r) r q

-- bit j of the lowest k bits
low_bit : (x k j : ℕ) → j < k → x % 2 ^ k / 2 ^ j % 2 ≡ x / 2 ^ j % 2
low_bit x k j h =
    let e : k ≡ ((k - suc j) + 1) + j = omega arith in
    subst (λ (n : ℕ). x % 2 ^ n / 2 ^ j % 2 ≡ x / 2 ^ j % 2) (sym e)
    (rw field_either_way (mod-mod-pow (x / 2 ^ j) (k - suc j) 1))

pub both : (a b : Bool) → a && b ≡ true → (a ≡ true) × (b ≡ true)
both true b h = (refl, h)
both false b h = (h, let z : ◌≡◌ {A = ℕ} 0 1 = cc in absurd (omega arith))

either : (a b : Bool) → a || b ≡ true → (a ≡ true) ⊎ (b ≡ true)
either true b h = inl refl
either false b h = inr h

-- bit b of a word that has the pattern v in its k bits above the lowest s
pattern_bit : (s k v w b : ℕ) → bits s k w ≡ v → leb s b && ltb b (k + s) ≡ true → w / 2 ^ b % 2 ≡ v / 2 ^ (b - s) % 2
pattern_bit s k v w b e h =
    let l = leb-true s b (both (leb s b) (ltb b (k + s)) h).0 in
    let u = ltb-true b (k + s) (both (leb s b) (ltb b (k + s)) h).1 in
    let i : b ≡ s + (b - s) = omega arith in
    let j : b - s < k = omega arith in
    ap (λ (n : ℕ). w / 2 ^ n % 2) i ∙ ap (λ (n : ℕ). n % 2) (sym (shr-shr w s (b - s)))
    ∙ sym (low_bit (w / 2 ^ s) k (b - s) j) ∙ ap (λ (n : ℕ). n / 2 ^ (b - s) % 2) e

pub fixed_bit_lem : (r : Row) (w b x : ℕ) → All (tests r w) → fixed_bit r b ≡ some x → w / 2 ^ b % 2 ≡ x
fixed_bit_lem [] w b x t e = let z : ◌≡◌ {A = ℕ} 0 1 = cc in absurd (omega arith)
fixed_bit_lem (field n k ∷ r) w b x t e = fixed_bit_lem r w b x t e
fixed_bit_lem (fixed k v ∷ r) w b x t e = go (leb (size r) b && ltb b (k + size r)) refl e (fixed_bit_lem r w b x t.1)
  where
    go : (here : Bool) → leb (size r) b && ltb b (k + size r) ≡ here → cond here (some (v / 2 ^ (b - size r) % 2)) (fixed_bit r b) ≡ some x
        → (fixed_bit r b ≡ some x → w / 2 ^ b % 2 ≡ x) → w / 2 ^ b % 2 ≡ x
    go false p q f = f q
    go true p q f = let y : v / 2 ^ (b - size r) % 2 ≡ x = cc in pattern_bit (size r) k v w b (eqb-true _ v t.0) p ∙ y

module _ (r q : Row) (w : ℕ) (t : All (tests r w)) (u : All (tests q w)) where
  no_difference : (b : ℕ) (x y : Option ℕ) → fixed_bit r b ≡ x → fixed_bit q b ≡ y → differ x y ≡ true → ⊥
  no_difference b none y e d h = let z : ◌≡◌ {A = ℕ} 0 1 = cc in omega arith
  no_difference b (some x) none e d h = let z : ◌≡◌ {A = ℕ} 0 1 = cc in omega arith
  no_difference b (some x) (some y) e d h = eqb-false x y (not-true _ h) (sym (fixed_bit_lem r w b x t e) ∙ fixed_bit_lem q w b y u d)

  none_below : (b : ℕ) → differ_below b r q ≡ true → ⊥
  none_below zero h = let z : ◌≡◌ {A = ℕ} 0 1 = cc in omega arith
  none_below (suc b) h =
      ⊎_elim (no_difference b (fixed_bit r b) (fixed_bit q b) refl refl) (none_below b)
      (either (differ (fixed_bit r b) (fixed_bit q b)) (differ_below b r q) h)

-- rows that are apart have no word in common
pub apart_none : (r q : Row) (w : ℕ) → apart r q ≡ true → matches r w ≡ true → matches q w ≡ false
apart_none r q w h m = go (matches q w) refl
  where
    go : (b : Bool) → matches q w ≡ b → matches q w ≡ false
    go true n = absurd (none_below r q w (every_all (tests r w) m) (every_all (tests q w) n) (size r) h)
    go false n = n
