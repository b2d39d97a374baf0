-- A text's first line and the others, and what makes a line blank or a comment. Assumes nothing.
use mathlib.Core.Path.{◌≡◌, ◌∙◌, ap, refl}
use mathlib.Core.Bool.{Bool, true, false, cond, ◌&&◌}
use mathlib.Core.List.{[], ◌∷◌}
use Prim.Native.Nat.{ℕ, ◌+◌}
use lib.Dec.{eqb}
use Rattle.std.specs.List.{list_all, slice_split, onto_first, enumerate_from}
use Rattle.std.specs.Prelude.{List, ◌++◌, map, Ok, None}
use Rattle.text.specs.Spelling.{Text}
use Rattle.assemble.specs.Kernel.{Assembled, with_byte, lines, is_space, is_blank, assembled, count_over}

-- ---- lines, and the parts that the library cuts a text into at line feeds: the same, but for an empty part behind the last line feed
data Cut : List Text → List Text → Type 0 where
  ended : (ts : List Text) → Cut (ts ++ ([] ∷ [])) ts
  open-end : (l : Text) (ls : List Text) → Cut (l ∷ ls) (l ∷ ls)

abbrev pub is_feed : ℕ → Bool
is_feed b = eqb b 10

cut : (t : Text) → Cut (slice_split is_feed t) (lines t)
unfolding lines
cut [] = ended []
cut (b ∷ t) = go (slice_split is_feed t) (lines t) (cut t) (is_feed b)
  where
    go : (ps ls : List Text) → Cut ps ls → (e : Bool) → Cut (cond e ([] ∷ ps) (onto_first b ps)) (cond e ([] ∷ ls) (with_byte b ls))
    go _ _ (ended ts) true = ended ([] ∷ ts)
    go _ _ (ended []) false = open-end (b ∷ []) []
    go _ _ (ended (l ∷ ls)) false = ended ((b ∷ l) ∷ ls)
    go _ _ (open-end l ls) true = open-end [] (l ∷ ls)
    go _ _ (open-end l ls) false = open-end (b ∷ l) ls

-- one line more is counted
pub count_push : {A : Type 0} (v : A → Text) (f : ℕ → Assembled → ℕ) (n : ℕ) (xs : List A) (x : A)
    → count_over f n (map v (xs ++ (x ∷ []))) ≡ f (count_over f n (map v xs)) (assembled (v x))
count_push v f n [] x = refl
count_push v f n (y ∷ xs) x = count_push v f (f n (assembled (v y))) xs x

count_snoc : (f : ℕ → Assembled → ℕ) (n : ℕ) (ts : List Text) (t : Text) → count_over f n (ts ++ (t ∷ [])) ≡ f (count_over f n ts) (assembled t)
count_snoc f n [] t = refl
count_snoc f n (u ∷ ts) t = count_snoc f (f n (assembled u)) ts t

-- the parts make the same number as the lines: the empty part is left out
pub count_cut : (f : ℕ → Assembled → ℕ) → ((n : ℕ) → f n (Ok None) ≡ n) → (n : ℕ) (t : Text) → count_over f n (slice_split is_feed t) ≡ count_over f n (lines t)
count_cut f h n t = go (slice_split is_feed t) (lines t) (cut t)
  where
    go : (ps ls : List Text) → Cut ps ls → count_over f n ps ≡ count_over f n ls
    go _ _ (ended ts) = count_snoc f n ts [] ∙ h (count_over f n ts)
    go _ _ (open-end l ls) = refl

-- ---- what the library says of all items, said of a blank line
pub blank-all : (t : Text) → list_all is_space t ≡ is_blank t
blank-all [] = refl
blank-all (b ∷ t) = ap (λ (r : Bool). is_space b && r) (blank-all t)

-- ---- items that are numbered, without their numbers
items : {B : Type 0} (n : ℕ) (ys : List B) → map (λ p. p.1) (enumerate_from n ys) ≡ ys
items n [] = refl
items n (y ∷ ys) = ap (λ (zs : List _). y ∷ zs) (items (n + 1) ys)

unnumbered : {A B : Type 0} (v : A → B) (xs : List (ℕ × A)) → map (λ p. v p.1) xs ≡ map (λ p. p.1) (map {B = ℕ × B} (λ p. (p.0, v p.1)) xs)
unnumbered v [] = refl
unnumbered v (x ∷ xs) = ap (λ (zs : List _). v x.1 ∷ zs) (unnumbered v xs)

pub without_numbers : {A B : Type 0} (v : A → B) (xs : List (ℕ × A)) (ys : List B) → map {B = ℕ × B} (λ p. (p.0, v p.1)) xs ≡ enumerate_from 0 ys → map (λ p. v p.1) xs ≡ ys
without_numbers v xs ys e = unnumbered v xs ∙ ap (map (λ p. p.1)) e ∙ items 0 ys
