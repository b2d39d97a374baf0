-- The parts of a line, in the order in which the printer puts them, are the line. Assumes nothing.
use mathlib.Core.Path.{◌≡◌, ◌∙◌, sym, ap, refl}
use mathlib.Core.Bool.{Bool, true, false, cond}
use mathlib.Core.List.{List, [], ◌∷◌, ◌++◌, map, map-append, append_assoc, append-nil}
use Prim.Native.Nat.{ℕ, zero, suc, ◌+◌}
use native.Mathlib.Nat.{zero-add, add-zero}
use native.Mathlib.Numerals.{add-one}
use native.Mathlib.Omega.{arith}
use lib.Dec.{eqb}
use borrow.Author.Tests.{eq-eqb, ne_eqb}
use lib.ListN.{length, length-append}
use Rattle.names.specs.declared.TileName.{TileName}
use Rattle.names.specs.Lists.{name_of, digit_at, names_from}
use Rattle.text.specs.Ascii.{ascii}
use Rattle.text.specs.Spelling.{Text, name_text, separated, further, braced}
use Rattle.text.specs.Put.{listed, shown}

-- three texts put on an empty line
pub in_turn : {none one two three : Text} (a b c : Text) → none ≡ [] → one ≡ none ++ a → two ≡ one ++ b → three ≡ two ++ c → three ≡ a ++ b ++ c
in_turn a b c n p q r = rw (r, q, p, n)

pub predicated_text : (h t p q v w : Text)
    → h ++ t ++ (ascii ", " ++ p ++ (ascii ", " ++ q)) ++ (ascii ", " ++ v ++ (ascii ", " ++ w)) ≡ h ++ separated (t ∷ p ∷ q ∷ v ∷ w ∷ [])
predicated_text h t p q v w = simp (append_assoc, append-nil)

pub quarter_text : (h t v w : Text) → h ++ t ++ (ascii ", " ++ v) ++ (ascii ", " ++ w) ≡ h ++ separated (t ∷ v ∷ w ∷ [])
quarter_text h t v w = simp (append_assoc, append-nil)

-- ---- ZERO's list, which the printer puts name by name behind its opening brace

abbrev none? : List Text → Bool
none? [] = true
none? (t ∷ ts) = false

further_snoc : (ts : List Text) (t : Text) → further (ts ++ (t ∷ [])) ≡ further ts ++ (ascii ", " ++ t)
further_snoc [] t = append-nil (ascii ", " ++ t)
further_snoc (s ∷ ts) t = ap (λ (l : Text). ascii ", " ++ s ++ l) (further_snoc ts t) ∙ sym (append_assoc (ascii ", " ++ s) (further ts) (ascii ", " ++ t))

shown_snoc : (ts : List Text) (t : Text) → shown (ts ++ (t ∷ [])) ≡ shown ts ++ (cond (none? ts) (ascii " ") (ascii ", ") ++ t)
shown_snoc [] t = append-nil (ascii " " ++ t)
shown_snoc (s ∷ ts) t = ap (λ (l : Text). ascii " " ++ s ++ l) (further_snoc ts t) ∙ sym (append_assoc (ascii " " ++ s) (further ts) (ascii ", " ++ t))

-- nothing is shown exactly where nothing is listed
shown-none : (ts : List Text) (at : ℕ) → at ≡ 6 + length (shown ts) → eqb at 6 ≡ none? ts
shown-none [] at e = eq-eqb at 6 e
shown-none (t ∷ ts) at e = ne_eqb at 6 (λ h. omega (arith, e, length-append (ascii " " ++ t) (further ts)))

names_snoc : (n i list : ℕ) → names_from (suc n) i list ≡ names_from n i list ++ names_from 1 (i + n) list
names_snoc zero i list = ap (λ (j : ℕ). names_from 1 j list) (sym (add-zero i))
names_snoc (suc n) i list =
    go (eqb (digit_at list i) 0) (names_snoc n (i + 1) list ∙ ap (λ (j : ℕ). names_from n (i + 1) list ++ names_from 1 j list) (omega arith))
  where
    go : (b : Bool) → names_from (suc n) (i + 1) list ≡ names_from n (i + 1) list ++ names_from 1 (i + suc n) list
        → cond b (names_from (suc n) (i + 1) list) (name_of (digit_at list i) ∷ names_from (suc n) (i + 1) list)
        ≡ cond b (names_from n (i + 1) list) (name_of (digit_at list i) ∷ names_from n (i + 1) list) ++ names_from 1 (i + suc n) list
    go true e = e
    go false e = ap (λ (l : List TileName). name_of (digit_at list i) ∷ l) e

-- one digit more
pub shown_more : (i list at : ℕ) → at ≡ 6 + length (shown (map name_text (names_from i 0 list)))
    → shown (map name_text (names_from i 0 list)) ++ listed at (digit_at list i) ≡ shown (map name_text (names_from (i + 1) 0 list))
shown_more i list at e = go (name_of (digit_at list i)) (eqb (digit_at list i) 0) ∙ ap (λ (l : List TileName). shown (map name_text l)) next
  where
    ks : List TileName
    ks = names_from i 0 list

    next : ks ++ names_from 1 i list ≡ names_from (i + 1) 0 list
    next = ap (λ (n : ℕ). ks ++ names_from 1 n list) (sym (zero-add i)) ∙ sym (names_snoc i 0 list) ∙ ap (λ (n : ℕ). names_from n 0 list) (sym (add-one i))

    go : (k : TileName) (b : Bool) → shown (map name_text ks) ++ cond b [] (cond (eqb at 6) (ascii " ") (ascii ", ") ++ name_text k)
        ≡ shown (map name_text (ks ++ cond b [] (k ∷ [])))
    go k true = append-nil (shown (map name_text ks)) ∙ ap (λ (l : List TileName). shown (map name_text l)) (sym (append-nil ks))
    go k false = rw (shown-none (map name_text ks) at e) (sym (shown_snoc (map name_text ks) (name_text k)) ∙ ap shown (sym (map-append name_text ks (k ∷ []))))

-- the closing brace
pub zero-none : (ts : List Text) (at : ℕ) → at ≡ 6 + length (shown ts) → at ≡ 6 → ascii "zero {" ++ shown ts ++ ascii "}" ≡ ascii "zero " ++ braced ts
zero-none [] at e h = refl
zero-none (t ∷ ts) at e h = absurd (omega (arith, length-append (ascii " " ++ t) (further ts)))

pub zero-some : (ts : List Text) (at : ℕ) → at ≡ 6 + length (shown ts) → (at ≡ 6 → ⊥) → ascii "zero {" ++ shown ts ++ ascii " }" ≡ ascii "zero " ++ braced ts
zero-some [] at e h = absurd (h e)
zero-some (t ∷ ts) at e h = refl
