-- What a sum of missing flags is: it has exactly the features that are needed and off, and nothing else. Assumes nothing.
use mathlib.Core.Path.{◌≡◌, ◌∙◌, sym, refl, ap, ap₂}
use mathlib.Core.Bool.{Bool, beq, true, false, not, cond, ◌&&◌, ◌||◌, false≢true}
use mathlib.Core.List.{List, [], ◌∷◌, Memᴰ}
use mathlib.Core.Logic.{◌↔◌}
use mathlib.Core.Option.{Option, none, some}
use Prim.Native.Nat.{ℕ, ◌+◌, ◌/◌, ◌%◌, ◌≤◌}
use native.Mathlib.Omega.{arith}
use lib.Dec.{eqb, leb}
use borrow.Author.Tests.{eq-eqb, eqb-true, leb-true, not-true}
use Rattle.isa.specs.Row.{every, every_below, matches}
use Rattle.isa.specs.Table.{Feature, flag, SME, I16I64, MOP4, SME2, all_flags, on, lacking, one?, Entry, table}
use Rattle.isa.specs.Answers.{lookup, needed_by, missing}
use Rattle.isa.specs.Claims.{Needs}
use Rattle.isa.proofs.Tests.{All, every_all, below, beq_eq}
use Rattle.isa.proofs.Rows.{both}
use Rattle.isa.proofs.Lines.{checked, at-line}
use Rattle.isa.proofs.Lookup.{lookup_found, lookup-some}

-- ---- a feature by its flag
feature_of : ℕ → Feature
feature_of n = cond (eqb n 1) SME (cond (eqb n 2) I16I64 (cond (eqb n 4) MOP4 SME2))

flag_back : (f : Feature) → feature_of (flag f) ≡ f
unfolding feature_of
flag_back SME = refl
flag_back I16I64 = refl
flag_back MOP4 = refl
flag_back SME2 = refl

abbrev among : Feature → List Feature → Bool
among f [] = false
among f (g ∷ fs) = eqb (flag f) (flag g) || among f fs

among_member : (f : Feature) (fs : List Feature) → among f fs ≡ true → Memᴰ f fs
among_member f [] h = absurd (false≢true h)
among_member f (g ∷ fs) h = go (eqb (flag f) (flag g)) refl h (among_member f fs)
  where
    go : (b : Bool) → eqb (flag f) (flag g) ≡ b → b || among f fs ≡ true → (among f fs ≡ true → Memᴰ f fs) → Memᴰ f (g ∷ fs)
    go true e q rest = Memᴰ.head (sym (flag_back f) ∙ ap feature_of (eqb-true (flag f) (flag g) e) ∙ flag_back g)
    go false e q rest = Memᴰ.tail (rest q)

member_among : (f : Feature) (fs : List Feature) → Memᴰ f fs → among f fs ≡ true
member_among f [] m = elim m [ ]
member_among f (g ∷ fs) (Memᴰ.head p) = rw (p, eq-eqb (flag g) (flag g) refl)
member_among f (g ∷ fs) (Memᴰ.tail m) = go (eqb (flag f) (flag g)) (member_among f fs m)
  where
    go : (b : Bool) → among f fs ≡ true → b || among f fs ≡ true
    go true h = refl
    go false h = h

-- ---- of flags, only the four lowest bits count
low_bit : (flags : ℕ) (f : Feature) → flags / flag f % 2 ≡ flags % 16 / flag f % 2
low_bit flags SME = omega arith
low_bit flags I16I64 = omega arith
low_bit flags MOP4 = omega arith
low_bit flags SME2 = omega arith

low : (flags : ℕ) (f : Feature) → on flags f ≡ on (flags % 16) f
low flags f = ap one? (low_bit flags f)

lacking-low : (flags : ℕ) (fs : List Feature) → lacking flags fs ≡ lacking (flags % 16) fs
lacking-low flags [] = refl
lacking-low flags (f ∷ fs) = ap₂ (λ (b : Bool) (n : ℕ). cond b 0 (flag f) + n) (low flags f) (lacking-low flags fs)

-- ---- of each line, by computation: the sum is of flags, and a feature is in it where it is needed and off
module _ (fs : List Feature) (flags : ℕ) where
  abbrev exact_at : Feature → Bool
  exact_at f = beq (on (lacking flags fs) f) (among f fs && not (on flags f))

  abbrev tests : List Bool
  tests = leb (lacking flags fs) all_flags ∷ exact_at SME ∷ exact_at I16I64 ∷ exact_at MOP4 ∷ exact_at SME2 ∷ []

abbrev exact : Entry → Bool
exact e = every_below (λ flags. every (tests e.needs flags)) 16

table_exact : every (checked exact table) ≡ true
table_exact = refl

at_feature : (p : Feature → Bool) → All (p SME ∷ p I16I64 ∷ p MOP4 ∷ p SME2 ∷ []) → (f : Feature) → p f ≡ true
at_feature p t SME = t.0
at_feature p t I16I64 = t.1.0
at_feature p t MOP4 = t.1.1.0
at_feature p t SME2 = t.1.1.1.0

module _ (flags : ℕ) {e : Entry} (m : Memᴰ e table) where
  line_exact : All (tests e.needs (flags % 16))
  line_exact =
      let t = at-line exact table (every_all (checked exact table) table_exact) m in
      every_all (tests e.needs (flags % 16)) (below (λ flags. every (tests e.needs flags)) 16 (flags % 16) t (omega arith))

  in_sum : (f : Feature) → on (lacking flags e.needs) f ≡ among f e.needs && not (on flags f)
  in_sum f = rw (lacking-low flags e.needs, low flags f) (beq_eq _ _ (at_feature (exact_at e.needs (flags % 16)) line_exact.1 f))

  sum-most : lacking flags e.needs ≤ all_flags
  sum-most = rw (lacking-low flags e.needs) (leb-true _ _ line_exact.0)

-- ---- a word misses what its line lacks, and nothing where it has none
module _ (flags w : ℕ) where
  pub missing_at : {e : Entry} → Memᴰ e table → matches e.row w ≡ true → missing flags w ≡ lacking flags e.needs
  unfolding missing
  missing_at m q = rw (lookup_found w m q)

  pub missing_by : (P : ℕ → Type 0) → P 0
      → ((e : Entry) → Memᴰ e table → matches e.row w ≡ true → P (lacking flags e.needs)) → P (missing flags w)
  unfolding missing
  missing_by P unlisted listed = go (lookup table w) refl
    where
      go : (o : Option Entry) → lookup table w ≡ o → P (lacking flags (needed_by o))
      go none p = unlisted
      go (some e) p = let (m, q) = lookup-some table e w p in listed e m q

none-on : (f : Feature) → on 0 f ≡ false
none-on SME = refl
none-on I16I64 = refl
none-on MOP4 = refl
none-on SME2 = refl

module _ (flags w : ℕ) where
  missing_needed : (f : Feature) → on (missing flags w) f ≡ true → Needs w f × (on flags f ≡ false)
  missing_needed f =
      missing_by flags w (λ n. on n f ≡ true → Needs w f × (on flags f ≡ false)) (λ h. absurd (false≢true (sym (none-on f) ∙ h)))
      (λ e m q h.
      let (n, o) = both (among f e.needs) (not (on flags f)) (sym (in_sum flags m f) ∙ h) in
      ((e, m, q, among_member f e.needs n), not-true (on flags f) o))

  needed_missing : (f : Feature) → Needs w f × (on flags f ≡ false) → on (missing flags w) f ≡ true
  needed_missing f (n, o) =
      let (e, m, q, k) = n in
      rw (missing_at flags w m q) (in_sum flags m f ∙ rw (member_among f e.needs k, o))

  pub missing_is : (f : Feature) → (on (missing flags w) f ≡ true) ↔ Needs w f × (on flags f ≡ false)
  missing_is f = (missing_needed f, needed_missing f)

  pub missing_most : missing flags w ≤ all_flags
  missing_most = missing_by flags w (λ n. n ≤ all_flags) (omega arith) (λ e m q. sum-most flags m)
