-- Demand 2, and C-15, for words and descriptions: the claims of specs/Claims.antt hold for every input. Assumes nothing.
use mathlib.Core.Path.{◌≡◌, ◌∙◌, sym, ap, refl, subst}
use mathlib.Core.Bool.{Bool, true, false, cond}
use mathlib.Core.Option.{Option, none, some}
use Prim.Native.Nat.{ℕ, ◌≤◌, ◌<◌, ◌^◌}
use native.Mathlib.Omega.{arith}
use lib.Dec.{eqb, ltb}
use borrow.Author.Tests.{eq-eqb, ne_eqb, eqb-true, eqb-false, ltb-true, ltb-false}
use Rattle.std.specs.Prelude.{Err, Ok}
use Rattle.isa.specs.Refusals.{number_in, value_in}
use Rattle.isa.specs.Table.{Entry, table, all_flags, lacking, described, entry_of, in_range, word_for}
use Rattle.isa.specs.Answers.{lookup, described_by, describe, missing, decode_tests, decode_of, decode_number, decode_missing, encode_number}
use Rattle.isa.specs.Claims.{Listed, FeaturesOn, HandsBack, Decodes, OnlyWord, Encodes, Describes, OneLine}
use Rattle.isa.specs.declared.Instruction.{Instruction}
use Rattle.isa.specs.declared.Refusal.TheVariants.{Unlisted, FeatureOff}
use Rattle.isa.proofs.Lines.{in_table, described_range, described-word, word-described}
use Rattle.isa.proofs.Lookup.{lookup_found, lookup-some, lookup-none}
use Rattle.isa.proofs.Lookup.{one_line as lookup_one_line}
use Rattle.isa.proofs.Missing.{missing_at, missing_by, missing_is, missing_most}
use Rattle.isa.proofs.Sums.{handed, decode_fair}
use Rattle.isa.proofs.Answers.{lacking-none, on-lacking, decode_flags, decode_unlisted, decode_listed, decode_passed, decode_refusal_lem, describe_found, encode_in_range, encode_out_of_range, encoded}

-- ---- what is found, in the claims' terms
listed_found : (w : ℕ) → Listed w → (e : Entry) × (lookup table w ≡ some e)
listed_found w l = (l.0, lookup_found w l.1 l.2)

not_listed : (w : ℕ) → (Listed w → ⊥) → lookup table w ≡ none
not_listed w h = go (lookup table w) refl
  where
    go : (o : Option Entry) → lookup table w ≡ o → lookup table w ≡ none
    go none p = p
    go (some e) p = let (m, q) = lookup-some table e w p in absurd (h (e, m, q))

found_listed : (w : ℕ) (e : Entry) → lookup table w ≡ some e → Listed w
found_listed w e p = let (m, q) = lookup-some table e w p in (e, m, q)

features_lacking : (flags w : ℕ) (e : Entry) → lookup table w ≡ some e → FeaturesOn flags w → lacking flags e.needs ≡ 0
features_lacking flags w e p h = let (m, q) = lookup-some table e w p in on-lacking flags e.needs (h e m q)

lacking_features : (flags w : ℕ) (e : Entry) → lookup table w ≡ some e → lacking flags e.needs ≡ 0 → FeaturesOn flags w
lacking_features flags w e p z x m q =
    let f = lookup_found w m q in
    let s : e ≡ x = cc in
    lacking-none flags x.needs (rw (sym s) z)

-- ---- the answer in each case
accepted_when : (flags w : ℕ) → flags ≤ all_flags → Listed w → FeaturesOn flags w
    → (i : Instruction) × (decode_of flags w ≡ Ok i) × (describe w ≡ some i)
unfolding listed_found
accepted_when flags w h l f =
    let (e, p) = listed_found w l in
    (described e w, decode_listed flags w e h p ∙ rw (eq-eqb _ 0 (features_lacking flags w e p f)), describe_found w l.1 l.2)

unlisted_when : (flags w : ℕ) → flags ≤ all_flags → (Listed w → ⊥) → decode_of flags w ≡ Err Unlisted
unlisted_when flags w h l = decode_unlisted flags w h (not_listed w l)

feature_when : (flags w : ℕ) → flags ≤ all_flags → Listed w → (FeaturesOn flags w → ⊥) → decode_of flags w ≡ Err (FeatureOff (missing flags w))
unfolding listed_found
feature_when flags w h l f =
    let (e, p) = listed_found w l in
    decode_listed flags w e h p ∙ rw (missing_at flags w l.1 l.2, ne_eqb _ 0 (λ z. f (lacking_features flags w e p z)))

-- the four cases, by the number that decode gives
data Case (flags w : ℕ) : ℕ → Type 0 where
  accepts : flags ≤ all_flags → Listed w → FeaturesOn flags w → Case flags w 0
  gives_1 : all_flags < flags → Case flags w 1
  gives_7 : flags ≤ all_flags → (Listed w → ⊥) → Case flags w 7
  gives_8 : flags ≤ all_flags → Listed w → (FeaturesOn flags w → ⊥) → Case flags w 8

module _ (flags w : ℕ) where
  abbrev given : ℕ
  given = decode_number flags w

  case : Case flags w given
  case = by_flags (ltb all_flags flags) refl
    where
      by_features : (e : Entry) → flags ≤ all_flags → lookup table w ≡ some e → (b : Bool) → eqb (lacking flags e.needs) 0 ≡ b → Case flags w given
      by_features e h p true q =
          let f = lacking_features flags w e p (eqb-true _ 0 q) in
          rw (accepted_when flags w h (found_listed w e p) f).1 (accepts h (found_listed w e p) f)
      by_features e h p false q =
          let f : FeaturesOn flags w → ⊥ = λ g. eqb-false _ 0 q (features_lacking flags w e p g) in
          rw (feature_when flags w h (found_listed w e p) f) (gives_8 h (found_listed w e p) f)

      by_line : flags ≤ all_flags → (o : Option Entry) → lookup table w ≡ o → Case flags w given
      by_line h none p =
          let l : Listed w → ⊥ = λ l. lookup-none w p l.1 l.2 in
          rw (unlisted_when flags w h l) (gives_7 h l)
      by_line h (some e) p = by_features e h p (eqb (lacking flags e.needs) 0) refl

      by_flags : (b : Bool) → ltb all_flags flags ≡ b → Case flags w given
      by_flags true p = let h = ltb-true all_flags flags p in rw (decode_flags flags w h) (gives_1 h)
      by_flags false p = by_line (ltb-false all_flags flags p) (lookup table w) refl

  at : {n : ℕ} → given ≡ n → Case flags w n
  at p = subst (Case flags w) p case

  is_accepted : Case flags w 0 → (flags ≤ all_flags) × Listed w × FeaturesOn flags w
  is_accepted (accepts h l f) = (h, l, f)

  is_1 : Case flags w 1 → all_flags < flags
  is_1 (gives_1 h) = h

  is_7 : Case flags w 7 → (flags ≤ all_flags) × (Listed w → ⊥)
  is_7 (gives_7 h l) = (h, l)

  is_8 : Case flags w 8 → (flags ≤ all_flags) × Listed w × (FeaturesOn flags w → ⊥)
  is_8 (gives_8 h l f) = (h, l, f)

  none-missing : missing flags w ≡ 0 → FeaturesOn flags w
  none-missing z e m q = lacking-none flags e.needs (sym (missing_at flags w m q) ∙ z)

  missing_none : FeaturesOn flags w → missing flags w ≡ 0
  missing_none h = missing_by flags w (λ n. n ≡ 0) refl (λ e m q. on-lacking flags e.needs (h e m q))

  hands_back : HandsBack flags w given (decode_missing flags w)
  hands_back = rw (decode_refusal_lem flags w) (handed flags w (decode_tests flags w) (decode_fair flags w))

-- which words decode accepts, and what the others get
pub decodes : (flags w : ℕ) → Decodes flags w
decodes flags w =
    record {
      accepts = (λ p. is_accepted flags w (at flags w p), λ c. ap number_in (accepted_when flags w c.0 c.1 c.2).1);
      gives_1 = (λ p. is_1 flags w (at flags w p), λ h. ap number_in (decode_flags flags w h));
      gives_7 = (λ p. is_7 flags w (at flags w p), λ c. ap number_in (unlisted_when flags w c.0 c.1));
      gives_8 = (λ p. is_8 flags w (at flags w p), λ c. ap number_in (feature_when flags w c.0 c.1 c.2));
      describes = λ i p. (decode_passed flags w i p).1;
      missing_none = (none-missing flags w, missing_none flags w);
      missing_is = missing_is flags w;
      missing_most = missing_most flags w;
      hands_back = hands_back flags w;
    }

-- ---- descriptions and their words
pub describe-word : (i : Instruction) → in_range i ≡ true → describe (word_for i) ≡ some i
describe-word i h =
    let l = word-described i h in
    describe_found (word_for i) (in_table i) l.hit ∙ ap {B = Option Instruction} some l.back

-- the word needs the features of the description's line
pub missing-word : (flags : ℕ) (i : Instruction) → in_range i ≡ true → missing flags (word_for i) ≡ lacking flags (entry_of i).needs
missing-word flags i h = missing_at flags (word_for i) (in_table i) (word-described i h).hit

-- what a number is described as, some line made of it
line_found : (w : ℕ) (i : Instruction) → describe w ≡ some i → (e : Entry) × (lookup table w ≡ some e) × (described e w ≡ i)
unfolding describe
line_found w i p = go (lookup table w) refl p
  where
    go : (o : Option Entry) → lookup table w ≡ o → described_by o w ≡ some i → (e : Entry) × (lookup table w ≡ some e) × (described e w ≡ i)
    go none q d = let z : ◌≡◌ {A = ℕ} 0 1 = cc in absurd (omega arith)
    go (some e) q d = (e, q, cc)

-- what a number is described as is in range, be it a word or not
pub described_in_range : (w : ℕ) (i : Instruction) → describe w ≡ some i → in_range i ≡ true
described_in_range w i p = let (e, q, s) = line_found w i p in rw s at (described_range w (lookup-some table e w q).0)

-- and of a word it is the description, whose word that is
pub described_is : (w : ℕ) (i : Instruction) → w < 2 ^ 32 → describe w ≡ some i → (in_range i ≡ true) × (word_for i ≡ w)
described_is w i h p =
    let (e, q, s) = line_found w i p in
    let (m, k) = lookup-some table e w q in
    let o = described-word w m h k in
    (rw s at o.is_in_range, rw s at o.word)

-- encode's number tells whether a description is in range
range_number : (i : Instruction) (b : Bool) → in_range i ≡ b → encode_number i ≡ cond b 0 11
range_number i true h = ap number_in (encode_in_range i h)
range_number i false h = ap number_in (encode_out_of_range i h)

number_range : (i : Instruction) (b : Bool) → encode_number i ≡ cond b 0 11 → in_range i ≡ b
number_range i b p = go (in_range i) b (sym (range_number i (in_range i) refl) ∙ p)
  where
    go : (a b : Bool) → ◌≡◌ {A = ℕ} (cond a 0 11) (cond b 0 11) → a ≡ b
    go true true q = refl
    go true false q = absurd (omega arith)
    go false true q = absurd (omega arith)
    go false false q = refl

only_word : (i : Instruction) → in_range i ≡ true → OnlyWord i (word_for i)
only_word i h = record { fits = (word-described i h).fits; is = describe-word i h; only = λ v l p. sym (described_is v i l p).1 }

-- a description in range has one word, which encode gives and decode takes back
pub encodes : (i : Instruction) → Encodes i
encodes i =
    record {
      word = λ h. (word_for i, encode_in_range i h, only_word i h);
      back =
          λ flags w p h f.
          let (r, e) = encoded i w p in
          let l = word-described i r in
          rw e
          (decode_listed flags (word_for i) (entry_of i) h (lookup_found (word_for i) (in_table i) l.hit)
          ∙ rw (eq-eqb _ 0 (on-lacking flags (entry_of i).needs f), l.back));
      only_word = λ p. let h = number_range i true p in subst (OnlyWord i) (sym (ap value_in (encode_in_range i h))) (only_word i h);
      accepts = (number_range i true, range_number i true);
      gives_11 = (number_range i false, range_number i false);
    }

-- a listed word is the word of one description, which is in range
pub describes : (w : ℕ) → w < 2 ^ 32 → Listed w → (i : Instruction) × Describes w i
describes w h l =
    let e = l.0 in
    let o = described-word w l.1 h l.2 in
    let d = describe_found w l.1 l.2 in (
      described e w,
      record {
        is = d;
        is_in_range = o.is_in_range;
        encoded = encode_in_range (described e w) o.is_in_range ∙ ap Ok o.word;
        only =
            λ j p.
            let (r, q) = encoded j w p in
            let s : describe w ≡ some j = rw q (describe-word j r) in
            cc;
      },
    )

-- no word matches two lines
pub one_line : (w : ℕ) → OneLine w
one_line = lookup_one_line

-- what decode accepts is in range: the promise that callers of decode rest on
pub accepted_in_range : (flags w : ℕ) (i : Instruction) → decode_of flags w ≡ Ok i → in_range i ≡ true
accepted_in_range flags w i p = described_in_range w i (decode_passed flags w i p).1
