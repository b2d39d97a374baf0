-- A field and a number by their next byte. Assumes nothing.
use Rattle.std.proofs.Common.{◌≡◌, ℕ, ◌+◌, ◌*◌, ◌%◌, ◌<◌, ◌≤◌, List, length, get_or, drop, add-one, arith, drop-cons, le-ltb, lt-ltb, refl, ap}
use Rattle.std.specs.Prelude.{Some, None, Bool, not, cond, nat_eq, nat_lt}
use Rattle.std.specs.Option.{unwrap_or}
use Rattle.std.specs.List.{position_or_len}
use Rattle.std.proofs.lemmas.List.Sums.{prefix_len-le-length}
use Rattle.std.proofs.lemmas.List.Recursion.{is_position_or_len}
use Rattle.std.proofs.lemmas.List.{drop_all}
use Rattle.std.specs.Char.{digit_value}
use Rattle.std.proofs.lemmas.Bool.Decides.{nat_tests}
use Rattle.checks.specs.Text.{digit_of, hexadecimal, field_length}

-- ---- digits: `to_digit` in base 16 knows those of the table, and gives them the same values
pub digit-of_value : (b : ℕ) → digit_value b < 16 → digit_of b ≡ digit_value b
unfolding digit_of
digit-of_value b h = grind (arith, nat_tests)

pub digit-of_none : (b : ℕ) → (digit_value b < 16 → ⊥) → 15 < digit_of b
unfolding digit_of
digit-of_none b h = grind (arith, nat_tests)

-- ---- the byte at i, then those after it
module _ (t : List ℕ) (i : ℕ) (h : i < length t) where
  pub no_digit : (n : ℕ) → 15 < digit_of (get_or t i 0) → None ≡ hexadecimal n (drop i t)
  unfolding hexadecimal
  no_digit n l = rw (drop-cons t i 0 h, lt-ltb 15 (digit_of (get_or t i 0)) l)

  pub digit_more : (n d : ℕ) → digit_of (get_or t i 0) ≡ d → d < 16 → hexadecimal (n % 0x10000000 * 16 + d) (drop (i + 1) t) ≡ hexadecimal n (drop i t)
  unfolding hexadecimal
  digit_more n d e l = rw (drop-cons t i 0 h, e, le-ltb 15 d (omega arith), add-one i)

pub number-ends : (n : ℕ) (t : List ℕ) (i : ℕ) → length t ≤ i → Some n ≡ hexadecimal n (drop i t)
unfolding hexadecimal
number-ends n t i h = rw (drop_all i t h)

-- ---- what `position` finds of a field's last byte, or the text's length, is how long the field is
module _ (last : ℕ) where
  ends : ℕ → Bool
  ends b = nat_eq b last

  field-position : (t : List ℕ) → field_length last t ≡ position_or_len ends t
  unfolding field_length ends
  field-position = is_position_or_len (field_length last) ends refl (λ b t. ap (λ n. cond (ends b) 0 n) (omega arith))

  pub field_found : (t : List ℕ) → unwrap_or (cond (nat_lt (position_or_len (λ b. nat_eq b last) t) (length t)) (Some (position_or_len (λ b. nat_eq b last) t)) None) (length t)
      ≡ field_length last t
  unfolding ends
  field_found t = let l = prefix_len-le-length (λ b. not (ends b)) t in rw (field-position t) (grind (arith, nat_tests, l))
