-- Bytes of a number and the number of bytes; runs of stores. Assumes nothing.
use mathlib.Core.Path.{◌≡◌, refl, sym, ap, ap₂, ◌∙◌}
use mathlib.Core.List.{List, [], ◌∷◌, ◌++◌}
use Prim.Native.Nat.{ℕ, zero, suc, ◌+◌, ◌*◌, ◌/◌, ◌%◌, ◌^◌, ◌≤◌, ◌<◌}
use native.Mathlib.Nat.{mod-lt, add-zero, zero-add, add-suc, suc-add, zero-lt-suc, not-suc-le-zero, le_of_suc-le-suc}
use native.Mathlib.Nat.{mul_comm, pow-suc, div-one, mod-one, div-div-eq-div-mul}
use native.Mathlib.Omega.{arith}
use lib.Arith.{mod-mul}
use lib.Dec.{lit<}
use lib.ListN.{length, set, length-set}
use lib.Seq.{sets, get_or-set_same, get_or-set_other}
use borrow.Rule.Slice.PartMut.{put_mid}
use Rattle.std.proofs.Common.{take, append_assoc, drop-drop}
use Rattle.std.proofs.lemmas.List.Edits.{sets-eq}
use Rattle.std.specs.Int.{sum_through, byte_worth, byte_at, bytes_low_first}
use mathlib.Core.Logic.{◌≢◌, ◌⊎◌, inl, inr}
use Rattle.storage.specs.Bytes.{Store, at, byte_of, word, bytes_of}
use Rattle.storage.proofs.Modulo.{pow_pos}

pub byte_lt : (k v : ℕ) → byte_of k v < 256
unfolding byte_of
byte_lt k v = mod-lt (v / 256 ^ k) (lit< tt)

pub byte_zero : (v : ℕ) → byte_of 0 v ≡ v % 256
unfolding byte_of
byte_zero v = ap (λ (x : ℕ). x % 256) (div-one v)

pub byte_suc : (k v : ℕ) → byte_of (suc k) v ≡ byte_of k (v / 256)
unfolding byte_of
byte_suc k v =
    ap (λ (x : ℕ). v / x % 256) (pow-suc 256 k ∙ mul_comm (256 ^ k) 256) ∙ ap (λ (x : ℕ). x % 256) (sym (div-div-eq-div-mul v 256 (256 ^ k)))

-- one more byte of a number below 256 ^ E
pub mod_suc : (E v : ℕ) → v % 256 ^ suc E ≡ v % 256 + 256 * (v / 256 % 256 ^ E)
mod_suc E v =
    ap (λ (x : ℕ). v % x) (pow-suc 256 E) ∙ mod-mul v (pow_pos E) (lit< tt) ∙ omega arith

-- a word is fixed by its bytes
pub word_ext : (E : ℕ) (m n : ℕ → ℕ) (p q : ℕ) → ((k : ℕ) → k < E → m (p + k) ≡ n (q + k)) → word E m p ≡ word E n q
unfolding word
word_ext zero m n p q h = refl
word_ext (suc E) m n p q h =
    ap₂ (λ (x y : ℕ). x + 256 * y)
    (sym (ap m (add-zero p)) ∙ h 0 (zero-lt-suc E) ∙ ap n (add-zero q))
    (word_ext E m n (suc p) (suc q) (λ k l. ap m (suc-add p k ∙ sym (add-suc p k)) ∙ h (suc k) (omega arith) ∙ ap n (add-suc q k ∙ sym (suc-add q k))))

-- where the bytes of v stand, v is read
pub word_byte : (E v p : ℕ) (m : ℕ → ℕ) → ((k : ℕ) → k < E → m (p + k) ≡ byte_of k v) → word E m p ≡ v % 256 ^ E
unfolding word
word_byte zero v p m h = sym (mod-one v)
word_byte (suc E) v p m h =
    ap₂ (λ (x y : ℕ). x + 256 * y)
    (sym (ap m (add-zero p)) ∙ h 0 (zero-lt-suc E) ∙ byte_zero v)
    (word_byte E (v / 256) (suc p) m (λ k l. ap m (suc-add p k ∙ sym (add-suc p k)) ∙ h (suc k) (omega arith) ∙ byte_suc k v))
    ∙ sym (mod_suc E v)

-- a byte of what was read is the byte that stands there
pub byte_word : (E k p : ℕ) (m : ℕ → ℕ) → ((q : ℕ) → m q < 256) → k < E → byte_of k (word E m p) ≡ m (p + k)
unfolding word
byte_word zero k p m b h = absurd (not-suc-le-zero h)
byte_word (suc E) zero p m b h =
    let l : m p < 256 = b p in
    byte_zero (word (suc E) m p) ∙ omega arith ∙ sym (ap m (add-zero p))
byte_word (suc E) (suc k) p m b h =
    let l : m p < 256 = b p in
    let e : (m p + 256 * word E m (suc p)) / 256 ≡ word E m (suc p) = omega arith in
    byte_suc k (word (suc E) m p) ∙ ap (byte_of k) e ∙ byte_word E k (suc p) m b (le_of_suc-le-suc h) ∙ ap m (suc-add p k ∙ sym (add-suc p k))

pub word_lt : (E p : ℕ) (m : ℕ → ℕ) → ((q : ℕ) → m q < 256) → word E m p < 256 ^ E
unfolding word
word_lt zero p m b = lit< tt
word_lt (suc E) p m b =
    let l : m p < 256 = b p in
    let i : word E m (suc p) < 256 ^ E = word_lt E (suc p) m b in
    omega arith

pub length_bytes_of : (E v : ℕ) → length (bytes_of E v) ≡ E
unfolding bytes_of
length_bytes_of zero v = refl
length_bytes_of (suc E) v = ap suc (length_bytes_of E (v / 256))

pub at_bytes_of : (E v k : ℕ) → k < E → at (bytes_of E v) k ≡ byte_of k v
unfolding bytes_of
at_bytes_of zero v k h = absurd (not-suc-le-zero h)
at_bytes_of (suc E) v zero h = sym (byte_zero v)
at_bytes_of (suc E) v (suc k) h = at_bytes_of E (v / 256) k (le_of_suc-le-suc h) ∙ sym (byte_suc k v)

-- a run of stores, read below, above and in it
pub at-sets_out : (vs l : List ℕ) (p q : ℕ) → (q < p) ⊎ (p + length vs ≤ q) → at (sets l p vs) q ≡ at l q
at-sets_out [] l p q h = refl
at-sets_out (v ∷ vs) l p q h = at-sets_out vs (set l p v) (suc p) q (next h) ∙ get_or-set_other l p q v 0 (differ h)
  where
    next : (q < p) ⊎ (p + suc (length vs) ≤ q) → (q < suc p) ⊎ (suc p + length vs ≤ q)
    next (inl a) = inl (omega arith)
    next (inr a) = inr (omega arith)

    differ : (q < p) ⊎ (p + suc (length vs) ≤ q) → q ≢ p
    differ (inl a) = omega arith
    differ (inr a) = omega arith

pub at-sets_in : (vs l : List ℕ) (p k : ℕ) → k < length vs → p + k < length l → at (sets l p vs) (p + k) ≡ at vs k
at-sets_in [] l p k h b = absurd (not-suc-le-zero h)
at-sets_in (v ∷ vs) l p zero h b =
    rw (add-zero p) (at-sets_out vs (set l p v) (suc p) p (inl (omega arith)) ∙ get_or-set_same l p v 0 (rw (add-zero p) at b))
at-sets_in (v ∷ vs) l p (suc k) h b =
    let e : p + suc k ≡ suc p + k = omega arith in
    rw e (at-sets_in vs (set l p v) (suc p) k (le_of_suc-le-suc h) (rw (length-set l p v) (rw e at b)))

-- ---- longer numbers, in two parts

pub word_append : (A B : ℕ) (m : ℕ → ℕ) (p : ℕ) → word (A + B) m p ≡ word A m p + 256 ^ A * word B m (p + A)
unfolding word
word_append zero B m p = rw (zero-add B, add-zero p) (omega arith)
word_append (suc A) B m p =
    let q : word (suc A + B) m p ≡ m p + 256 * word (A + B) m (suc p) = rw (suc-add A B) in
    let r : suc p + A ≡ p + suc A = omega arith in
    q ∙ rw (word_append A B m (suc p), r, pow-suc 256 A) (omega arith)

pub bytes_append : (A B v : ℕ) → bytes_of (A + B) v ≡ bytes_of A (v % 256 ^ A) ++ bytes_of B (v / 256 ^ A)
unfolding bytes_of
bytes_append zero B v = rw (zero-add B, div-one v)
bytes_append (suc A) B v =
    let x = v % 256 ^ suc A in
    let e : x ≡ v % 256 + 256 * (v / 256 % 256 ^ A) = mod_suc A v in
    let d : v / 256 ^ suc A ≡ v / 256 / 256 ^ A =
    ap (λ (n : ℕ). v / n) (pow-suc 256 A ∙ mul_comm (256 ^ A) 256) ∙ sym (div-div-eq-div-mul v 256 (256 ^ A)) in
    let h : x % 256 ≡ v % 256 = omega arith in
    let t : x / 256 ≡ v / 256 % 256 ^ A = omega arith in
    rw (suc-add A B, d, h, t, bytes_append A B (v / 256))

pub sets_append : (xs ys l : List ℕ) (i : ℕ) → sets l i (xs ++ ys) ≡ sets (sets l i xs) (i + length xs) ys
sets_append [] ys l i = rw (add-zero i)
sets_append (x ∷ xs) ys l i = let e : i + suc (length xs) ≡ suc i + length xs = omega arith in rw e (sets_append xs ys (set l i x) (suc i))

-- ---- the library's words for the same

abbrev place : ℕ → ℕ → ℕ
place p zero = p
place p (suc k) = p + suc k

word_one : (m : Store) (p : ℕ) → word 1 m p ≡ m p
unfolding word
word_one m p = omega arith

pub word_through : (E : ℕ) (m : Store) (p : ℕ) → word (suc E) m p ≡ sum_through (λ k. byte_worth k (m (place p k))) E
word_through zero m p = word_one m p
word_through (suc E) m p =
    let e : suc (suc E) ≡ suc E + 1 = omega arith in
    rw e (word_append (suc E) 1 m p ∙ rw (word_through E m p, word_one m (p + suc E)) (omega arith))

byte_at_is : (k v : ℕ) → byte_at k v ≡ v / 256 ^ k % 256
byte_at_is zero v = rw (div-one v)
byte_at_is (suc k) v = refl

bytes_low_first_is : (k E v : ℕ) → bytes_low_first k E v ≡ bytes_of E (v / 256 ^ k)
unfolding bytes_of
bytes_low_first_is k zero v = refl
bytes_low_first_is k (suc E) v =
    let d : v / 256 ^ suc k ≡ v / 256 ^ k / 256 = ap (λ (n : ℕ). v / n) (pow-suc 256 k) ∙ sym (div-div-eq-div-mul v (256 ^ k) 256) in
    rw (byte_at_is k v, bytes_low_first_is (suc k) E v, d)

-- a part of s written over, as a run of stores
pub part_put : (i k : ℕ) (s vs : List ℕ) → k ≡ length vs → i + k ≤ length s → put_mid i k s vs ≡ sets s i vs
part_put i k s vs e h = rw (e, drop-drop) (sym (sets-eq vs s i (rw e at h) ∙ append_assoc (take i s) vs _))

-- and by the E bytes of v
pub part_stored : (E v i k : ℕ) (s bytes : List ℕ) → i + E ≤ length s → k ≡ E → bytes ≡ bytes_low_first 0 E v → put_mid i k s bytes ≡ sets s i (bytes_of E v)
part_stored E v i k s bytes h e q =
    let b : bytes ≡ bytes_of E v = q ∙ bytes_low_first_is 0 E v ∙ ap (bytes_of E) (div-one v) in
    rw b (part_put i k s (bytes_of E v) (e ∙ sym (length_bytes_of E v)) (rw (sym e) at h))
