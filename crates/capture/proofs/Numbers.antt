-- Numbers of four bytes and of two, highest first: they are read where they stand, and lists of words likewise. Assumes nothing.
use mathlib.Core.Path.{◌≡◌, refl, sym, ap, ap₂, ◌∙◌}
use mathlib.Core.List.{List, [], ◌∷◌, ◌++◌}
use Prim.Native.Nat.{ℕ, zero, suc, ◌+◌, ◌*◌, ◌/◌, ◌%◌, ◌≤◌, ◌<◌}
use native.Mathlib.Nat.{add-zero}
use native.Mathlib.Omega.{arith}
use lib.ListN.{length, take, drop, length-drop}
use lib.Seq.{get_or-drop, drop-cons, length-take-le}
use Rattle.storage.specs.Bytes.{at}
use Rattle.capture.specs.Format.{big2, big4, word_bytes, Below}
use Rattle.capture.specs.Steps.{number4, words_at, bytes_at}

-- ---- bytes by position
pub byte_at : (s t : List ℕ) (i k : ℕ) → drop i s ≡ t → at s (i + k) ≡ at t k
byte_at s t i k e = sym (get_or-drop i s k 0) ∙ ap (λ (l : List ℕ). at l k) e

pub below_drop : (m i : ℕ) (s : List ℕ) → Below m s → Below m (drop i s)
below_drop m i s b k = rw (get_or-drop i s k 0) (b (i + k))

pub below_take : (m n : ℕ) (s : List ℕ) → 0 < m → Below m s → Below m (take n s)
below_take m zero s h b k = h
below_take m (suc n) [] h b k = h
below_take m (suc n) (x ∷ s) h b zero = b 0
below_take m (suc n) (x ∷ s) h b (suc k) = below_take m n s h (λ i. b (suc i)) k

pub length_bytes_at : (s : List ℕ) (i n : ℕ) → i + n ≤ length s → length (bytes_at s i n) ≡ n
length_bytes_at s i n h = length-take-le n (drop i s) (rw (length-drop i s) (omega arith))

-- a prefix that is as long as asked for
pub within : (n : ℕ) (l : List ℕ) → length (take n l) ≡ n → n ≤ length l
within zero l e = omega arith
within (suc n) [] e = absurd (omega arith)
within (suc n) (x ∷ l) e = let h = within n l (omega (arith, e)) in omega arith

-- ---- four bytes
big4-number : (a b c d : ℕ) → a < 256 → b < 256 → c < 256 → d < 256 → big4 (((a * 256 + b) * 256 + c) * 256 + d) ≡ a ∷ b ∷ c ∷ d ∷ []
big4-number a b c d ha hb hc hd =
    let e : (((a * 256 + b) * 256 + c) * 256 + d) / 16777216 % 256 ≡ a = omega arith in
    let f : (((a * 256 + b) * 256 + c) * 256 + d) / 65536 % 256 ≡ b = omega arith in
    let g : (((a * 256 + b) * 256 + c) * 256 + d) / 256 % 256 ≡ c = omega arith in
    let h : (((a * 256 + b) * 256 + c) * 256 + d) % 256 ≡ d = omega arith in
    rw (e, f, g, h)

pub big2-number : (a b : ℕ) → a < 256 → b < 256 → big2 (a * 256 + b) ≡ a ∷ b ∷ []
big2-number a b ha hb =
    let e : (a * 256 + b) / 256 % 256 ≡ a = omega arith in
    let f : (a * 256 + b) % 256 ≡ b = omega arith in
    rw (e, f)

pub number4_of : (s : List ℕ) (i v : ℕ) (rest : List ℕ) → v < 4294967296 → drop i s ≡ big4 v ++ rest → number4 s i ≡ v
number4_of s i v rest h e =
    let a : at s i ≡ v / 16777216 % 256 = ap (at s) (sym (add-zero i)) ∙ byte_at s (big4 v ++ rest) i 0 e in
    let b : at s (i + 1) ≡ v / 65536 % 256 = byte_at s (big4 v ++ rest) i 1 e in
    let c : at s (i + 2) ≡ v / 256 % 256 = byte_at s (big4 v ++ rest) i 2 e in
    let d : at s (i + 3) ≡ v % 256 = byte_at s (big4 v ++ rest) i 3 e in
    rw (a, b, c, d) (digits v h)
  where
    digits : (v : ℕ) → v < 4294967296 → ((v / 16777216 % 256 * 256 + v / 65536 % 256) * 256 + v / 256 % 256) * 256 + v % 256 ≡ v
    digits v h =
        let a : v / 16777216 % 256 * 256 + v / 65536 % 256 ≡ v / 65536 = omega arith in
        let b : v / 65536 * 256 + v / 256 % 256 ≡ v / 256 = omega arith in
        let c : v / 256 * 256 + v % 256 ≡ v = omega arith in
        rw (a, b, c)

pub drop_four : (s : List ℕ) (i : ℕ) → i + 4 ≤ length s → drop i s ≡ at s i ∷ at s (i + 1) ∷ at s (i + 2) ∷ at s (i + 3) ∷ drop (i + 4) s
drop_four s i h =
    let e : i + 1 ≡ suc i = omega arith in
    let f : i + 2 ≡ suc (suc i) = omega arith in
    let g : i + 3 ≡ suc (suc (suc i)) = omega arith in
    let k : i + 4 ≡ suc (suc (suc (suc i))) = omega arith in
    rw (e, f, g, k)
    (drop-cons s i 0 (omega arith)
    ∙ ap (λ (l : List ℕ). at s i ∷ l)
    (drop-cons s (suc i) 0 (omega arith)
    ∙ ap (λ (l : List ℕ). at s (suc i) ∷ l)
    (drop-cons s (suc (suc i)) 0 (omega arith) ∙ ap (λ (l : List ℕ). at s (suc (suc i)) ∷ l) (drop-cons s (suc (suc (suc i))) 0 (omega arith)))))

pub drop-big4 : (s : List ℕ) (i : ℕ) → i + 4 ≤ length s → Below 256 s → drop i s ≡ big4 (number4 s i) ++ drop (i + 4) s
drop-big4 s i h b =
    drop_four s i h
    ∙ ap (λ (l : List ℕ). l ++ drop (i + 4) s) (sym (big4-number (at s i) (at s (i + 1)) (at s (i + 2)) (at s (i + 3)) (b i) (b (i + 1)) (b (i + 2)) (b (i + 3))))

pub number4_lt : (s : List ℕ) (i : ℕ) → Below 256 s → number4 s i < 4294967296
number4_lt s i b = omega (arith, b i, b (i + 1), b (i + 2), b (i + 3))

-- ---- words
pub length_word_bytes : (ws : List ℕ) → length (word_bytes ws) ≡ 4 * length ws
unfolding word_bytes
length_word_bytes [] = refl
length_word_bytes (w ∷ ws) = let e = length_word_bytes ws in omega arith

pub word_bytes-++ : (ws vs : List ℕ) → word_bytes (ws ++ vs) ≡ word_bytes ws ++ word_bytes vs
unfolding word_bytes
word_bytes-++ [] vs = refl
word_bytes-++ (w ∷ ws) vs = rw (word_bytes-++ ws vs)

pub length-words_at : (s : List ℕ) (i n : ℕ) → length (words_at s i n) ≡ n
unfolding words_at
length-words_at s i zero = refl
length-words_at s i (suc n) = ap suc (length-words_at s (i + 4) n)

pub below_words_at : (s : List ℕ) (i n : ℕ) → Below 256 s → Below 4294967296 (words_at s i n)
unfolding words_at
below_words_at s i zero b k = omega arith
below_words_at s i (suc n) b zero = number4_lt s i b
below_words_at s i (suc n) b (suc k) = below_words_at s (i + 4) n b k

-- the bytes of the words that stand there are what stands there
pub word_bytes_at : (s : List ℕ) (i n : ℕ) → Below 256 s → i + 4 * n ≤ length s → word_bytes (words_at s i n) ≡ bytes_at s i (4 * n)
unfolding word_bytes words_at
word_bytes_at s i zero b h = refl
word_bytes_at s i (suc n) b h =
    let e : 4 * suc n ≡ suc (suc (suc (suc (4 * n)))) = omega arith in
    ap (λ (l : List ℕ). big4 (number4 s i) ++ l) (word_bytes_at s (i + 4) n b (omega arith))
    ∙ rw (e, drop-big4 s i (omega arith) b)

pub word_bytes_same : (ws vs : List ℕ) → Below 4294967296 ws → Below 4294967296 vs → word_bytes ws ≡ word_bytes vs → ws ≡ vs
unfolding word_bytes
word_bytes_same [] [] a b e = refl
word_bytes_same [] (v ∷ vs) a b e = let z : ◌≡◌ {A = ℕ} 0 1 = cc in absurd (omega arith)
word_bytes_same (w ∷ ws) [] a b e = let z : ◌≡◌ {A = ℕ} 0 1 = cc in absurd (omega arith)
word_bytes_same (w ∷ ws) (v ∷ vs) a b e =
    ap₂ ◌∷◌
    (sym (number4_of (word_bytes (w ∷ ws)) 0 w (word_bytes ws) (a 0) refl) ∙ number4_of (word_bytes (w ∷ ws)) 0 v (word_bytes vs) (b 0) e)
    (word_bytes_same ws vs (λ i. a (suc i)) (λ i. b (suc i)) (ap (drop 4) e))
