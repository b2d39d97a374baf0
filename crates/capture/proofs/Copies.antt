-- Copies between buffers, byte by byte and word by word. Assumes nothing.
use mathlib.Core.Path.{◌≡◌, sym, ap, subst, ◌∙◌}
use mathlib.Core.List.{List, [], ◌∷◌, ◌++◌}
use Prim.Native.Nat.{ℕ, zero, suc, ◌+◌, ◌*◌, ◌<◌}
use native.Mathlib.Nat.{add-zero}
use native.Mathlib.Numerals.{add-one}
use native.Mathlib.Omega.{arith}
use lib.ListN.{length, take, set}
use lib.Seq.{sets, take-suc, take-suc-set, length-take-le}
use Rattle.storage.specs.Bytes.{at}
use Rattle.storage.proofs.Bytes.{sets_append}
use Rattle.capture.specs.Format.{big4, word_bytes}
use Rattle.capture.specs.Steps.{number4, words_at}
use Rattle.capture.proofs.Numbers.{length_word_bytes, word_bytes-++}

pub stored_word : (room ws : List ℕ) (i k : ℕ) → k < length ws → sets (sets room i (word_bytes (take k ws))) (i + 4 * k) (big4 (at ws k)) ≡ sets room i (word_bytes (take (k + 1) ws))
unfolding word_bytes
stored_word room ws i k h =
    let l : length (word_bytes (take k ws)) ≡ 4 * k = length_word_bytes (take k ws) ∙ ap (λ (n : ℕ). 4 * n) (length-take-le k ws (omega arith)) in
    rw (add-one, take-suc ws k 0 h, word_bytes-++ (take k ws) (at ws k ∷ []))
    (subst (λ (n : ℕ). sets (sets room i (word_bytes (take k ws))) (i + n) (big4 (at ws k)) ≡ sets room i (word_bytes (take k ws) ++ big4 (at ws k))) l
    (sym (sets_append (word_bytes (take k ws)) (big4 (at ws k)) room i)))

-- one word more
words_at_snoc : (s : List ℕ) (i k : ℕ) → words_at s i (suc k) ≡ words_at s i k ++ (number4 s (i + 4 * k) ∷ [])
unfolding words_at
words_at_snoc s i zero = ap (λ (n : ℕ). number4 s n ∷ []) (sym (add-zero i))
words_at_snoc s i (suc k) =
    let e : i + 4 + 4 * k ≡ i + 4 * suc k = omega arith in
    ap (λ (l : List ℕ). number4 s i ∷ l) (words_at_snoc s (i + 4) k ∙ rw e)

pub word_taken : (room s : List ℕ) (i k v : ℕ) → k < length room → take k room ≡ words_at s i k → v ≡ number4 s (i + 4 * k) → take (k + 1) (set room k v) ≡ words_at s i (k + 1)
word_taken room s i k v h e n = rw (add-one, take-suc-set room k v h, e, n) (sym (words_at_snoc s i k))
