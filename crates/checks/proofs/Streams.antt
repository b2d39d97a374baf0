-- A stream by its next byte. Assumes nothing.
use Rattle.std.proofs.Common.{◌≡◌, ℕ, suc, ◌+◌, ◌-◌, ◌<◌, List, [], ◌∷◌, ◌++◌, length, take, set, ◌∙◌, append_assoc, append-nil, add-one, arith, take_all, take-suc-set}
use Rattle.checks.specs.Stream.{step, stood, byte_from, streamed}
use Rattle.checks.specs.declared.Fill.{Fill}

module _ (x i n : ℕ) (h : i < n) where
  pub stood_more : stood (step x) (n - (i + 1)) ≡ stood x (n - i)
  unfolding stood
  stood_more = let e : n - i ≡ suc (n - (i + 1)) = omega arith in rw e

  pub streamed_more : (fill : Fill) (bytes : List ℕ) → i < length bytes
      → take (i + 1) (set bytes i (byte_from fill (step x))) ++ streamed fill (step x) (n - (i + 1)) ≡ take i bytes ++ streamed fill x (n - i)
  unfolding streamed
  streamed_more fill bytes l =
      let e : n - i ≡ suc (n - (i + 1)) = omega arith in
      rw (e, add-one i, take-suc-set bytes i (byte_from fill (step x)) l)
      (append_assoc (take i bytes) (byte_from fill (step x) ∷ []) (streamed fill (step x) (n - suc i)))

module _ (x i n : ℕ) (e : i ≡ n) where
  pub stood-ends : stood x (n - i) ≡ x
  unfolding stood
  stood-ends = let z : n - i ≡ 0 = omega arith in rw z

  pub streamed-ends : (fill : Fill) (bytes : List ℕ) → length bytes ≡ n → take i bytes ++ streamed fill x (n - i) ≡ bytes
  unfolding streamed
  streamed-ends fill bytes l =
      let z : n - i ≡ 0 = omega arith in
      rw z (append-nil (take i bytes) ∙ take_all i bytes (omega arith))
