-- The answers to a list: each word gets its own, whatever was played before it. Assumes nothing.
use mathlib.Core.Path.{◌≡◌, refl, sym, ap, ap₂, ◌∙◌}
use mathlib.Core.List.{List, [], ◌∷◌, ◌++◌, map, map-append, map-map, map_congr_left, reverse, reverse-cons, Mem}
use mathlib.Core.Option.{Option}
use Prim.Native.Nat.{ℕ}
use Rattle.isa.specs.declared.Refusal.{Refusal}
use Rattle.machine.specs.Machine.{Machine}
use Rattle.machine.specs.Execution.{refusal_of}
use Rattle.machine.specs.Lists.{played}
use Rattle.machine.specs.Claims.{answers, Keeps}
use Rattle.machine.proofs.Keeping.{keeps_refl, keeps_trans, after_keeps, played_keeps, same_refusal}

map-reverse : {A : Type 0} (f : ℕ → A) (l : List ℕ) → map f (reverse l) ≡ reverse (map f l)
map-reverse f [] = refl
map-reverse f (x ∷ xs) =
    ap (map f) (reverse-cons x xs) ∙ map-append f (reverse xs) (x ∷ [])
    ∙ ap (λ l. l ++ (f x ∷ [])) (map-reverse f xs) ∙ sym (reverse-cons (f x) (map f xs))

-- on what keeps the bench, Z, P and the length of ZA
pub answers_own : (l : List ℕ) {m n : Machine} → Keeps m n → answers n l ≡ map (refusal_of m) l
unfolding answers
answers_own [] k = refl
answers_own (w ∷ l) {m} {n} k = ap₂ (λ (a : Option Refusal) (r : List (Option Refusal)). a ∷ r) (same_refusal k w) (answers_own l (keeps_trans k (after_keeps n w)))

-- back by any exchange that gets the same answers
pub answers_back : (m : Machine) (ws : List ℕ) (x : ℕ → ℕ) → ((w : ℕ) → Mem w ws → refusal_of m (x w) ≡ refusal_of m w)
    → answers (played m ws) (reverse (map x ws)) ≡ reverse (answers m ws)
answers_back m ws x e =
    answers_own (reverse (map x ws)) (played_keeps ws m) ∙ map-reverse (refusal_of m) (map x ws)
    ∙ ap reverse (map-map (refusal_of m) x ws ∙ map_congr_left e ∙ sym (answers_own ws (keeps_refl m)))
