-- Words as actions on ZA: an accepted outer product adds to its tile, a refused word is idle, and a word exchanged undoes it;
-- an accepted ZERO clears the rows of its mask. Assumes nothing.
use mathlib.Core.Path.{◌≡◌, refl, sym, ap, ap₂, ◌∙◌, subst, fun_ext}
use mathlib.Core.Bool.{Bool, true, false, false≢true, ◌&&◌, cond}
use mathlib.Core.List.{List, [], ◌∷◌, foldl, Mem}
use mathlib.Core.Option.{Option, none, some}
use Prim.Native.Nat.{ℕ, ◌%◌, ◌^◌, ◌<◌}
use lib.Dec.{eqb}
use lib.ListN.{length}
use lib.IntN.{ℤ, pos, ◌+ℤ◌}
use borrow.Author.Tests.{eqb-true, eq-eqb, ne_eqb}
use Rattle.isa.specs.Table.{element_bytes, in_range}
use Rattle.isa.specs.Answers.{absent, describe}
use Rattle.isa.specs.declared.Operation.{Operation}
use Rattle.isa.specs.declared.Refusal.{Refusal}
use Rattle.isa.specs.declared.Instruction.{Instruction}
use Rattle.isa.specs.declared.Instruction.TheVariants.{Predicated, Quarter, Zero}
use Rattle.isa.proofs.Rows.{both}
use Rattle.isa.proofs.Theorems.{described_is}
use Rattle.storage.specs.Tile.{clear}
use Rattle.outer.specs.declared.OuterProduct.{OuterProduct}
use Rattle.outer.proofs.Negation.{other_way, dot_negated}
use Rattle.machine.specs.Machine.{Machine, with_za}
use Rattle.machine.specs.Operands.{predicated_outer, quarter_outer}
use Rattle.machine.specs.Instructions.{is_outer, mask_of, modes_of, TileName, tile_named, is_tile, names_tile}
use Rattle.machine.specs.Execution.{refusal_of, none?, accepted, Addition, outer_addition, addition_of, added, cleared, effect, unless, left_by, after}
use Rattle.machine.specs.Lists.{played}
use Rattle.machine.specs.Exchange.{flip_s, exchanged}
use Rattle.machine.specs.Demand3.{reversed, sum_at, total, Names, Apart}
use Rattle.machine.proofs.Execution.{after_by}
use Rattle.machine.proofs.Ready.{predicated_tile, quarter_tile}
use Rattle.machine.proofs.Keeping.{za_keeps, after_keeps, kept_is, same_refusal}
use Rattle.storage.proofs.Sizes.{Length}
use Rattle.machine.proofs.Acts.{Act, idle, add, step, undo, Width, narrow, wide, Fit, shares, gives, given, Clean}
use Rattle.machine.proofs.Acts.{wipe, deed, deeds, deed_length}
use Rattle.machine.proofs.Twins.{Twin, twin}

-- ---- lists on one bench, Z and P, as they go from ZA to ZA
module _ (m : Machine) where
  abbrev pub next : List ℕ → ℕ → List ℕ
  next za w = (after (with_za m za) w).za

  pub played_next : (ws : List ℕ) (za : List ℕ) → played (with_za m za) ws ≡ with_za m (foldl next za ws)
  unfolding played
  played_next [] za = refl
  played_next (w ∷ ws) za = ap (λ (n : Machine). played n ws) (kept_is (after_keeps (with_za m za) w)) ∙ played_next ws (next za w)

-- ---- the action of an answer and an addition; anything else that is accepted has none
abbrev pub action : Option Refusal → Option Addition → Act
action (some r) x = idle
action none none = idle
action none (some a) = add a.E a.tile a.sum

-- the mask of rows that are cleared then
abbrev wiping : Option Refusal → Option ℕ → Option ℕ
wiping (some r) q = none
wiping none q = q

abbrev tile_of : Option Addition → Option TileName
tile_of none = none
tile_of (some a) = some (record { E = a.E; tile = a.tile })

-- ---- what an instruction adds: outer products add to the tile that they name, by elements of 4 bytes or 8, and clear nothing
pub element_width : (op : Operation) → Width (element_bytes op)
element_width op = go op.wide
  where
    go : (b : Bool) → Width (cond b 8 4)
    go true = wide
    go false = narrow

module _ (m : Machine) where
  action_fits : (r : Option Refusal) (d : Option Instruction) → Fit (action r (addition_of m d))
  action_fits (some r) d = tt
  action_fits none none = tt
  action_fits none (some (Predicated p)) = element_width p.op
  action_fits none (some (Quarter q)) = element_width q.op
  action_fits none (some (Zero mask)) = tt

  names-added : (d : Option Instruction) → tile_named d ≡ tile_of (addition_of m d)
  names-added none = refl
  names-added (some (Predicated p)) = refl
  names-added (some (Quarter q)) = refl
  names-added (some (Zero mask)) = refl

  outer_adds : (d : Option Instruction) → is_outer d ≡ true → (a : Addition) × (addition_of m d ≡ some a) × (mask_of d ≡ none)
  outer_adds none h = absurd (false≢true h)
  outer_adds (some (Predicated p)) h = (_, refl, refl)
  outer_adds (some (Quarter q)) h = (_, refl, refl)
  outer_adds (some (Zero mask)) h = absurd (false≢true h)

  action_does : (r : Option Refusal) (d : Option Instruction) → (none? r ≡ true → is_outer d ≡ true)
      → (unless r m (effect m d)).za ≡ step m.bench.vb (action r (addition_of m d)) m.za
  action_does (some r) d h = refl
  action_does none d h = let (a, e, c) = outer_adds d (h refl) in rw (e, c)

  -- every instruction, by what it adds and what it clears
  effect_deed : (x : Option Addition) (q : Option ℕ) → (cleared (added m x) q).za ≡ wipe m.bench.vb q (step m.bench.vb (action none x) m.za)
  effect_deed none none = refl
  effect_deed none (some mask) = refl
  effect_deed (some a) none = refl
  effect_deed (some a) (some mask) = refl

  -- the other way
  abbrev by_products : OuterProduct → Act
  by_products o = action none (outer_addition m.bench.vb m.z m.p (some o))

  added_back : (o : OuterProduct) → by_products (other_way o) ≡ undo (by_products o)
  added_back o =
      ap (add o.element o.tile.0) (fun_ext (λ row. fun_ext (λ col. dot_negated o.element o.products m.bench.vb o m.z m.p row col)))

  action_reversed : (d : Option Instruction) → action none (addition_of m (reversed d)) ≡ undo (action none (addition_of m d))
  action_reversed none = refl
  action_reversed (some (Predicated p)) = added_back (predicated_outer p)
  action_reversed (some (Quarter q)) = added_back (quarter_outer q)
  action_reversed (some (Zero mask)) = refl

-- what adds to a tile names it, and the other way round
action_names : (E t : ℕ) (r : Option Refusal) (x : Option Addition) (f : ℕ → ℕ → ℤ) → action r x ≡ add E t f → (none? r ≡ true) × (is_tile E t (tile_of x) ≡ true)
action_names E t (some r) x f e = absurd (false≢true (cc))
action_names E t none none f e = absurd (false≢true (cc))
action_names E t none (some a) f e =
    let s : a.E ≡ E = cc in
    let i : a.tile ≡ t = cc in
    (refl, rw (eq-eqb a.E E s) (eq-eqb a.tile t i))

named_action : (E t : ℕ) (r : Option Refusal) (x : Option Addition) → none? r ≡ true → is_tile E t (tile_of x) ≡ true → (f : ℕ → ℕ → ℤ) × (action r x ≡ add E t f)
named_action E t (some r) x a h = absurd (false≢true a)
named_action E t none none a h = absurd (false≢true h)
named_action E t none (some x) a h =
    let (i, j) = both (eqb x.E E) (eqb x.tile t) h in
    (x.sum, ap₂ (λ (n u : ℕ). add n u x.sum) (eqb-true x.E E i) (eqb-true x.tile t j))

action_gives : (E t row col : ℕ) (r : Option Refusal) (x : Option Addition)
    → cond (none? r && is_tile E t (tile_of x)) (sum_at row col x) (pos 0) ≡ gives E t row col (action r x)
action_gives E t row col (some r) x = refl
action_gives E t row col none none = refl
action_gives E t row col none (some a) = refl

-- a named tile is one that its width has
tile_lt : (E t : ℕ) (i : Instruction) → in_range i ≡ true → names_tile E t (some i) ≡ true → t < E
tile_lt E t (Predicated p) h a =
    let (x, y) = both (eqb (element_bytes p.op) E) (eqb p.tile.0 t) a in
    rw (← eqb-true (element_bytes p.op) E x, ← eqb-true p.tile.0 t y) (predicated_tile p h)
tile_lt E t (Quarter q) h a =
    let (x, y) = both (eqb (element_bytes q.op) E) (eqb q.tile.0 t) a in
    rw (← eqb-true (element_bytes q.op) E x, ← eqb-true q.tile.0 t y) (quarter_tile q h)
tile_lt E t (Zero mask) h a = absurd (false≢true a)

pub named_tile : (E t w : ℕ) → w < 2 ^ 32 → names_tile E t (describe w) ≡ true → t < E
named_tile E t w h a = go (describe w) refl a
  where
    go : (d : Option Instruction) → describe w ≡ d → names_tile E t d ≡ true → t < E
    go none e n = absurd (false≢true n)
    go (some i) e n = tile_lt E t i (described_is w i h e).0 n

-- ---- the words of a list, answered on the ZA that it starts from
module _ (m : Machine) where
  abbrev pub act : ℕ → Act
  act w = action (refusal_of m w) (addition_of m (describe w))

  abbrev pub mask_in : ℕ → Option ℕ
  mask_in w = wiping (refusal_of m w) (mask_of (describe w))

  pub act_fits : (w : ℕ) → Fit (act w)
  act_fits w = action_fits m (refusal_of m w) (describe w)

  module _ (za : List ℕ) (e : length za ≡ length m.za) (w : ℕ) where
    next_is : next m za w ≡ (left_by (with_za m za) w (refusal_of m w)).za
    next_is = ap (λ (n : Machine). n.za) (after_by (with_za m za) w (refusal_of m w) (same_refusal (za_keeps m za e) w))

    pub act_does : (accepted m w ≡ true → is_outer (describe w) ≡ true) → next m za w ≡ step m.bench.vb (act w) za
    act_does h = next_is ∙ action_does (with_za m za) (refusal_of m w) (describe w) h

    pub zero_does : (mask : ℕ) → accepted m w ≡ true → describe w ≡ some (Zero mask) → next m za w ≡ clear m.bench.vb mask za
    zero_does mask a d = next_is ∙ rw d (go (refusal_of m w) a)
      where
        go : (o : Option Refusal) → none? o ≡ true → (unless o (with_za m za) (with_za m (clear m.bench.vb mask za))).za ≡ clear m.bench.vb mask za
        go none h = refl
        go (some r) h = absurd (false≢true h)

    deed_does : next m za w ≡ deed act mask_in m.bench.vb za w
    deed_does = next_is ∙ go (refusal_of m w)
      where
        go : (o : Option Refusal) → (left_by (with_za m za) w o).za
            ≡ wipe m.bench.vb (wiping o (mask_of (describe w))) (step m.bench.vb (action o (addition_of m (describe w))) za)
        go (some r) = refl
        go none = effect_deed (with_za m za) (addition_of m (describe w)) (mask_of (describe w))

  -- every list, as what its words add and clear
  pub played_deeds : Length m.bench.vb → (ws : List ℕ) (za : List ℕ) → length za ≡ length m.za
      → (played (with_za m za) ws).za ≡ deeds act mask_in m.bench.vb za ws
  played_deeds l ws za e = ap (λ (n : Machine). n.za) (played_next m ws za) ∙ go ws za e
    where
      go : (ws : List ℕ) (za : List ℕ) → length za ≡ length m.za → foldl (next m) za ws ≡ deeds act mask_in m.bench.vb za ws
      go [] za e = refl
      go (w ∷ ws) za e =
          ap (λ (y : List ℕ). foldl (next m) y ws) (deed_does za e w) ∙ go ws _ (deed_length act mask_in act_fits m.bench.vb l w za ∙ e)

  pub act_adds : (w E t : ℕ) (f : ℕ → ℕ → ℤ) → act w ≡ add E t f → (accepted m w ≡ true) × (names_tile E t (describe w) ≡ true)
  act_adds w E t f e =
      let (a, n) = action_names E t (refusal_of m w) (addition_of m (describe w)) f e in
      (a, rw (names-added m (describe w)) n)

  pub act_names : (ws : List ℕ) (w E t : ℕ) (f : ℕ → ℕ → ℤ) → Mem w ws → act w ≡ add E t f → Names m ws E t
  act_names ws w E t f i e = let (a, n) = act_adds w E t f e in record { word = w; listed = i; accepts = a; names = n }

  pub names_act : (ws : List ℕ) (E t : ℕ) → (n : Names m ws E t) → (f : ℕ → ℕ → ℤ) × (act n.word ≡ add E t f)
  names_act ws E t n =
      named_action E t (refusal_of m n.word) (addition_of m (describe n.word)) n.accepts (rw (names-added m (describe n.word)) at n.names)

  pub total_given : (E t row col : ℕ) (ws : List ℕ) → given act E t row col ws ≡ total m E t row col ws
  total_given E t row col [] = refl
  total_given E t row col (w ∷ ws) =
      ap₂ ◌+ℤ◌
      (sym (action_gives E t row col (refusal_of m w) (addition_of m (describe w)))
      ∙ ap (λ n. cond (accepted m w && is_tile E t n) (sum_at row col (addition_of m (describe w))) (pos 0)) (sym (names-added m (describe w))))
      (total_given E t row col ws)

  pub apart_clean : (ws : List ℕ) → Apart m ws → Clean act ws
  apart_clean ws h = record { clean = λ v w x y. go v w x y (act v) (act w) refl refl }
    where
      disjoint : {E F : ℕ} (t u : ℕ) → Width E → Width F → Names m ws E t → Names m ws F u → eqb E 4 && (eqb F 8 && eqb (u % 4) t) ≡ false
      disjoint t u narrow narrow n k = refl
      disjoint t u narrow wide n k = ne_eqb (u % 4) t (h t u n k)
      disjoint t u wide narrow n k = refl
      disjoint t u wide wide n k = refl

      go : (v w : ℕ) → Mem v ws → Mem w ws → (a c : Act) → act v ≡ a → act w ≡ c → shares a c ≡ false
      go v w x y idle c e f = refl
      go v w x y (add E t g) idle e f = refl
      go v w x y (add E t g) (add F u k) e f =
          disjoint t u (subst Fit e (act_fits v)) (subst Fit f (act_fits w)) (act_names ws v E t g x e) (act_names ws w F u k y f)

  -- ---- exchanged
  reversed-absent : (d : Option Instruction) → absent (reversed d) ≡ absent d
  reversed-absent none = refl
  reversed-absent (some (Predicated p)) = refl
  reversed-absent (some (Quarter q)) = refl
  reversed-absent (some (Zero mask)) = refl

  reversed-modes : (d : Option Instruction) → modes_of (reversed d) ≡ modes_of d
  reversed-modes none = refl
  reversed-modes (some (Predicated p)) = refl
  reversed-modes (some (Quarter q)) = refl
  reversed-modes (some (Zero mask)) = refl

  reversed_outer : (d : Option Instruction) → is_outer (reversed d) ≡ is_outer d
  reversed_outer none = refl
  reversed_outer (some (Predicated p)) = refl
  reversed_outer (some (Quarter q)) = refl
  reversed_outer (some (Zero mask)) = refl

  twin_answer : (w v : ℕ) → Twin m.bench.flags w v → refusal_of m v ≡ refusal_of m w
  unfolding refusal_of
  twin_answer w v t = rw (t.is, t.needs_same, reversed-absent (describe w), reversed-modes (describe w))

  -- v is w the other way where w is accepted, and gets the same answer
  pub record Exchanges (w v : ℕ) : Type 0 where
    pub answer : refusal_of m v ≡ refusal_of m w
    pub is : accepted m w ≡ true → describe v ≡ reversed (describe w)

  module _ (w : ℕ) (fits : w < 2 ^ 32) (outer : accepted m w ≡ true → is_outer (describe w) ≡ true) where
    flipped : is_outer (describe w) ≡ true → Exchanges w (flip_s w)
    flipped o = let t = twin m.bench.flags w fits o in record { answer = twin_answer w (flip_s w) t; is = λ h. t.is }

    -- a word that is not accepted may stay as it is
    kept : accepted m w ≡ false → Exchanges w w
    kept e = record { answer = refl; is = λ h. absurd (false≢true (sym e ∙ h)) }

    pub exchanges : Exchanges w (exchanged m w)
    exchanges = go (accepted m w) refl
      where
        go : (c : Bool) → accepted m w ≡ c → Exchanges w (exchanged m w)
        go true e = rw (e, outer e) (flipped (outer e))
        go false e = rw e (kept e)

    module _ (v : ℕ) (x : Exchanges w v) where
      pub exchanged_outer : accepted m v ≡ true → is_outer (describe v) ≡ true
      exchanged_outer h =
          let a : accepted m w ≡ true = sym (ap none? x.answer) ∙ h in
          ap is_outer (x.is a) ∙ reversed_outer (describe w) ∙ outer a

      pub exchanged_undoes : act v ≡ undo (act w)
      exchanged_undoes = go (refusal_of m w) refl
        where
          by : Option Refusal → Option Instruction → Act
          by o d = action o (addition_of m d)

          go : (o : Option Refusal) → refusal_of m w ≡ o → act v ≡ undo (act w)
          go (some r) e = ap (λ (o : Option Refusal). by o (describe v)) (x.answer ∙ e) ∙ sym (ap (λ (o : Option Refusal). undo (by o (describe w))) e)
          go none e =
              ap₂ by (x.answer ∙ e) (x.is (ap none? e)) ∙ action_reversed m (describe w)
              ∙ sym (ap (λ (o : Option Refusal). undo (by o (describe w))) e)
