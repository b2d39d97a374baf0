-- Demand 3: the claim of specs/Demand3.antt holds for every bench, all buffers and every list that it asks about.
-- Assumes nothing.
use mathlib.Core.Path.{◌≡◌, refl, sym, ap, ◌∙◌, subst}
use mathlib.Core.Bool.{true, false, false≢true}
use mathlib.Core.List.Permᴰ
use mathlib.Core.List.{List, [], ◌∷◌, map, reverse, foldl, Mem, Permᴰ}
use mathlib.Core.Option.{some}
use Prim.Native.Nat.{ℕ, ◌/◌, ◌<◌}
use lib.ListN.{length}
use Rattle.isa.specs.Answers.{describe}
use Rattle.isa.specs.declared.Refusal.{Refusal}
use Rattle.isa.specs.declared.Instruction.TheVariants.{Zero}
use Rattle.storage.specs.Bytes.{at}
use Rattle.storage.specs.Modulo.{plus}
use Rattle.storage.specs.Tile.{element, masked, clear}
use Rattle.storage.proofs.Laws.{Good}
use Rattle.storage.proofs.Clearing.{clear-length, clear_in, clear_good}
use Rattle.storage.proofs.Sizes.{Length, za_good, place}
use Rattle.machine.specs.Machine.{Machine, with_za}
use Rattle.machine.specs.Execution.{refusal_of, none?, accepted, after}
use Rattle.machine.specs.Lists.{played}
use Rattle.machine.specs.Claims.{answers}
use Rattle.machine.specs.Exchange.{exchanged}
use Rattle.machine.specs.Demand3.{total, Names, Apart, Unnamed, Asked, Demand3}
use Rattle.machine.proofs.Acts.{Width, Fit, Agree, acted, Does, as_acted, there_and_back, any_order, totals_named, others, rows_apart, sized}
use Rattle.machine.proofs.Benches.{Judged, refuses, sound, judged}
use Rattle.machine.proofs.Keeping.{keeps_refl, played_keeps}
use Rattle.machine.proofs.Answers.{answers_own, answers_back}
use Rattle.machine.proofs.Links.{next, played_next, act, act_fits, act_does, zero_does, act_names, names_act}
use Rattle.machine.proofs.Links.{named_tile, total_given, apart_clean, Exchanges, exchanges, exchanged_outer, exchanged_undoes}

module _ (m : Machine) (ws : List ℕ) (asked : Asked m ws) where
  exchange : (w : ℕ) → Mem w ws → Exchanges m w (exchanged m w)
  exchange w i = exchanges m w (asked.words w i) (asked.outer w i)

  refused_stays : (w : ℕ) → Mem w ws → accepted m w ≡ false → exchanged m w ≡ w
  refused_stays w i h = rw h

  in_any_order : (os : List ℕ) → Permᴰ ws os → answers m os ≡ map (refusal_of m) os
  in_any_order os i = answers_own os (keeps_refl m)

  -- ---- a bench that refuses every word
  module _ (r : Refusal) (every : (w : ℕ) → refusal_of m w ≡ some r) where
    not-accepted : (w : ℕ) → accepted m w ≡ true → ⊥
    not-accepted w a = false≢true (sym (ap none? (every w)) ∙ a)

    unmoved : (l : List ℕ) → played m l ≡ m
    unfolding played after
    unmoved [] = refl
    unmoved (w ∷ l) = rw (every w) (unmoved l)

    demand_refused : Demand3 m ws
    demand_refused = record {
      refused_stays = refused_stays;
      exchanged_answer = λ w i. (exchange w i).answer;
      exchanged_is = λ w i. (exchange w i).is;
      answers_in_order = in_any_order;
      answers_back = answers_back m ws _ (λ w i. (exchange w i).answer);
      back = ap (λ (n : Machine). played n (reverse (map (exchanged m) ws))) (unmoved ws) ∙ unmoved _;
      order = λ a os i. unmoved ws ∙ sym (unmoved os);
      sums = λ a E t row col n h c. absurd (not-accepted n.word n.accepts);
      stays = λ q h u. ap (λ (n : Machine). at n.za q) (unmoved ws);
      zero_first = λ w₀ mask zb a d e y q h i. absurd (not-accepted w₀ a);
    }

  -- ---- a bench with the right sizes
  abbrev vb : ℕ
  vb = m.bench.vb

  module _ (l : Length vb) (good : Good vb vb m.za) where
    long : (y : List ℕ) → Good vb vb y → length y ≡ length m.za
    long y k = k.rows.whole ∙ sym good.rows.whole

    does : (w : ℕ) → Mem w ws → Does vb l (next m) (act m) (act_fits m) w
    does w i = record { does = λ y k. act_does m y (long y k) w (asked.outer w i) }

    as_actions : (y : List ℕ) → Good vb vb y → (os : List ℕ) → ((w : ℕ) → Mem w os → Mem w ws)
        → played (with_za m y) os ≡ with_za m (acted (act m) vb y os)
    as_actions y k os s = played_next m os y ∙ ap (with_za m) (as_acted vb l (next m) (act m) (act_fits m) os y k (λ w i. does w (s w i)))

    in_turn_lem : played m ws ≡ with_za m (acted (act m) vb m.za ws)
    in_turn_lem = as_actions m.za good ws (λ w i. i)

    -- each word exchanged, in reverse order
    abbrev way_back : List ℕ
    way_back = reverse (map (exchanged m) ws)

    back : played (played m ws) way_back ≡ m
    back =
        ap (λ (n : Machine). played n way_back) (played_next m ws m.za)
        ∙ played_next m way_back (foldl (next m) m.za ws)
        ∙ ap (with_za m)
        (there_and_back vb l (next m) (act m) (act_fits m) (exchanged m) ws m.za good does
        (λ w i. record { does = λ y k. act_does m y (long y k) _ (exchanged_outer m w (asked.words w i) (asked.outer w i) _ (exchange w i)) })
        (λ w i. exchanged_undoes m w (asked.words w i) (asked.outer w i) _ (exchange w i)))

    order : Apart m ws → (os : List ℕ) → Permᴰ ws os → played m ws ≡ played m os
    order a os i =
        in_turn_lem ∙ ap (with_za m) (any_order (act m) (act_fits m) vb l i m.za good (apart_clean m ws a))
        ∙ sym (as_actions m.za good os (λ w x. Permᴰ.mem (Permᴰ.symm i) x))

    -- of ZA alone
    za_in_turn : (played m ws).za ≡ acted (act m) vb m.za ws
    za_in_turn = ap (λ (n : Machine). n.za) in_turn_lem

    sums : Apart m ws → (E t row col : ℕ) → Names m ws E t → row < vb / E → col < vb / E
        → element E vb t (played m ws).za row col ≡ plus E (element E vb t m.za row col) (total m E t row col ws)
    sums a E t row col n h c =
        let (f, e) = names_act m ws E t n in
        let w : Width E = subst Fit e (act_fits m n.word) in
        let b = named_tile E t n.word (asked.words n.word n.listed) n.names in
        let i = (place E vb t row col (sized vb l w) l b h c).inside in
        rw (za_in_turn, ← total_given m E t row col ws)
        (totals_named (act m) (act_fits m) vb l E t row col w i ws m.za good (apart_clean m ws a) n.word f n.listed e)

    stays : (q : ℕ) → q < length m.za → Unnamed m ws (q / vb) → at (played m ws).za q ≡ at m.za q
    stays q h u =
        rw za_in_turn
        (others (act m) (act_fits m) vb l ws m.za q h (record { free = λ w E t f i e. u E t (act_names m ws w E t f i e) }))

    cleared : (mask : ℕ) (zb : List ℕ) → length zb ≡ length m.za → (r : ℕ) → masked mask r ≡ true → Agree vb r (clear vb mask m.za) (clear vb mask zb)
    cleared mask zb e r i = record {
      long = clear-length vb mask m.za ∙ sym e ∙ sym (clear-length vb mask zb);
      agree =
          λ q h j.
          let g : q < length m.za = rw clear-length at h in
          clear_in vb mask m.za q g (rw j i) ∙ sym (clear_in vb mask zb q (rw e g) (rw j i));
    }

    -- an accepted ZERO, then the list, as the actions on what it left
    after-zero : (w₀ mask : ℕ) (y : List ℕ) → accepted m w₀ ≡ true → describe w₀ ≡ some (Zero mask) → Good vb vb y
        → (played (with_za m y) (w₀ ∷ ws)).za ≡ acted (act m) vb (clear vb mask y) ws
    after-zero w₀ mask y a d k =
        ap (λ (n : Machine). n.za) (played_next m (w₀ ∷ ws) y)
        ∙ ap (λ (x : List ℕ). foldl (next m) x ws) (zero_does m y (long y k) w₀ mask a d)
        ∙ as_acted vb l (next m) (act m) (act_fits m) ws (clear vb mask y) (clear_good vb vb mask y k) does

    zero_first : (w₀ mask : ℕ) (zb : List ℕ) → accepted m w₀ ≡ true → describe w₀ ≡ some (Zero mask) → length zb ≡ length m.za → ((q : ℕ) → at zb q < 256)
        → (q : ℕ) → q < length m.za → masked mask (q / vb) ≡ true → at (played m (w₀ ∷ ws)).za q ≡ at (played (with_za m zb) (w₀ ∷ ws)).za q
    zero_first w₀ mask zb a d e y q h i =
        let u = after-zero w₀ mask m.za a d good in
        let v = after-zero w₀ mask zb a d (record { rows = record { positive = good.rows.positive; whole = e ∙ good.rows.whole }; bytes = y }) in
        let s = rows_apart (act m) (act_fits m) vb l ws (q / vb) _ _ (clear_good vb vb mask m.za good) (cleared mask zb e (q / vb) i) in
        ap (λ (x : List ℕ). at x q) u ∙ s.agree q (rw (← u, (played_keeps (w₀ ∷ ws) m).za_length) h) refl ∙ sym (ap (λ (x : List ℕ). at x q) v)

    demand_sound : Demand3 m ws
    demand_sound = record {
      refused_stays = refused_stays;
      exchanged_answer = λ w i. (exchange w i).answer;
      exchanged_is = λ w i. (exchange w i).is;
      answers_in_order = in_any_order;
      answers_back = answers_back m ws _ (λ w i. (exchange w i).answer);
      back = back;
      order = order;
      sums = sums;
      stays = stays;
      zero_first = zero_first;
    }

pub demand3 : (m : Machine) (ws : List ℕ) → Asked m ws → Demand3 m ws
demand3 m ws asked = go (judged m)
  where
    go : Judged m → Demand3 m ws
    go (refuses r every) = demand_refused m ws asked r every
    go (sound l e) = demand_sound m ws asked l (za_good m.bench.vb m.za l e asked.bytes)
