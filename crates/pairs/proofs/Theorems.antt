-- When the order of two accepted outer products matters, and that the function decides it: the claims of specs/Claims.antt hold
-- for every pair of words. Assumes nothing.
use mathlib.Core.Path.{◌≡◌, refl, sym, ap, ◌∙◌, subst}
use mathlib.Core.Bool.{Bool, true, false, false≢true, not, ◌&&◌, or-false}
use mathlib.Core.Logic.{◌≢◌, ◌⊎◌, inl, inr}
use mathlib.Core.List.{List}
use mathlib.Core.Option.{Option, none, some}
use Prim.Native.Nat.{ℕ, ◌%◌, ◌<◌}
use native.Mathlib.Omega.{arith}
use lib.Dec.{eqb, lit<}
use borrow.Author.Tests.{eqb-true, eqb-false, ne_eqb, not-true}
use Rattle.std.specs.Prelude.{Err, Ok, Result}
use Rattle.isa.specs.Refusals.{number_in}
use Rattle.isa.specs.Answers.{describe, decode_of, decode_number}
use Rattle.isa.specs.declared.Refusal.{Refusal}
use Rattle.isa.specs.declared.Instruction.{Instruction}
use Rattle.isa.specs.declared.Instruction.TheVariants.{Predicated, Quarter, Zero}
use Rattle.isa.proofs.Answers.{decode_passed}
use Rattle.isa.proofs.Refusals.{number_positive}
use Rattle.isa.proofs.Rows.{both}
use Rattle.isa.proofs.Theorems.{decodes}
use Rattle.storage.specs.Sizes.{legal, z_size, p_size, za_size}
use Rattle.storage.proofs.Laws.{Good}
use Rattle.storage.proofs.Sizes.{Length, legal-length, za_good}
use Rattle.machine.specs.Machine.{Machine, with_za}
use Rattle.machine.specs.Instructions.{is_outer, TileName, tile_named, is_tile}
use Rattle.machine.specs.Execution.{refusal_of, none?, accepted, outcome}
use Rattle.machine.specs.Claims.{BenchPasses}
use Rattle.machine.specs.Demand3.{Apart}
use Rattle.machine.proofs.Acts.{Width, narrow, wide, add_comm}
use Rattle.machine.proofs.Masks.{both_or}
use Rattle.machine.proofs.Links.{element_width, named_tile}
use Rattle.machine.proofs.Demand3.{demand3}
use Rattle.machine.proofs.Theorems.{needs_modes}
use Rattle.pairs.specs.Order.{in_turn, share_rows, clash, tile_decoded, order_matters, start_byte, telling, modes_on}
use Rattle.pairs.specs.Claims.{Bytes, Outers, BothAccepted, SharedRow, SameWidth, TellsApart, WhenOrderMatters, Clashing, Decides, AnyOrder}
use Rattle.pairs.proofs.Tiles.{shared_rows, rows_shared, narrow_of, shared_by, shared_back}
use Rattle.pairs.proofs.Outers.{bench_passes, tile_of, Outer, outer_word, addition, in_turn_lem}
use Rattle.pairs.proofs.Contents.{all_are, are_bytes, start_byte_lt, telling_fits, told_same}
use Rattle.pairs.proofs.Orders.{AllAre, orders_apart}

-- ---- it doesn't matter: no rows shared, or one width

-- then they are no 32-bit tile t and 64-bit tile u that share rows, as add_comm asks
unshared : {E F : ℕ} (t u vb : ℕ) → Length vb → Width E → Width F → u < F
    → (SharedRow vb (record { E = E; tile = t }) (record { E = F; tile = u }) → ⊥) ⊎ (E ≡ F) → eqb E 4 && (eqb F 8 && eqb (u % 4) t) ≡ false
unshared t u vb l narrow narrow h d = refl
unshared t u vb l narrow wide h (inl d) = ne_eqb (u % 4) t (λ e. d (shared_by t u vb l h e))
unshared t u vb l narrow wide h (inr e) = absurd (let q : 4 ≡ 8 = e in omega arith)
unshared t u vb l wide narrow h d = refl
unshared t u vb l wide wide h d = refl

other_way : {vb : ℕ} {n k : TileName} → (SharedRow vb n k → ⊥) ⊎ SameWidth n k → (SharedRow vb k n → ⊥) ⊎ SameWidth k n
other_way {vb} {n} {k} (inl d) = inl (λ s. d (shared_back k n vb s))
other_way (inr e) = inr (sym e)

module _ (m : Machine) (a b : ℕ) (x : Outer m a) (y : Outer m b) where
  abbrev vb : ℕ
  vb = m.bench.vb

  abbrev n : TileName
  n = tile_of x.o

  abbrev k : TileName
  k = tile_of y.o

  fits : BenchPasses m
  fits = bench_passes m a x.accepts

  long : Length vb
  long = legal-length vb fits.length_legal

  good : Bytes m.za → Good vb vb m.za
  good bytes = za_good vb m.za long fits.za_sized bytes

  never : (SharedRow vb n k → ⊥) ⊎ SameWidth n k → Bytes m.za → in_turn m a b ≡ in_turn m b a
  never d bytes =
      in_turn_lem m a b x y
      ∙ ap (with_za m)
      (add_comm vb long y.width x.width k.tile n.tile _ _ m.za
      (unshared k.tile n.tile vb long y.width x.width x.ready.tile (other_way d))
      (unshared n.tile k.tile vb long x.width y.width y.ready.tile d) (good bytes))
      ∙ sym (in_turn_lem m b a y x)

  -- ---- it does: on known sources, where ZA's bytes are all just short of the carry, or of the borrow
  module _ (ones : AllAre 1 m.z) (set : AllAre 255 m.p) (bytes : Bytes m.za) (full : AllAre (start_byte a b) m.za) where
    -- by which of the two is the 32-bit word
    by_width : {E F : ℕ} → Width E → Width F → n.E ≡ E → k.E ≡ F → (E ≡ F → ⊥) → SharedRow vb n k
        → addition m y.o (addition m x.o m.za) ≢ addition m x.o (addition m y.o m.za)
    by_width narrow narrow e f d s t = d refl
    by_width narrow wide e f d s t =
        orders_apart vb long m.z m.p m.za (good bytes) ones set x.o y.o x.shaped y.shaped x.ready y.ready e f
        (narrow_of n.tile k.tile vb (rw (e, f) at s)).0 (λ q l. full q l ∙ rw (x.is, y.is, e, f, or-false x.o.subtract)) t
    by_width wide narrow e f d s t =
        orders_apart vb long m.z m.p m.za (good bytes) ones set y.o x.o y.shaped x.shaped y.ready x.ready f e
        (narrow_of k.tile n.tile vb (rw (e, f) at (shared_back n k vb s))).0 (λ q l. full q l ∙ rw (x.is, y.is, e, f)) (sym t)
    by_width wide wide e f d s t = d refl

    differ : SharedRow vb n k → (SameWidth n k → ⊥) → (in_turn m a b).za ≢ (in_turn m b a).za
    differ s d t =
        by_width x.width y.width refl refl d s
        (sym (ap (λ (n : Machine). n.za) (in_turn_lem m a b x y)) ∙ t ∙ ap (λ (n : Machine). n.za) (in_turn_lem m b a y x))

-- ---- both halves
named_is : (d : Option Instruction) {n k : TileName} → tile_named d ≡ some n → tile_named d ≡ some k → n ≡ k
named_is d e f = cc

-- what holds of two tiles holds under other names of them
renamed : (P : TileName → TileName → Type 0) {n n' k k' : TileName} → n ≡ n' → k ≡ k' → P n k → P n' k'
renamed P e f s = rw (e, f) at s

module _ (m : Machine) (a b : ℕ) (n k : TileName) (outers : Outers a b n k) (accepts : BothAccepted m a b) where
  -- on any machine that accepts both, the tiles are these
  under_names : (P : TileName → TileName → Type 0) {m : Machine} (x : Outer m a) (y : Outer m b) → P n k → P (tile_of x.o) (tile_of y.o)
  under_names P x y s = renamed P (named_is (describe a) outers.names.0 x.names) (named_is (describe b) outers.names.1 y.names) s

  abbrev there : Machine
  there = telling m.bench a b

  there_accepts : BothAccepted there a b
  there_accepts =
      let f = bench_passes m a accepts.0 in
      (ap none? (told_same m a b a f) ∙ accepts.0, ap none? (told_same m a b b f) ∙ accepts.1)

  somewhere : SharedRow m.bench.vb n k → (SameWidth n k → ⊥) → TellsApart there a b
  somewhere s d =
      let v = m.bench.vb in
      let x = outer_word there a there_accepts.0 outers.outer.0 in
      let y = outer_word there b there_accepts.1 outers.outer.1 in
      let bytes = are_bytes (za_size v) (start_byte a b) (start_byte_lt a b) in
      let f = bench_passes there a there_accepts.0 in
      record {
        z_sized = f.z_sized;
        p_sized = f.p_sized;
        za_sized = f.za_sized;
        bytes = (are_bytes (z_size v) 1 (lit< tt), are_bytes (p_size v) 255 (lit< tt), bytes);
        both = there_accepts;
        differ =
            differ there a b x y (all_are (z_size v) 1) (all_are (p_size v) 255) bytes (all_are (za_size v) (start_byte a b))
            (under_names (SharedRow v) x y s) (under_names (λ n k. SameWidth n k → ⊥) x y d);
      }

  pub order : WhenOrderMatters m a b n k
  order =
      let x = outer_word m a accepts.0 outers.outer.0 in
      let y = outer_word m b accepts.1 outers.outer.1 in
      record {
        never = λ d. never m a b x y (under_names (λ n k. (SharedRow m.bench.vb n k → ⊥) ⊎ SameWidth n k) x y d);
        somewhere = somewhere;
      }

-- ---- the function
not_none : {n : TileName} → none ≡ some n → ⊥
not_none e = false≢true cc

clash_both : (x y : Option TileName) → clash x y ≡ true
    → (n : TileName) × (k : TileName) × (x ≡ some n) × (y ≡ some k) × (eqb n.E k.E ≡ false) × (share_rows n k ≡ true)
clash_both none y h = absurd (false≢true h)
clash_both (some n) none h = absurd (false≢true h)
clash_both (some n) (some k) h = let (d, s) = both (not (eqb n.E k.E)) (share_rows n k) h in (n, k, refl, refl, not-true _ d, s)

-- what decode accepts and names
decoded_tile : (flags w : ℕ) (n : TileName) → tile_decoded (decode_of flags w) ≡ some n
    → (decode_number flags w ≡ 0) × (is_outer (describe w) ≡ true) × (tile_named (describe w) ≡ some n)
decoded_tile flags w n h = go (decode_of flags w) refl h
  where
    outer : (i : Instruction) → tile_named (some i) ≡ some n → is_outer (some i) ≡ true
    outer (Predicated p) e = refl
    outer (Quarter q) e = refl
    outer (Zero mask) e = absurd (not_none e)

    go : (d : Result Instruction Refusal) → decode_of flags w ≡ d → tile_decoded d ≡ some n
        → (decode_number flags w ≡ 0) × (is_outer (describe w) ≡ true) × (tile_named (describe w) ≡ some n)
    go (Ok i) e t = let p = (decode_passed flags w i e).1 in (ap number_in e, ap is_outer p ∙ outer i t, ap tile_named p ∙ t)
    go (Err r) e t = absurd (not_none t)

tile_decoded_lem : (flags w : ℕ) → decode_number flags w ≡ 0 → tile_decoded (decode_of flags w) ≡ tile_named (describe w)
tile_decoded_lem flags w h = go (decode_of flags w) refl h
  where
    go : (d : Result Instruction Refusal) → decode_of flags w ≡ d → number_in d ≡ 0 → tile_decoded d ≡ tile_named (describe w)
    go (Ok i) e z = sym (ap tile_named (decode_passed flags w i e).1)
    go (Err r) e z = absurd (omega (arith, number_positive r))

named_width : (d : Option Instruction) (n : TileName) → tile_named d ≡ some n → Width n.E
named_width none n e = absurd (not_none e)
named_width (some (Predicated p)) n e = subst (λ (k : TileName). Width k.E) (named_is (some (Predicated p)) refl e) (element_width p.op)
named_width (some (Quarter q)) n e = subst (λ (k : TileName). Width k.E) (named_is (some (Quarter q)) refl e) (element_width q.op)
named_width (some (Zero mask)) n e = absurd (not_none e)

-- an accepted word has the number 0, and the other way round
accepted-zero : (o : Option Refusal) → none? o ≡ true → number_in (outcome o) ≡ 0
accepted-zero none h = refl
accepted-zero (some r) h = absurd (false≢true h)

zero-accepted : (o : Option Refusal) → number_in (outcome o) ≡ 0 → none? o ≡ true
zero-accepted none h = refl
zero-accepted (some r) h = absurd (omega (arith, number_positive r))

-- what is accepted decode accepts
decoded : (m : Machine) (w : ℕ) → accepted m w ≡ true → decode_number m.bench.flags w ≡ 0
decoded m w h = ((needs_modes m w).accepts.0 (accepted-zero (refusal_of m w) h)).0.1

module _ (flags a b : ℕ) where
  module _ (vb : ℕ) (l : legal vb ≡ true) where
    clashing : order_matters flags a b ≡ true → Clashing flags vb a b
    unfolding order_matters
    clashing h =
        let (n, k, e, f, d, s) = clash_both _ _ h in
        let (p, o, t) = decoded_tile flags a n e in
        let (q, r, u) = decoded_tile flags b k f in
        record {
          accepts = (p, q);
          n = n;
          k = k;
          outers = record { outer = (o, r); names = (t, u) };
          shared = rows_shared n k vb (legal-length vb l) s;
          widths = eqb-false _ _ d;
        }

    clashes : Clashing flags vb a b → order_matters flags a b ≡ true
    unfolding order_matters
    clashes c =
        let (t, u) = c.outers.names in
        rw (tile_decoded_lem flags a c.accepts.0, tile_decoded_lem flags b c.accepts.1, t, u, ne_eqb _ _ c.widths)
        (shared_rows c.n c.k vb (named_width (describe a) c.n t) (named_width (describe b) c.k u) c.shared)

    -- both modes on: what decode accepts is accepted
    on_bench : (w : ℕ) → decode_number flags w ≡ 0 → accepted (telling (modes_on flags vb) a b) w ≡ true
    on_bench w p =
        let passes = telling_fits (modes_on flags vb) a b ((decodes flags w).accepts.0 p).0 l in
        zero-accepted (refusal_of (telling (modes_on flags vb) a b) w) ((needs_modes (telling (modes_on flags vb) a b) w).accepts.1 ((passes, p), (λ o. refl), refl))

    told : order_matters flags a b ≡ true → TellsApart (telling (modes_on flags vb) a b) a b
    told h =
        let c = clashing h in
        (order (telling (modes_on flags vb) a b) a b c.n c.k c.outers (on_bench a c.accepts.0, on_bench b c.accepts.1)
        ).somewhere c.shared c.widths

  settled : order_matters flags a b ≡ false → (m : Machine) → m.bench.flags ≡ flags → BothAccepted m a b → Bytes m.za
      → (n k : TileName) → Outers a b n k → in_turn m a b ≡ in_turn m b a
  settled h m e (p, q) bytes n k outers = (order m a b n k outers (p, q)).never (go (eqb n.E k.E) refl) bytes
    where
      go : (c : Bool) → eqb n.E k.E ≡ c → (SharedRow m.bench.vb n k → ⊥) ⊎ SameWidth n k
      go true t = inr (eqb-true _ _ t)
      go false t = inl (λ s. false≢true (sym h ∙ clashes m.bench.vb (bench_passes m a p).length_legal (record {
        accepts = (rw e at (decoded m a p), rw e at (decoded m b q));
        n = n;
        k = k;
        outers = outers;
        shared = s;
        widths = eqb-false _ _ t;
      })))

-- whichever comes first
clashing_back : {flags vb a b : ℕ} → Clashing flags vb a b → Clashing flags vb b a
clashing_back {vb = vb} c = record {
  accepts = (c.accepts.1, c.accepts.0);
  n = c.k;
  k = c.n;
  outers = record { outer = (c.outers.outer.1, c.outers.outer.0); names = (c.outers.names.1, c.outers.names.0) };
  shared = shared_back c.n c.k vb c.shared;
  widths = λ e. c.widths (sym e);
}

either_way : (flags a b : ℕ) → order_matters flags b a ≡ order_matters flags a b
either_way flags a b =
    both_or _ _ (λ h. clashes flags a b 16 refl (clashing_back (clashing flags b a 16 refl h)))
    (λ h. clashes flags b a 16 refl (clashing_back (clashing flags a b 16 refl h)))

pub never_itself : (flags a : ℕ) → order_matters flags a a ≡ false
never_itself flags a = go (order_matters flags a a) refl
  where
    go : (c : Bool) → order_matters flags a a ≡ c → order_matters flags a a ≡ false
    go true h =
        let c = clashing flags a a 16 refl h in
        absurd (c.widths (ap (λ (n : TileName). n.E) (named_is (describe a) c.outers.names.0 c.outers.names.1)))
    go false h = h

pub decides : (flags a b : ℕ) → Decides flags a b
decides flags a b = record {
  exactly = λ vb l. (clashing flags a b vb l, clashes flags a b vb l);
  either_way = either_way flags a b;
  told = λ h vb l. told flags a b vb l h;
  settled = settled flags a b;
}

-- ---- lists
tile_named_lem : (E t : ℕ) (x : Option TileName) → is_tile E t x ≡ true → x ≡ some (record { E = E; tile = t })
tile_named_lem E t none h = absurd (false≢true h)
tile_named_lem E t (some n) h =
    let (i, j) = both (eqb n.E E) (eqb n.tile t) h in
    rw (← eqb-true n.E E i, ← eqb-true n.tile t j)

pub any_order : (m : Machine) (ws : List ℕ) → AnyOrder m ws
any_order m ws asked none-clash os perm = (demand3 m ws asked).order apart os perm
  where
    apart : Apart m ws
    apart t u x y e =
        let p = tile_named_lem 4 t (tile_named (describe x.word)) x.names in
        let q = tile_named_lem 8 u (tile_named (describe y.word)) y.names in
        let f = bench_passes m x.word x.accepts in
        let vb = m.bench.vb in
        let l = legal-length vb f.length_legal in
        let s = shared_by t u vb l (named_tile 8 u y.word (asked.words y.word y.listed) y.names) e in
        false≢true (sym (none-clash x.word y.word x.listed y.listed) ∙ clashes m.bench.flags x.word y.word vb f.length_legal (record {
          accepts = (decoded m x.word x.accepts, decoded m y.word y.accepts);
          n = record { E = 4; tile = t };
          k = record { E = 8; tile = u };
          outers = record { outer = (asked.outer x.word x.listed x.accepts, asked.outer y.word y.listed y.accepts); names = (p, q) };
          shared = s;
          widths = λ w. let z : 4 ≡ 8 = w in omega arith;
        }))
