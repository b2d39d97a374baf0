-- The rule gives each mask its shortest list, and there is no other: the claim of specs/Claims.antt, for every mask. What a
-- list of names must pass to be the shortest is one test, which is computed for the rule's lists and for the table's.
-- Assumes nothing.
use mathlib.Core.Path.{◌≡◌, ◌∙◌, sym, ap, refl}
use mathlib.Core.Bool.{Bool, true, false, beq, ◌&&◌, ◌||◌}
use mathlib.Core.List.{List, [], ◌∷◌, map}
use Prim.Native.Nat.{ℕ, ◌+◌, ◌/◌, ◌%◌, ◌^◌, ◌≤◌, ◌<◌}
use native.Mathlib.Nat.{mod-mod_of_dvd, dvd_of_mod-eq-zero}
use native.Mathlib.Omega.{arith}
use lib.Dec.{eqb, leb}
use lib.ListN.{length, get_or}
use borrow.Author.Tests.{eqb-true, leb-true}
use Rattle.isa.specs.Row.{every, every_below}
use Rattle.isa.proofs.Tests.{every_all, below, beq_eq}
use Rattle.isa.proofs.Rows.{both}
use Rattle.storage.specs.Tile.{masked}
use Rattle.names.specs.declared.TileName.{TileName}
use Rattle.names.specs.Names.{names, same_name, among, is_name, holds, held, lowest, rising, Shortest, names_of}
use Rattle.names.specs.Lists.{list_number, names_in, Table}
use Rattle.names.specs.Claims.{OneList}
use Rattle.names.proofs.Tests.{every_entry, entry}
use Rattle.names.proofs.Members.{same_name_lem, each}
use Rattle.names.proofs.Counting.{apart, no_fewer}
use Rattle.names.proofs.Orders.{same_list}

-- ---- the test: names, of the mask's rows, in order; and no name inside the mask holds the lowest rows of two of them
abbrev lows : List TileName → List ℕ
lows ks = map lowest ks

abbrev tests : ℕ → List TileName → List Bool
tests mask ks =
    every (map is_name ks)
    ∷ every_below (λ (r : ℕ). beq (held ks r) (masked mask r)) 8
    ∷ rising ks
    ∷ every (map (masked mask) (lows ks))
    ∷ every (map (apart mask (lows ks)) names)
    ∷ []

abbrev pub passes : ℕ → List TileName → Bool
passes mask ks = every (tests mask ks)

-- ---- which rows a name holds repeats after eight, as an element's bytes divide eight
name_repeats : (k : TileName) (r : ℕ) → is_name k ≡ true → holds k r ≡ holds k (r % 8)
name_repeats k r n =
    let d = each (λ (k : TileName). eqb (8 % k.bytes) 0) k names refl n in
    ap (λ (t : ℕ). eqb t k.tile.0) (sym (mod-mod_of_dvd k.bytes r (dvd_of_mod-eq-zero k.bytes (eqb-true _ 0 d))))

held_repeats : (ks : List TileName) (r : ℕ) → every (map is_name ks) ≡ true → held ks r ≡ held ks (r % 8)
held_repeats [] r p = refl
held_repeats (k ∷ ks) r p =
    let (a, b) = both (is_name k) (every (map is_name ks)) p in
    rw (name_repeats k r a, held_repeats ks r b)

masked_repeats : (mask r : ℕ) → masked mask (r % 8) ≡ masked mask r
masked_repeats mask r = ap (λ (t : ℕ). eqb (mask / 2 ^ t % 2) 1) (omega arith)

-- ---- what passes is the shortest
lows_length : (ks : List TileName) → length (lows ks) ≡ length ks
lows_length [] = refl
lows_length (k ∷ ks) = rw (lows_length ks)

pub shortest : (mask : ℕ) (ks : List TileName) → passes mask ks ≡ true → Shortest mask ks
shortest mask ks h =
    let (n, (e, (o, (l, (a, _))))) = every_all (tests mask ks) h in
    record {
      covers =
          record {
            names_all = n;
            exactly =
                λ r.
                held_repeats ks r n
                ∙ beq_eq _ _ (below (λ (r : ℕ). beq (held ks r) (masked mask r)) 8 (r % 8) e (omega arith))
                ∙ masked_repeats mask r;
          };
      least = λ js c. omega (arith, lows_length ks, no_fewer (lows ks) (λ (j : TileName). false) a l c (λ j m. refl));
      order = o;
    }

-- ---- and the only one: a list without one of its names needs one name more, for the second row of that name
abbrev second : TileName → ℕ
second k = k.tile.0 + k.bytes

abbrev needed : ℕ → List TileName → TileName → Bool
needed mask ks k = masked mask (second k) && every (map (λ (j : TileName). same_name j k || apart mask (second k ∷ lows ks) j) names)

module _ (mask : ℕ) (ks : List TileName) (p : passes mask ks ≡ true) (q : every (map (needed mask ks) ks) ≡ true) where
  named_too : {js : List TileName} → Shortest mask js → (k : TileName) → among k ks ≡ true → among k js ≡ true
  named_too {js} s k m = go (among k js) refl
    where
      other : among k js ≡ false → (j : TileName) → among j js ≡ true → (b : Bool) → same_name j k ≡ b → b ≡ false
      other e j n true d = sym (rw (same_name_lem j k d) at n) ∙ e
      other e j n false d = refl

      go : (b : Bool) → among k js ≡ b → b ≡ true
      go true e = refl
      go false e =
          let (a, b) = both (masked mask (second k)) _ (each (needed mask ks) k ks q m) in
          let (_, (_, (_, (l, _)))) = every_all (tests mask ks) p in
          let f = no_fewer (second k ∷ lows ks) (λ (j : TileName). same_name j k) b (rw a l) s.covers (λ j n. other e j n (same_name j k) refl) in
          absurd (omega (arith, lows_length ks, f, s.least ks (shortest mask ks p).covers))

  only_one : {js : List TileName} → Shortest mask js → js ≡ ks
  only_one {js} s =
      let o = shortest mask ks p in
      (same_list js ks s.order o.order (named_too s)).1 (s.least ks o.covers)

-- ---- every mask
abbrev right : ℕ → Bool
right mask = passes mask (names_of mask) && every (map (needed mask (names_of mask)) (names_of mask))

rule_passes : every_below right 256 ≡ true
unfolding names_of
rule_passes = refl

pub one_list : (mask : ℕ) → mask < 256 → OneList mask
one_list mask h =
    let ks = names_of mask in
    let (p, q) = both (passes mask ks) (every (map (needed mask ks) ks)) (below right 256 mask rule_passes h) in
    record { shortest = shortest mask ks p; only = λ js s. only_one mask ks p q s }

-- a table whose entries all pass is right
abbrev pub entry_passes : ℕ → ℕ → Bool
entry_passes mask list = eqb list (list_number (names_in list)) && passes mask (names_in list)

pub table_right : (lists : List ℕ) → length lists ≡ 256 → every_entry entry_passes 0 lists ≡ true → Table lists
table_right lists e p =
    record {
      size = e;
      each =
          λ mask h.
          let list = get_or lists mask 0 in
          let (d, t) = both (eqb list (list_number (names_in list))) (passes mask (names_in list)) (entry entry_passes lists mask p (omega arith)) in
          let s = shortest mask (names_in list) t in
          let o = (one_list mask h).only (names_in list) s in
          record { is = eqb-true _ _ d ∙ ap list_number o; names = o; shortest = s };
    }

-- no list has more than four names
pub few_names : (mask : ℕ) → mask < 256 → length (names_of mask) ≤ 4
unfolding names_of
few_names mask h = leb-true _ 4 (below (λ (m : ℕ). leb (length (names_of m)) 4) 256 mask refl h)
