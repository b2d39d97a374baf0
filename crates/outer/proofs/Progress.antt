-- The walk over a tile, over the element's size and what comes to each element: runs of elements, counted row by row, follow
-- each other, and an element stored is a run of one. Assumes nothing.
use Rattle.std.proofs.Common.{◌≡◌, ℕ, zero, suc, ◌+◌, ◌*◌, ◌/◌, ◌%◌, ◌^◌, ◌<◌, ◌≤◌, Bool, true, false, cond, ◌&&◌, leb, List, length, ℤ, pos, ◌+ℤ◌, sym, refl, ap, ◌∙◌, ap₂, le_trans, le_refl, mul-le-mul_right, mod-lt, add-one, arith, le-ltb, lt-ltb, eq-eqb, le-leb}
use native.Mathlib.Decide.{ℕ_discrete, dec_lt}
use lib.Arith.{digits_div, digits_mod, digits_lt}
use lib.IntN.{+ℤ_idl, +ℤ_idr}
use lib.Seq.{sets}
use borrow.Author.Tests.{lt-leb}
use Rattle.storage.specs.Bytes.{at, word, bytes_of}
use Rattle.storage.specs.Modulo.{plus}
use Rattle.storage.specs.Sizes.{za_size}
use Rattle.storage.specs.Tile.{start, element, add_to}
use Rattle.storage.proofs.Modulo.{pow_pos, plus_nil, plus-plus}
use Rattle.storage.proofs.Tiles.{Sized}
use Rattle.storage.proofs.Laws.{Good, add_to_good, add_to-add_to, add_to_nil}
use Rattle.storage.proofs.Sizes.{Length, ElementPlace, place, za_good}
use Rattle.storage.proofs.Walks.{single, single_other, store_add, add_to_cong}
use Rattle.outer.specs.Products.{sum}
use Rattle.outer.specs.Walks.{between, AddedTo}

-- ---- which elements a run has
module _ (cols a b : ℕ) (f : ℕ → ℕ → ℤ) (r c : ℕ) where
  between_in : a ≤ r * cols + c → r * cols + c < b → between cols a b f r c ≡ f r c
  unfolding between
  between_in l u = rw (le-leb a (r * cols + c) l, lt-ltb (r * cols + c) b u)

  between_under : r * cols + c < a → between cols a b f r c ≡ pos 0
  unfolding between
  between_under l = rw (lt-leb a (r * cols + c) l)

  between-over : b ≤ r * cols + c → between cols a b f r c ≡ pos 0
  unfolding between
  between-over l = rw (le-ltb (r * cols + c) b l) (go (leb a (r * cols + c)))
    where
      go : (t : Bool) → cond (t && false) (f r c) (pos 0) ≡ pos 0
      go true = refl
      go false = refl

-- ---- runs on a tile of ZA, on vectors of vb bytes

-- elements of E bytes fill its rows
pub record Tiled (E vb tile : ℕ) : Type 0 where
  pub size : Length vb
  pub positive : 0 < E
  pub wide : 0 < vb / E
  pub narrow : vb / E ≤ 64
  pub whole : vb ≡ vb / E * E
  pub tile_in : tile < E

-- za is za₀ with f added to elements a to b
pub record Since (E vb tile : ℕ) (f : ℕ → ℕ → ℤ) (a b : ℕ) (za₀ za : List ℕ) : Type 0 where
  pub order : a ≤ b
  pub before : Good vb vb za₀
  pub done : AddedTo E vb tile f a b za₀ za

pub since_as : {E vb tile : ℕ} {f : ℕ → ℕ → ℤ} {a b c d : ℕ} {za₀ za : List ℕ} → a ≡ c → b ≡ d → Since E vb tile f a b za₀ za → Since E vb tile f c d za₀ za
since_as e g w = rw (e, g) at w

module _ {E vb tile : ℕ} (t : Tiled E vb tile) where
  abbrev sized : Sized E vb
  sized = record { positive = t.positive; cols = vb / E; wide = t.wide; whole = t.whole }

  pub lent : (za : List ℕ) → length za ≡ za_size vb → ((i : ℕ) → at za i < 256) → Good vb vb za
  lent za e b = za_good vb za t.size e b

  pub placed : {row col : ℕ} → row < vb / E → col < vb / E → ElementPlace E vb tile row col
  placed {row} {col} h l = place E vb tile row col sized t.size t.tile_in h l

  -- adding one function is adding another that agrees with it on the tile
  same : {g h : ℕ → ℕ → ℤ} {za : List ℕ} → Good vb vb za → ((r c : ℕ) → r * E + tile < vb → c < vb / E → g r c ≡ h r c)
      → add_to E vb tile g za ≡ add_to E vb tile h za
  same {g} {h} {za} k e = add_to_cong E vb vb sized tile g h za k e

module _ {E vb tile : ℕ} (t : Tiled E vb tile) (f : ℕ → ℕ → ℤ) where
  -- storing an element's new value at i, where the element starts
  store_one : {row col i v : ℕ} {za : List ℕ} → Good vb vb za → row < vb / E → col < vb / E → i ≡ start E vb tile row col
      → v ≡ plus E (word E (at za) i) (f row col)
      → AddedTo E vb tile f (row * (vb / E) + col) (row * (vb / E) + (col + 1)) za (sets za i (bytes_of E v))
  unfolding element
  store_one {row} {col} {i} {v} {za} k h l q e =
      rw (e, q) (store_add E vb vb (sized t) tile row col za k (placed t h l).inside (f row col))
      ∙ same t k (λ r c m n. one r c n (dec_lt (r * (vb / E) + c) x) (ℕ_discrete (r * (vb / E) + c) x))
    where
      x : ℕ
      x = row * (vb / E) + col

      other : (r c : ℕ) → (r * (vb / E) + c ≡ x → ⊥) → single row col (f row col) r c ≡ pos 0
      other r c d = single_other row col (f row col) r c (λ a b. d (ap₂ (λ (i j : ℕ). i * (vb / E) + j) a b))

      one : (r c : ℕ) → c < vb / E → Dec (r * (vb / E) + c < x) → Dec (r * (vb / E) + c ≡ x)
          → single row col (f row col) r c ≡ between (vb / E) x (row * (vb / E) + (col + 1)) f r c
      one r c n j (yes p) =
          let a : r ≡ row = sym (digits_div r n) ∙ ap (λ (v : ℕ). v / (vb / E)) p ∙ digits_div row l in
          let b : c ≡ col = sym (digits_mod r n) ∙ ap (λ (v : ℕ). v % (vb / E)) p ∙ digits_mod row l in
          rw (eq-eqb r row a, eq-eqb c col b) (ap₂ f (sym a) (sym b))
          ∙ sym (between_in (vb / E) x (row * (vb / E) + (col + 1)) f r c (omega arith) (omega arith))
      one r c n (yes j) (no d) = other r c d ∙ sym (between_under (vb / E) x (row * (vb / E) + (col + 1)) f r c j)
      one r c n (no j) (no d) = other r c d ∙ sym (between-over (vb / E) x (row * (vb / E) + (col + 1)) f r c (omega arith))

module _ {E vb tile : ℕ} (t : Tiled E vb tile) {f : ℕ → ℕ → ℤ} where
  -- what is left has as many bytes
  pub since_good : {a b : ℕ} {za₀ za : List ℕ} → Since E vb tile f a b za₀ za → Good vb vb za
  since_good {a} {b} {za₀} w = rw w.done (add_to_good E vb vb (sized t) tile (between (vb / E) a b f) za₀ w.before)

  pub since_size : {a b : ℕ} {za₀ za : List ℕ} → Since E vb tile f a b za₀ za → length za ≡ za_size vb
  since_size w = (since_good w).rows.whole

  pub since_none : (a : ℕ) {za : List ℕ} → Good vb vb za → Since E vb tile f a a za za
  since_none a {za} k = record {
    order = le_refl a;
    before = k;
    done = sym (same t k (λ r c h l. nowhere r c (dec_lt (r * (vb / E) + c) a)) ∙ add_to_nil E vb vb (sized t) tile za k);
  }
    where
      nowhere : (r c : ℕ) → Dec (r * (vb / E) + c < a) → between (vb / E) a a f r c ≡ pos 0
      nowhere r c (yes l) = between_under (vb / E) a a f r c l
      nowhere r c (no l) = between-over (vb / E) a a f r c (omega arith)

  -- one run after another
  pub since_then : {a b d : ℕ} {za₀ za₁ za : List ℕ} → Since E vb tile f a b za₀ za₁ → b ≤ d → AddedTo E vb tile f b d za₁ za
      → Since E vb tile f a d za₀ za
  since_then {a} {b} {d} {za₀} u m v = record {
    order = le_trans u.order m;
    before = u.before;
    done =
        v
        ∙ ap (add_to E vb tile (between (vb / E) b d f)) u.done
        ∙ add_to-add_to E vb vb (sized t) tile (between (vb / E) a b f) (between (vb / E) b d f) za₀ u.before
        ∙ same t u.before (λ r c h l. joined r c (dec_lt (r * (vb / E) + c) a) (dec_lt (r * (vb / E) + c) b) (dec_lt (r * (vb / E) + c) d));
  }
    where
      joined : (r c : ℕ) → Dec (r * (vb / E) + c < a) → Dec (r * (vb / E) + c < b) → Dec (r * (vb / E) + c < d)
          → between (vb / E) a b f r c +ℤ between (vb / E) b d f r c ≡ between (vb / E) a d f r c
      joined r c (yes i) j k =
          rw (between_under (vb / E) a b f r c i, between_under (vb / E) b d f r c (omega (arith, u.order)), between_under (vb / E) a d f r c i)
      joined r c (no i) (yes j) k =
          rw (between_in (vb / E) a b f r c (omega arith) j, between_under (vb / E) b d f r c j, between_in (vb / E) a d f r c (omega arith) (omega (arith, m)))
          (+ℤ_idr (f r c))
      joined r c (no i) (no j) (yes k) =
          rw (between-over (vb / E) a b f r c (omega arith), between_in (vb / E) b d f r c (omega arith) k, between_in (vb / E) a d f r c (omega arith) k)
          (+ℤ_idl (f r c))
      joined r c (no i) (no j) (no k) =
          rw (between-over (vb / E) a b f r c (omega arith), between-over (vb / E) b d f r c (omega arith), between-over (vb / E) a d f r c (omega arith))

  pub since_store : {a row col i v : ℕ} {za₀ za : List ℕ} → Since E vb tile f a (row * (vb / E) + col) za₀ za → row < vb / E → col < vb / E
      → i ≡ start E vb tile row col → v ≡ plus E (word E (at za) i) (f row col)
      → Since E vb tile f a (row * (vb / E) + (col + 1)) za₀ (sets za i (bytes_of E v))
  since_store w h l q e = since_then w (omega arith) (store_one t f (since_good w) h l q e)

  -- only what comes to the run's elements counts
  pub since_cong : (g : ℕ → ℕ → ℤ) {a b : ℕ} {za₀ za : List ℕ} → Since E vb tile f a b za₀ za
      → ((r c : ℕ) → c < vb / E → a ≤ r * (vb / E) + c → r * (vb / E) + c < b → f r c ≡ g r c) → AddedTo E vb tile g a b za₀ za
  since_cong g {a} {b} w h = w.done ∙ same t w.before (λ r c k l. alike r c l (dec_lt (r * (vb / E) + c) a) (dec_lt (r * (vb / E) + c) b))
    where
      alike : (r c : ℕ) → c < vb / E → Dec (r * (vb / E) + c < a) → Dec (r * (vb / E) + c < b) → between (vb / E) a b f r c ≡ between (vb / E) a b g r c
      alike r c l (yes i) j = rw (between_under (vb / E) a b f r c i, between_under (vb / E) a b g r c i)
      alike r c l (no i) (yes j) = rw (between_in (vb / E) a b f r c (omega arith) j, between_in (vb / E) a b g r c (omega arith) j) (h r c l (omega arith) j)
      alike r c l (no i) (no j) = rw (between-over (vb / E) a b f r c (omega arith), between-over (vb / E) a b g r c (omega arith))

  -- all rows are done
  pub since_all : {row : ℕ} {za₀ za : List ℕ} → Since E vb tile f 0 (row * (vb / E)) za₀ za → vb / E ≤ row → za ≡ add_to E vb tile f za₀
  since_all {row} w h =
      w.done ∙ same t w.before (λ r c k l. between_in (vb / E) 0 (row * (vb / E)) f r c (omega arith) (digits_lt (passed r k (dec_lt r row)) l))
    where
      passed : (r : ℕ) → r * E + tile < vb → Dec (r < row) → r < row
      passed r k (yes l) = l
      passed r k (no l) = absurd (let m : vb / E * E ≤ r * E = mul-le-mul_right E (omega arith) in omega (arith, t.whole))

-- ---- the products of one element
pub sum_same : {f g : ℕ → ℤ} (n : ℕ) → ((k : ℕ) → k < n → f k ≡ g k) → sum f n ≡ sum g n
sum_same zero h = refl
sum_same (suc n) h = ap₂ ◌+ℤ◌ (sum_same n (λ k l. h k (omega arith))) (h n (le_refl (suc n)))

pub plus_lt : (E x : ℕ) (z : ℤ) → plus E x z < 256 ^ E
unfolding plus
plus_lt E x z = mod-lt _ (pow_pos E)

pub sum-start : (E x : ℕ) (g : ℕ → ℤ) → x < 256 ^ E → x ≡ plus E x (sum g 0)
sum-start E x g h = sym (plus_nil E x h)

pub sum_turn : (E x y r k : ℕ) (g : ℕ → ℤ) → y ≡ plus E x (sum g k) → r ≡ plus E y (g k) → r ≡ plus E x (sum g (k + 1))
sum_turn E x y r k g p q = q ∙ rw (p, add-one k) (plus-plus E x (sum g k) (g k))
