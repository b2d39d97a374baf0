-- The bounds of what the products of an element come to together (document 01, "Execution"). Over the number of bytes of a
-- source element and the number of products. Assumes nothing.
use Rattle.std.proofs.Common.{◌≡◌, ℕ, zero, suc, ◌+◌, ◌-◌, ◌*◌, ◌/◌, ◌^◌, ◌<◌, ◌≤◌, Bool, true, false, cond, ltb, List, ℤ, pos, negsuc, ◌+ℤ◌, ◌*ℤ◌, neg_ℤ, refl, zero-le, le_trans, not-suc-le-zero, suc-mul, mul_comm, mul-le-mul, pow-suc, arith, lit<, le→leb, ltb-false, ltb-true}
use lib.IntN.{sub_ℕ}
use Rattle.storage.specs.Bytes.{at}
use Rattle.storage.proofs.Bytes.{word_lt}
use Rattle.outer.specs.declared.OuterProduct.{OuterProduct}
use Rattle.outer.specs.Products.{interpret, register_at, source_element, first_element, second_element, counts, product, sum, Shaped, bytes32, halves64, halves32, least, most, Between}

-- -low ≤ z ≤ high, by z's sign; negsuc n is -(n + 1)
abbrev Within : ℕ → ℕ → ℤ → Type 0
Within low high (pos n) = n ≤ high
Within low high (negsuc n) = n < low

within_between : (low high : ℕ) (z : ℤ) → Within low high z → Between (neg_ℤ (pos low)) (pos high) z
within_between zero high (pos n) h = record { above = record { le = le→leb 0 n zero-le }; below = record { le = le→leb n high h } }
within_between (suc low) high (pos n) h = record { above = record { le = tt }; below = record { le = le→leb n high h } }
within_between zero high (negsuc n) h = absurd (not-suc-le-zero h)
within_between (suc low) high (negsuc n) h = record { above = record { le = le→leb n low (omega arith) }; below = record { le = tt } }

-- ---- sums, negations and products

within_sub : (low high m n : ℕ) → m ≤ high → n ≤ low → Within low high (sub_ℕ m n)
within_sub low high m n a b = go (ltb m n) refl
  where
    go : (t : Bool) → ltb m n ≡ t → Within low high (cond t (negsuc (n - suc m)) (pos (m - n)))
    go true e = omega (arith, ltb-true m n e)
    go false e = omega arith

within_add : (a b c d : ℕ) (x y : ℤ) → Within a b x → Within c d y → Within (a + c) (b + d) (x +ℤ y)
within_add a b c d (pos m) (pos n) h k = omega arith
within_add a b c d (pos m) (negsuc n) h k = within_sub (a + c) (b + d) m (suc n) (omega arith) (omega arith)
within_add a b c d (negsuc m) (pos n) h k = within_sub (a + c) (b + d) n (suc m) (omega arith) (omega arith)
within_add a b c d (negsuc m) (negsuc n) h k = omega arith

within_sum : (low high : ℕ) (f : ℕ → ℤ) → ((k : ℕ) → Within low high (f k)) → (n : ℕ) → Within (n * low) (n * high) (sum f n)
within_sum low high f h zero = zero-le
within_sum low high f h (suc n) =
    rw (suc-mul n low, suc-mul n high)
    (within_add (n * low) (n * high) low high (sum f n) (f n) (within_sum low high f h n) (h n))

within_neg : (low high n : ℕ) → n ≤ low → Within low high (neg_ℤ (pos n))
within_neg low high zero h = zero-le
within_neg low high (suc n) h = h

within_mul : (low high : ℕ) → low ≤ high → (x y : ℤ) → Within low high x → Within low high y → Within (low * high) (high * high) (x *ℤ y)
within_mul low high l (pos m) (pos n) h k = mul-le-mul h k
within_mul low high l (pos m) (negsuc n) h k = within_neg (low * high) (high * high) (m * suc n) (rw (mul_comm low high) (mul-le-mul h k))
within_mul low high l (negsuc m) (pos n) h k = within_neg (low * high) (high * high) (suc m * n) (mul-le-mul h k)
within_mul low high l (negsuc m) (negsuc n) h k = mul-le-mul (le_trans h l) (le_trans k l)

-- ---- source elements of B bytes

-- they lie between -lowest B, in two's complement, and highest B, unsigned
abbrev pub lowest : ℕ → ℕ
lowest B = 256 ^ B / 2

abbrev pub highest : ℕ → ℕ
highest B = 256 ^ B - 1

within_element : (B : ℕ) → 0 < B → (u : Bool) (n : ℕ) → n < 256 ^ B → Within (lowest B) (highest B) (interpret B u n)
within_element zero s u n h = absurd (not-suc-le-zero s)
within_element (suc B) s true n h = omega arith
within_element (suc B) s false n h = go (ltb n (256 ^ suc B / 2)) refl
  where
    go : (t : Bool) → ltb n (256 ^ suc B / 2) ≡ t → Within (lowest (suc B)) (highest (suc B)) (cond t (pos n) (negsuc (256 ^ suc B - suc n)))
    go true e = omega arith
    go false e = omega (arith, pow-suc 256 B, ltb-false n (256 ^ suc B / 2) e)

low-high : (B : ℕ) → 0 < B → lowest B ≤ highest B
low-high zero s = absurd (not-suc-le-zero s)
low-high (suc B) s = omega arith

module _ (E K vb : ℕ) (s : 0 < E / K) (o : OuterProduct) (z p : List ℕ) (row col : ℕ) (bytes : (i : ℕ) → at z i < 256) where
  abbrev low : ℕ
  low = lowest (E / K)

  abbrev high : ℕ
  high = highest (E / K)

  within_source : (u : Bool) (register e : ℕ) → Within low high (interpret (E / K) u (source_element (E / K) vb z register e))
  within_source u register e = within_element (E / K) s u _ (word_lt (E / K) (register * vb + e * (E / K)) (at z) bytes)

  within_product : (k : ℕ) → Within (low * high) (high * high) (product E K vb o z p row col k)
  unfolding product
  within_product k = go (counts E K vb o z p row col k)
    where
      x : ℤ
      x = first_element E K vb o z p row col k

      y : ℤ
      y = second_element E K vb o z p row col k

      go : (t : Bool) → Within (low * high) (high * high) (cond t (x *ℤ y) (pos 0))
      go true =
          within_mul low high (low-high (E / K) s) x y
          (within_source o.first.unsigned (register_at o.first (vb / E) col) (K * row + k))
          (within_source o.second.unsigned (register_at o.second (vb / E) row) (K * col + k))
      go false = zero-le

  -- K products of elements of E / K bytes
  pub products_between : Between (neg_ℤ (pos (K * (low * high)))) (pos (K * (high * high))) (sum (product E K vb o z p row col) K)
  products_between = within_between _ _ _ (within_sum _ _ (product E K vb o z p row col) within_product K)

-- in each shape, between its figures
pub products_in_bounds : {E K : ℕ} (sh : Shaped E K) (vb : ℕ) (o : OuterProduct) (z p : List ℕ) (row col : ℕ) → ((i : ℕ) → at z i < 256)
    → Between (least sh) (most sh) (sum (product E K vb o z p row col) K)
products_in_bounds bytes32 vb = products_between 4 4 vb (lit< tt)
products_in_bounds halves64 vb = products_between 8 4 vb (lit< tt)
products_in_bounds halves32 vb = products_between 4 2 vb (lit< tt)
