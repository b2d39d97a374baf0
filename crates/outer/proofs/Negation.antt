-- An outer product with add and subtract exchanged brings the negative to every element. Assumes nothing.
use Rattle.std.proofs.Common.{◌≡◌, ℕ, zero, suc, Bool, true, false, not, List, ℤ, ◌+ℤ◌, neg_ℤ, sym, refl, ◌∙◌, ap₂}
use lib.IntN.{neg_ℤ-neg_ℤ, neg_ℤ-+ℤ}
use Rattle.outer.specs.declared.OuterProduct.{OuterProduct}
use Rattle.outer.specs.Products.{product, sum, directed, directed_product, dot}

sum_negated : (f g : ℕ → ℤ) → ((k : ℕ) → g k ≡ neg_ℤ (f k)) → (n : ℕ) → sum g n ≡ neg_ℤ (sum f n)
sum_negated f g e zero = refl
sum_negated f g e (suc n) = ap₂ ◌+ℤ◌ (sum_negated f g e n) (e n) ∙ sym (neg_ℤ-+ℤ (sum f n) (f n))

directed-not : (s : Bool) (x : ℤ) → directed (not s) x ≡ neg_ℤ (directed s x)
directed-not true x = sym (neg_ℤ-neg_ℤ x)
directed-not false x = refl

-- the same product, taken the other way
abbrev pub other_way : OuterProduct → OuterProduct
other_way o = record {
  element = o.element;
  products = o.products;
  tile = o.tile;
  first = o.first;
  second = o.second;
  subtract = not o.subtract;
}

module _ (E K vb : ℕ) (o : OuterProduct) (z p : List ℕ) (row col : ℕ) where
  one_negated : (k : ℕ) → directed_product E K vb (other_way o) z p row col k ≡ neg_ℤ (directed_product E K vb o z p row col k)
  unfolding product
  one_negated k = directed-not o.subtract (product E K vb o z p row col k)

  pub dot_negated : dot E K vb (other_way o) z p row col ≡ neg_ℤ (dot E K vb o z p row col)
  unfolding dot
  dot_negated = sum_negated (directed_product E K vb o z p row col) (directed_product E K vb (other_way o) z p row col) one_negated K
