-- The laws of the field for bytes, in the terms of the specs. Assumes nothing.
use Rattle.std.proofs.Common.{◌≡◌, ℕ, ◌%◌, ◌<◌, Bool, T, eqb, ◌⊎◌, get_or, sym, ap, ◌∙◌, ap₂, inl, inr, ⊎_elim, arith, eqb→eq}
use lib.Bits.{bit_xor, xor_lt, xor_comm, xor_assoc, xor_zero_l, xor_self}
use Rattle.gf256.specs.Field.{twice, product, product_by, power, inverse}
use Rattle.gf256.specs.Laws.{FieldLaws}
use Rattle.gf256.proofs.Basis.{all_below, at-below}
use Rattle.gf256.proofs.Table.{logs, Log, log_is}
use Rattle.gf256.proofs.Ring.{◌⊕◌, ◌⊙◌, xor_is, product_is, ⊙-below, ⊙-comm, ⊙-assoc, ⊙-distr-l, ⊙-one, ⊙-nonzero, ⊙-inverse, pow_below, power-is, pow2-order, pow2-distinct}

pub product-below : (a b : ℕ) → a < 256 → b < 256 → product a b < 256
product-below a b p q = rw (product_is a b p q) (⊙-below a b)

pub power_below : (a k : ℕ) → a < 256 → power a k < 256
power_below a k p = rw (power-is a k p) (pow_below a k)

commutative : (a b : ℕ) → a < 256 → b < 256 → product a b ≡ product b a
commutative a b p q = product_is a b p q ∙ ⊙-comm a b ∙ sym (product_is b a q p)

associative : (a b c : ℕ) → a < 256 → b < 256 → c < 256 → product (product a b) c ≡ product a (product b c)
associative a b c p q r =
    product_is (product a b) c (product-below a b p q) r ∙ ap (λ (x : ℕ). x ⊙ c) (product_is a b p q) ∙ ⊙-assoc a b c ∙
    ap (λ (x : ℕ). a ⊙ x) (sym (product_is b c q r)) ∙ sym (product_is a (product b c) p (product-below b c q r))

distributive : (a b c : ℕ) → a < 256 → b < 256 → c < 256 → product a (bit_xor b c) ≡ bit_xor (product a b) (product a c)
distributive a b c p q r =
    product_is a (bit_xor b c) p (xor_lt 8 b c q r) ∙ ap (λ (x : ℕ). a ⊙ x) (xor_is b c) ∙ ⊙-distr-l a b c ∙
    sym (xor_is (product a b) (product a c) ∙ ap₂ ◌⊕◌ (product_is a b p q) (product_is a c p r))

no_zero_divisors : (a b : ℕ) → a < 256 → b < 256 → product a b ≡ 0 → (a ≡ 0) ⊎ (b ≡ 0)
no_zero_divisors a b p q e = ⊎_elim (λ z. inl (omega arith)) (λ z. inr (omega arith)) (⊙-nonzero a b (sym (product_is a b p q) ∙ e))

pub product-inverse : (a : ℕ) → a < 256 → (a ≡ 0 → ⊥) → product a (inverse a) ≡ 1
product-inverse a p n =
    let m : a % 256 ≡ a = omega arith in
    product_is a (inverse a) p (power_below a 254 p) ∙ ap (λ (x : ℕ). a ⊙ inverse x) (sym m) ∙ ⊙-inverse a (λ z. n (sym m ∙ z))

-- ---- doubling: one test for each byte
doubles : ℕ → Bool
doubles a = eqb (product 2 a) (twice a)

doubles-all : T (all_below 256 doubles)
unfolding doubles product product_by
doubles-all = tt

double : (a : ℕ) → a < 256 → product 2 a ≡ twice a
unfolding doubles
double a p = eqb→eq _ _ (at-below 256 doubles doubles-all a p)

pub laws : FieldLaws
laws = record {
  sum_closed = xor_lt 8;
  sum_commutative = xor_comm;
  sum_associative = xor_assoc;
  sum_zero = xor_zero_l;
  sum_self = xor_self;
  closed = product-below;
  commutative = commutative;
  associative = associative;
  distributive = distributive;
  one = λ a p. product_is 1 a (omega arith) p ∙ ⊙-one a p;
  no_zero_divisors = no_zero_divisors;
  inverses = product-inverse;
  double = double;
  order = pow2-order;
  distinct = pow2-distinct;
  powers = λ a p n. let l : Log a = log_is a p n in (get_or logs a 0, l.below, l.is);
}
