-- What the decoder's arithmetic computes, in the field's operators. Assumes nothing.
use Rattle.std.proofs.Common.{◌≡◌, ℕ, ◌-◌, ◌<◌, get_or, arith, sym, refl, ap, ◌∙◌, subst}
use lib.Bits.{bit_xor}
use Rattle.gf256.specs.Field.{product_by, product, power, inverse}
use Rattle.rs_theory.proofs.Value.{locators, get_or-locators}
use Rattle.gf256.proofs.Ring.{◌⊕◌, ◌⊙◌, xor_is, product_is, ⊕-below, ⊙-zero-r}

inverse-zero : inverse 0 ≡ 0
unfolding product_by product power
inverse-zero = refl

pub add_product : (a b c : ℕ) → b < 256 → c < 256 → bit_xor a (product b c) ≡ a ⊕ (b ⊙ c)
add_product a b c hb hc = xor_is a (product b c) ∙ ap (λ (n : ℕ). a ⊕ n) (product_is b c hb hc)

pub product_sum : (a b c : ℕ) → a < 256 → b < 256 → c < 256 → product a (bit_xor b c) ≡ a ⊙ (b ⊕ c)
product_sum a b c ha hb hc =
    let hx : bit_xor b c < 256 = subst (λ (n : ℕ). n < 256) (sym (xor_is b c)) (⊕-below b c hb hc) in
    product_is a (bit_xor b c) ha hx ∙ ap (λ (n : ℕ). a ⊙ n) (xor_is b c)

pub quotient_zero : (a d : ℕ) → d ≡ 0 → a ⊙ inverse d ≡ 0
quotient_zero a d e = ap (λ (n : ℕ). a ⊙ inverse n) e ∙ ap (λ (n : ℕ). a ⊙ n) inverse-zero ∙ ⊙-zero-r a

pub quotient_some : (a d i : ℕ) → a < 256 → i < 256 → i ≡ inverse d → product a i ≡ a ⊙ inverse d
quotient_some a d i ha hi e = product_is a i ha hi ∙ ap (λ (n : ℕ). a ⊙ n) e

pub locator_at : (p : ℕ) → p < 255 → power 2 (254 - p) ≡ get_or (locators 255) p 0
locator_at p h = ap (power 2) (omega arith) ∙ sym (get_or-locators 255 p h)
