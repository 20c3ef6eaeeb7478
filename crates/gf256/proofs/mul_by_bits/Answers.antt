-- One bit after the other is the definition. Assumes nothing.
use Rattle.std.proofs.Common.{◌≡◌, ◌+◌, ◌-◌, ◌/◌, ◌≤◌, ℕ, suc, sym, refl, ap, ◌∙◌, arith}
use lib.Bits.{bit_xor}
use Rattle.gf256.specs.Field.{product, product_by}
use Rattle.gf256.proofs.Rules.{bits-more, bits-none}
use Rattle.gf256.proofs.mul_by_bits.Goals as goal

pub loop-init : goal.loop-init
unfolding product
loop-init c = (omega arith, refl)

pub loop-preserved : goal.loop-preserved
loop-preserved c =
    let h : c.loop.counter + 1 ≤ 8 = omega arith in
    let e : suc (8 - (c.loop.counter + 1)) ≡ 8 - c.loop.counter = omega arith in (
      h,
      ap (λ (x : ℕ). bit_xor (bit_xor c.loop.sum c.if_odd-sum.result) (product_by (8 - (c.loop.counter + 1)) x (c.loop.rest / 2))) c.double-multiple.ensures ∙
          bits-more (8 - (c.loop.counter + 1)) c.loop.sum c.loop.multiple c.loop.rest _ (ap (bit_xor c.loop.sum) c.if_odd-sum.ensures) ∙
          ap (λ (n : ℕ). bit_xor c.loop.sum (product_by n c.loop.multiple c.loop.rest)) e ∙ c.loop.invariant.1,
    )

pub returns : goal.returns
returns c =
    let e : 8 - c.loop.counter ≡ 0 = omega arith in
    sym (bits-none c.loop.sum c.loop.multiple c.loop.rest) ∙ ap (λ (n : ℕ). bit_xor c.loop.sum (product_by n c.loop.multiple c.loop.rest)) (sym e) ∙ c.loop.invariant.1
