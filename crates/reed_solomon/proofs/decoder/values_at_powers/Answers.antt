use Rattle.std.proofs.Common.{◌≡◌, ℕ, suc, ◌+◌, ◌<◌, ◌≤◌, List, length, get_or, drop, subst, sym, refl, ap, ◌∙◌, arith}
use lib.Bits.{bit_xor}
use Rattle.std.proofs.lemmas.List.{at_drop_more, at_drop_all, get_or-replicate}
use Rattle.gf256.specs.Field.{product, power}
use Rattle.gf256.proofs.Ring.{◌⊕◌, ◌⊙◌, ⊕-comm, ⊙-comm, product_is, xor_is, pow2-below, ⊕-below, ⊙-below}
use Rattle.rs_theory.specs.Code.{value_from}
use Rattle.reed_solomon.proofs.decoder.values_at_powers.Goals as goal

-- one byte further by Horner's rule
step : (z acc i : ℕ) (w : List ℕ) → i < length w → value_from z acc (drop i w) ≡ value_from z (bit_xor (product acc z) (get_or w i 0)) (drop (i + 1) w)
unfolding value_from
step z acc i w h = at_drop_more (value_from z acc) w i 0 h

end : (z acc i : ℕ) (w : List ℕ) → length w ≤ i → value_from z acc (drop i w) ≡ acc
unfolding value_from
end z acc i w h = at_drop_all (value_from z acc) w i h

-- the same in the field's operators
horner : (x s b k : ℕ) → x ≡ power 2 k → s < 256 → b ⊕ (x ⊙ s) ≡ bit_xor (product s (power 2 k)) b
horner x s b k e h =
    ap (λ (y : ℕ). b ⊕ (y ⊙ s)) e
    ∙ ⊕-comm b (power 2 k ⊙ s)
    ∙ ap (λ (v : ℕ). v ⊕ b) (⊙-comm (power 2 k) s ∙ sym (product_is s (power 2 k) h (pow2-below k)))
    ∙ sym (xor_is (product s (power 2 k)) b)

pub loop-b-init : goal.loop-b-init
loop-b-init c = (refl, λ j h. omega (arith, get_or-replicate {A = ℕ} 32 j 0 0 h), λ j h. ap (λ (n : ℕ). value_from (power 2 (suc j)) n c.args.rest.now) (get_or-replicate 32 j 0 0 h))

pub loop-b-preserved : goal.loop-b-preserved
loop-b-preserved c =
    let w : List ℕ = c.args.rest.now in
    let i : ℕ = c.loop-b.b-index in
    let h : i < length w = omega arith in (
      c.take_in.array_long,
      λ j g.
          let x : ℕ = get_or c.powers-powers.result j 0 in
          let v : ℕ = get_or c.loop-b.s j 0 in
          subst (λ (n : ℕ). n < 256) (sym (c.take_in.ensures j g)) (⊕-below (get_or w i 0) (x ⊙ v) (c.fits-rest i) (⊙-below x v)),
      λ j g.
          ap (λ (n : ℕ). value_from (power 2 (suc j)) n (drop (i + 1) w)) (c.take_in.ensures j g ∙ horner _ (get_or c.loop-b.s j 0) (get_or w i 0) (suc j) (c.powers-powers.ensures j g) (c.loop-b.invariant.1 j g))
          ∙ sym (step (power 2 (suc j)) (get_or c.loop-b.s j 0) i w h)
          ∙ c.loop-b.invariant.2 j g,
    )

pub returns : goal.returns
returns c =
    let w : List ℕ = c.args.rest.now in
    let h : length w ≤ c.loop-b.b-index = omega arith in
    λ j g. sym (end (power 2 (suc j)) (get_or c.loop-b.s j 0) c.loop-b.b-index w h) ∙ c.loop-b.invariant.2 j g
