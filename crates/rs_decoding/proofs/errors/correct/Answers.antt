use Rattle.std.proofs.Common.{◌≡◌, ℕ, ◌+◌, ◌<◌, List, ◌++◌, length, get_or, take, drop, sym, ap, ◌∙◌, ap₂, subst, arith, length-set}
use lib.Bits.{bit_xor}
use Rattle.std.proofs.lemmas.List.{set-get_or}
use Rattle.gf256.proofs.Ring.{◌⊕◌, xor_is}
use Rattle.rs_theory.proofs.Value.{locators, length-locators}
use Rattle.rs_decoding.specs.Decoding.{corrected, value_at}
use Rattle.rs_decoding.proofs.ErrorSteps.{corrected-hit, corrected-miss, corrected-end}
use Rattle.rs_decoding.proofs.errors.correct.Goals as goal
use Rattle.rs_decoding.proofs.errors.correct.Goals.{then-values-p-eq0, else-values-p-eq0}

pub loop-p-preserved : goal.loop-p-preserved
loop-p-preserved c =
    let vs : List ℕ = c.args.values.now in
    let ys : List ℕ = c.args.roots.now.items in
    let s : List ℕ = c.args.s.now in
    let ws : List ℕ = c.loop-p.word in
    let p : ℕ = c.loop-p.p in
    let h : p < length vs = omega arith in
    let f : p < length ws = omega arith in
    let g : p < length (locators 255) = omega (arith, length-locators 255) in
    let P : List ℕ → Type 0 =
    λ v.
    (length v ≡ 255)
    × (take (p + 1) v ++ corrected (drop (p + 1) vs) ys s (drop (p + 1) v) (drop (p + 1) (locators 255)) ≡ corrected vs ys s c.args.word.now (locators 255)) in
    elim c.if-values-p-eq0.branch [
      | then-values-p-eq0 w ↦
          let r : ℕ = bit_xor (get_or ws p 0) w.error_value.result in
          subst P (sym w.word-is) (
            length-set ws p r ∙ c.loop-p.invariant.0,
            corrected-hit p r vs ys s ws (locators 255) _ h f g w.if-values-p-eq0.true
                (xor_is (get_or ws p 0) w.error_value.result
                ∙ ap (λ (n : ℕ). get_or ws p 0 ⊕ n)
                (w.error_value.ensures ∙ ap₂ (λ (x : ℕ) (l : List ℕ). value_at x l s) w.locator.ensures w.deref.ensures.0))
                c.loop-p.invariant.1,
          )
      | else-values-p-eq0 w ↦
          subst P (sym (w.word-is ∙ set-get_or ws p 0)) (c.loop-p.invariant.0, corrected-miss p vs ys s ws (locators 255) _ h f g w.if-values-p-eq0.false c.loop-p.invariant.1)
    ]

pub returns : goal.returns
returns c =
    corrected-end c.loop-p.p c.args.values.now c.args.roots.now.items c.args.s.now c.loop-p.word (drop c.loop-p.p (locators 255)) _ (omega arith) c.loop-p.invariant.1
