-- Above the degree are zeros; one coefficient more; and all of them. Assumes nothing.
use Rattle.std.proofs.Common.{◌≡◌, ℕ, ◌+◌, List, [], ◌∷◌, ◌++◌, get_or, take, drop, sym, refl, ap, ◌∙◌, ap₂, append_assoc, arith}
use Rattle.std.proofs.lemmas.List.{get_or-replicate, nil_from_length, take-append-drop}
use Rattle.gf256.proofs.Ring.{◌⊕◌, ◌⊙◌}
use Rattle.rs_theory.proofs.Value.{locators, length-locators}
use Rattle.rs_decoding.specs.Decoding.{evaluate}
use Rattle.rs_decoding.proofs.Steps.{evaluate-above}
use Rattle.rs_decoding.proofs.ErrorSteps.{values-are}
use Rattle.rs_decoding.proofs.polynomial.Polynomial.values.Goals as goal

pub loop-a-init : goal.loop-a-init
loop-a-init c =
    let l : List ℕ = c.args.self.now.coefficients in
    let n : ℕ = c.args.self.now.degree + 1 in
    let e : c.into_iter-a-iterator.result.iter.rest.now ≡ take n l = cc in (
      refl,
      (
        drop n l,
        sym (ap (λ (u : List ℕ). u ++ drop n l) e ∙ take-append-drop n l),
        λ p h. get_or-replicate 255 p 0 0 h ∙ sym (evaluate-above l c.args.self.now.degree (get_or (locators 255) p 0) (λ j h. c.args.self.now.above j h)),
      ),
    )

pub loop-a-preserved : goal.loop-a-preserved
unfolding evaluate
loop-a-preserved c =
    let rest : List ℕ = c.next.new.self.iter.rest.now in
    let a : ℕ = c.in-Some.a.now in
    let before : List ℕ = c.loop-a.invariant.1.0 in
    let e : c.loop-a.a-iterator.iter.rest.now ≡ rest ++ a ∷ [] = c.in-Some.ensures.steps in (
      c.take_in.array_long,
      (
        a ∷ before,
        c.loop-a.invariant.1.1 ∙ ap (λ (u : List ℕ). u ++ before) e ∙ append_assoc rest (a ∷ []) before,
        λ p h. c.take_in.ensures p h ∙ ap₂ (λ (x v : ℕ). a ⊕ (x ⊙ v)) (c.places-places.ensures p h) (c.loop-a.invariant.1.2 p h),
      ),
    )

pub returns : goal.returns
returns c =
    let l : List ℕ = c.args.self.now.coefficients in
    let taken : List ℕ = c.loop-a.invariant.1.0 in
    let none : c.loop-a.a-iterator.iter.rest.now ≡ [] = nil_from_length _ c.in-None.ensures.steps.0 in
    let all : l ≡ taken = c.loop-a.invariant.1.1 ∙ ap (λ (u : List ℕ). u ++ taken) none in
    values-are l c.loop-a.values (locators 255) (c.loop-a.invariant.0 ∙ sym (length-locators 255))
    (λ k h. c.loop-a.invariant.1.2 k (omega (arith, length-locators 255)) ∙ ap (λ (u : List ℕ). evaluate u (get_or (locators 255) k 0)) (sym all))
