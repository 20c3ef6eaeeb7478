use Rattle.std.proofs.Common.{◌≡◌, ℕ, ◌+◌, ◌<◌, ◌≤◌, List, length, get_or, drop, sym, ◌∙◌, ap₂, subst₂}
use Rattle.gf256.specs.Field.{inverse}
use Rattle.gf256.proofs.Ring.{◌⊙◌}
use Rattle.rs_decoding.specs.Decoding.{peel_others, others, value_at}
use Rattle.rs_decoding.proofs.ErrorSteps.{peel-others-skip, peel-others-step, peel-others-end, others-skip, others-step, others-end}
use Rattle.rs_decoding.proofs.errors.error_value.Goals as goal
use Rattle.rs_decoding.proofs.errors.error_value.Goals.{then-y-x, else-y-x}

pub loop-k-preserved : goal.loop-k-preserved
loop-k-preserved c =
    let x : ℕ = c.args.x in
    let ys : List ℕ = c.args.roots.now in
    let k : ℕ = c.loop-k.k in
    let h : k < length ys = c.loop-k-test.true in
    let P : List ℕ → ℕ → Type 0 =
    λ t d.
    (peel_others x (drop (k + 1) ys) t ≡ peel_others x ys c.args.s.now)
    × (others x (drop (k + 1) ys) x d ≡ others x ys x x) in
    elim c.if-y-x.branch [
      | then-y-x w ↦
          subst₂ P (sym w.t-is) (sym w.divisor-is) (
            peel-others-step x k ys c.loop-k.t w.peel_off.new.t _ h w.if-y-x.true w.peel_off.ensures c.loop-k.invariant.0,
            others-step x k x c.loop-k.divisor w.multiply_sum-divisor.result _ ys h w.if-y-x.true w.multiply_sum-divisor.ensures c.loop-k.invariant.1,
          )
      | else-y-x w ↦
          subst₂ P (sym w.t-is) (sym w.divisor-is) (
            peel-others-skip x k ys c.loop-k.t _ h w.if-y-x.false c.loop-k.invariant.0,
            others-skip x k x c.loop-k.divisor _ ys h w.if-y-x.false c.loop-k.invariant.1,
          )
    ]

pub returns : goal.returns
unfolding value_at
returns c =
    let x : ℕ = c.args.x in
    let ys : List ℕ = c.args.roots.now in
    let k : ℕ = c.loop-k.k in
    let h : length ys ≤ k = c.loop-k-test.false in
    c.quotient.ensures
    ∙ ap₂ (λ (t : List ℕ) (d : ℕ). get_or t 0 0 ⊙ inverse d) (peel-others-end x k ys c.loop-k.t _ h c.loop-k.invariant.0) (others-end x k x c.loop-k.divisor _ ys h c.loop-k.invariant.1)
