use Rattle.std.proofs.Common.{ℕ, ◌+◌, ◌<◌, set, replicate, sym, refl, ap, ◌∙◌, subst, arith, length-set}
use Rattle.rs_decoding.specs.Search.{Topped}
use Rattle.rs_decoding.proofs.Reduce.{topped-unit, no-pivots, pivots-more}
use Rattle.rs_decoding.proofs.search.kernel.Goals as goal

pub reduce-requires-clause-topped : goal.reduce-requires-clause-topped
reduce-requires-clause-topped c =
    let P : ℕ → Type 0 = λ k. Topped k (set (replicate 17 0) c.loop-degree.degree 1) in
    subst P (sym c.loop-degree.invariant.1) (topped-unit 17 c.loop-degree.degree (omega arith))

pub loop-degree-init : goal.loop-degree-init
loop-degree-init c = let none = no-pivots c.args.rows 16 c.args.s.now in (refl, none.1, none.0)

pub loop-degree-preserved : goal.loop-degree-preserved
loop-degree-preserved c =
    let fits = c.in-Some.ensures in
    let row : c.in-Some.i < c.args.rows = fits.row in
    let more = pivots-more c.args.rows c.in-Some.i c.in-Some.head c.args.s.now c.loop-degree.pivots c.reduce.new.vector (omega arith) c.loop-degree.invariant.2 fits in
    (length-set c.loop-degree.pivots c.in-Some.i _ ∙ c.loop-degree.invariant.0, more.1 ∙ ap (λ (n : ℕ). n + 1) c.loop-degree.invariant.1, more.0)
