-- The start, one column more, and the end.
use Rattle.std.proofs.Common.{◌≡◌, ℕ, ◌+◌, ◌*◌, ◌/◌, ◌<◌, List, map, length, get_or, sym, ap, ◌∙◌, arith}
use Rattle.std.proofs.lemmas.List.{length-map}
use Rattle.conv_theory.specs.Columns.{costs_after, nothing}
use Rattle.conv_theory.specs.declared.Cost.{Cost}
use Rattle.conv_theory.proofs.Columns.{length-costs}
use Rattle.convolutional.proofs.Forward.{costs-start, costs-step, decided-step, costs-fit}
use Rattle.convolutional.proofs.Pairs.{pair-at}
use Rattle.convolutional.proofs.trellis.forward.Goals as goal

old_long : {A : Type 0} (number : A → ℕ) (cs : List Cost) (i : ℕ) (old : List A) → map number old ≡ costs_after cs i → length old ≡ 64
old_long number cs i old e = sym (length-map old number) ∙ ap (λ (u : List ℕ). length u) e ∙ length-costs cs i

pub column-requires : goal.column-requires
column-requires g c =
    let s = g.met.N.Small.short in
    (omega (arith, s), costs-fit (map g.H.Heard.costs c.args.heard.now) c.loop-i.i g.N.Sum.most (map g.N.Sum.number c.loop-i.old) c.requires.few c.loop-i.invariant.0)

pub loop-i-init : goal.loop-i-init
loop-i-init g c =
    let number = g.N.Sum.number in
    let old = c.start-old.result in
    let cs = map g.H.Heard.costs c.args.heard.now in (
      c.start-old.ensures ∙ costs-start cs (number c.args.far) c.requires.above,
      sym (length-map old number) ∙ ap (λ (u : List ℕ). length u) c.start-old.ensures,
      λ j h. (let z : ⊥ = omega arith in absurd z),
    )

pub loop-i-preserved : goal.loop-i-preserved
loop-i-preserved g c =
    let number = g.N.Sum.number in
    let costs = g.H.Heard.costs in
    let xs = c.args.heard.now in
    let cs = map costs xs in
    let i = c.loop-i.i in
    let m = length-map xs costs in
    let n = c.as_chunks.ensures.front_len in
    let h : 2 * i + 1 < length xs = omega (arith, n, c.loop-i-test.true) in
    let k : i < length xs / 2 = omega (arith, n, c.loop-i-test.true) in
    let x : c.cost.result ≡ get_or cs (2 * i) nothing =
    c.cost.ensures ∙ pair-at costs xs _ i 0 (2 * i) _ _ _ _ nothing c.as_chunks.ensures.front k (omega arith) (omega arith) (omega (arith, h)) c.index-pairs-i.is in
    let y : c.cost-in-loop-i.result ≡ get_or cs (2 * i + 1) nothing =
    c.cost-in-loop-i.ensures ∙ pair-at costs xs _ i 1 (2 * i + 1) _ _ _ _ nothing c.as_chunks.ensures.front k (omega arith) (omega arith) h c.index-pairs-i.is in (
      ap (λ (u : List _). map number u) c.swap.ensures.x_after ∙ costs-step cs i (map number c.loop-i.old) (map number c.column.new.new) _ _ (omega (arith, m, h)) x y c.loop-i.invariant.0 c.column.ensures.costs,
      ap (λ (u : List _). length u) c.swap.ensures.y_after ∙ old_long number cs i c.loop-i.old c.loop-i.invariant.0,
      decided-step cs i (map number c.loop-i.old) c.column.new.decisions _ _ c.loop-i.decisions (omega (arith, n, c.requires.long, c.loop-i-test.true)) x y c.loop-i.invariant.0 c.column.ensures.chosen c.loop-i.invariant.2,
    )
