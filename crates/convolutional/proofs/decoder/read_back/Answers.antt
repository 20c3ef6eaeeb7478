-- From the end, one column back, and at the start.
use Rattle.std.proofs.Common.{◌≡◌, ℕ, ◌+◌, ◌*◌, ◌/◌, ◌%◌, ◌<◌, List, [], ◌∷◌, ◌++◌, length, get_or, set, sym, refl, ap, ◌∙◌, subst, arith}
use Rattle.std.proofs.lemmas.List.{append_assoc, append-nil, length-append, get_or-append-add}
use Rattle.conv_theory.specs.Columns.{Decided}
use Rattle.convolutional.proofs.Reading.{Reads, reads_first, reads_more, reads_all}
use Rattle.convolutional.proofs.decoder.read_back.Goals as goal

pub loop-i-init : goal.loop-i-init
loop-i-init c =
    let ds = c.args.decisions.now in
    let rest = c.into_iter-i-iterator.result.iter.iter.rest.now in
    let e : rest ≡ ds = cc in
    let n : c.into_iter-i-iterator.result.iter.count ≡ 0 = cc in
    let l = ap (λ (u : List (List ℕ)). length u) e in (
      (_, _, omega (arith, n, l)),
      _,
      n,
      ([], sym (append-nil rest ∙ e)),
      omega arith,
      λ cs h d. reads_first (length c.args.out.now) cs c.args.out.now (length rest) (l ∙ c.requires) refl (h ∙ ap (λ (k : ℕ). 2 * k) (sym l)),
    )

pub loop-i-preserved : goal.loop-i-preserved
loop-i-preserved c =
    let ds = c.args.decisions.now in
    let n = length c.args.out.now in
    let steps = c.in-Some.ensures.steps in
    let inv = c.loop-i.invariant in
    let rest = c.next.new.self.iter.iter.rest.now in
    let row = c.in-Some.row.now in
    let tail = inv.3.0 in
    let s = c.loop-i.state in
    let whole : ds ≡ rest ++ row ∷ tail = inv.3.1 ∙ ap (λ (u : List (List ℕ)). u ++ tail) steps.1.0 ∙ append_assoc rest (row ∷ []) tail in
    let i = length rest in
    let l = ap (λ (u : List (List ℕ)). length u) whole ∙ length-append rest (row ∷ tail) in
    let m = ap (λ (u : List (List ℕ)). length u) steps.1.0 ∙ length-append rest (row ∷ []) in
    let z : i ≡ i + 0 = omega arith in
    let e : length c.loop-i.i-iterator.iter.iter.rest.now ≡ i + 1 = m in
    let f : c.in-Some.i ≡ i = omega (arith, steps.1.1, inv.2) in
    let k : length ds ≡ n + 6 = c.requires in
    let h : i < n + 6 = omega (arith, l, k) in
    let there : get_or ds i [] ≡ row = ap (λ (u : List (List ℕ)). get_or u i []) whole ∙ ap (λ (j : ℕ). get_or (rest ++ row ∷ tail) j []) z ∙ get_or-append-add rest (row ∷ tail) 0 [] in (
      (_, _, omega (arith, steps.0, inv.0.2, e)),
      _,
      steps.0 ∙ inv.2,
      (row ∷ tail, whole),
      omega arith,
      λ cs hc d.
          subst (λ (o : List ℕ). Reads cs o i (2 * (s % 32) + c.from.result)) (sym (c.put.ensures ∙ ap (λ (j : ℕ). set c.loop-i.out j (s / 32)) f))
          (reads_more n cs ds c.loop-i.out i s c.from.result c.loop-i.auto.out (omega (arith, hc, k)) (subst (λ (j : ℕ). Decided cs j ds) k d) h inv.4
          (c.from.ensures ∙ ap (λ (u : List ℕ). get_or u s 0 % 2) (sym there)) (subst (λ (j : ℕ). Reads cs c.loop-i.out j s) e (inv.5 cs hc d))),
    )

pub returns : goal.returns
returns c =
    λ cs h d.
    let n = length c.args.out.now in
    let ds = c.args.decisions.now in
    let m : length ds ≡ n + 6 = c.requires in
    reads_all n cs c.loop-i.out _ c.loop-i.state c.loop-i.auto.out h (omega (arith, c.in-None.ensures.steps.1.0))
    (c.loop-i.invariant.5 cs (omega (arith, h, m)) (subst (λ (k : ℕ). Decided cs k ds) (sym m) d))
