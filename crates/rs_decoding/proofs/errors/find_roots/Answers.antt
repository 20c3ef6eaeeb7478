use Rattle.std.proofs.Common.{◌≡◌, ℕ, ◌+◌, ◌<◌, List, [], ◌∷◌, ◌++◌, length, drop, sym, ◌∙◌, ap, subst, arith, rules}
use Rattle.rs_theory.proofs.Value.{locators, length-locators}
use Rattle.rs_decoding.specs.Decoding.{roots_of}
use Rattle.rs_decoding.proofs.ErrorSteps.{roots-hit, roots-miss, roots-end, roots-many}
use Rattle.rs_decoding.proofs.errors.find_roots.Goals as goal
use Rattle.rs_decoding.proofs.errors.find_roots.Goals.{then-value-eq0+in_ok-ok, else-value-eq0}

pub returns-in_err-ok : goal.returns-in_err-ok
returns-in_err-ok c =
    let h : c.loop-p.p < length c.args.values.now = omega arith in
    let g : c.loop-p.p < length (locators 255) = omega (arith, length-locators 255) in
    let full : length c.loop-p.roots.items ≡ 16 = search rules in
    let m : length c.loop-p.roots.items < length (roots_of c.args.values.now (locators 255)) =
    roots-many c.loop-p.p c.loop-p.roots.items c.args.values.now (locators 255) _ h g c.if-value-eq0.true c.loop-p.invariant in
    rw c.from_residual.ensures (omega arith)

pub loop-p-preserved : goal.loop-p-preserved
loop-p-preserved c =
    let vs : List ℕ = c.args.values.now in
    let p : ℕ = c.loop-p.p in
    let h : p < length vs = omega arith in
    let g : p < length (locators 255) = omega (arith, length-locators 255) in
    let P : List ℕ → Type 0 = λ found. found ++ roots_of (drop (p + 1) vs) (drop (p + 1) (locators 255)) ≡ roots_of vs (locators 255) in
    elim c.if-value-eq0.branch [
      | then-value-eq0+in_ok-ok w ↦
          let more : w.try_push.new.self.items ≡ c.loop-p.roots.items ++ w.locator.result ∷ [] = search rules in
          subst P (sym (ap (λ v. v.items) w.roots-is ∙ more))
          (roots-hit p w.locator.result c.loop-p.roots.items vs (locators 255) _ h g w.if-value-eq0.true w.locator.ensures c.loop-p.invariant)
      | else-value-eq0 w ↦ subst P (sym (ap (λ v. v.items) w.roots-is)) (roots-miss p c.loop-p.roots.items vs (locators 255) _ h g w.if-value-eq0.false c.loop-p.invariant)
    ]

pub returns : goal.returns
returns c = roots-end c.loop-p.p c.loop-p.roots.items c.args.values.now (drop c.loop-p.p (locators 255)) _ (omega arith) c.loop-p.invariant
