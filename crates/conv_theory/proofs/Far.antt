-- What a start in another state than 0 costs does not matter, as long as it is more than every way from state 0. Assumes nothing.
use Rattle.std.proofs.Common.{◌≡◌, ℕ, zero, suc, ◌+◌, ◌*◌, ◌/◌, ◌%◌, ◌<◌, ◌≤◌, max, Bool, cond, ◌⊎◌, List, [], ◌∷◌, reverse, drop, sym, refl, ap, ◌∙◌, subst, inl, inr, arith}
use Rattle.std.proofs.lemmas.Bool.{le-leb, lt-leb, cases_lt}
use Rattle.std.proofs.lemmas.List.{get_or-replicate}
use Rattle.conv_theory.specs.declared.Cost.{Cost}
use Rattle.conv_theory.specs.Code.{deep, sent}
use Rattle.conv_theory.specs.Search.{Way, start, begin, branch, along, better, into, column, ways, total, survivors, best_by}
use Rattle.conv_theory.specs.Statements.{AnyFar}
use Rattle.conv_theory.proofs.Survivors.{at, column-at}
use Rattle.conv_theory.proofs.Optimality.{within-total, found}
use Rattle.conv_theory.proofs.Columns.{branch-within}

-- two searches that start from f and from g: a state has the same survivor in both, which costs at most t, or a start from afar in both
abbrev Alike : ℕ → ℕ → ℕ → Way → Way → Type 0
Alike f g t v w = ((v ≡ w) × (v.cost ≤ t)) ⊎ ((f ≤ v.cost) × (g ≤ w.cost))

costs-same : (v w : Way) → v ≡ w → v.cost ≡ w.cost
costs-same v w e = ap (λ (u : Way). u.cost) e

looser : (f g t u : ℕ) (v w : Way) → t ≤ u → Alike f g t v w → Alike f g u v w
looser f g t u v w h (inl p) = let l = p.1 in inl (p.0, omega (arith, l))
looser f g t u v w h (inr p) = inr p

abbrev on : ℕ → ℕ → Way → Way
on m b w = record { cost = w.cost + m; bits = b ∷ w.bits }

further : (f g t m k b : ℕ) (v w : Way) → k ≤ m → Alike f g t v w → Alike f g (t + m) (on k b v) (on k b w)
further f g t m k b v w h (inl p) = let l = p.1 in inl (ap (on k b) p.0, omega (arith, l))
further f g t m k b v w h (inr p) = let a = p.0 in let c = p.1 in inr (omega (arith, a), omega (arith, c))

takes-left : (v w : Way) → v.cost ≤ w.cost → better v w ≡ v
takes-left v w h = ap (λ (t : Bool). cond t v w) (le-leb v.cost w.cost h)

takes-right : (v w : Way) → w.cost < v.cost → better v w ≡ w
takes-right v w h = ap (λ (t : Bool). cond t v w) (lt-leb v.cost w.cost h)

at_least : (f : ℕ) (v w : Way) → f ≤ v.cost → f ≤ w.cost → f ≤ (better v w).cost
at_least f v w a b =
    elim (cases_lt w.cost v.cost) [
      | inl h ↦ let e = costs-same (better v w) w (takes-right v w h) in omega (arith, e, b)
      | inr h ↦ let e = costs-same (better v w) v (takes-left v w h) in omega (arith, e, a)
    ]

at_most : (t : ℕ) (v w : Way) → v.cost ≤ t → (better v w).cost ≤ t
at_most t v w a =
    elim (cases_lt w.cost v.cost) [
      | inl h ↦ let e = costs-same (better v w) w (takes-right v w h) in omega (arith, e, a)
      | inr h ↦ let e = costs-same (better v w) v (takes-left v w h) in omega (arith, e, a)
    ]

choose : (f g t : ℕ) (v w v' w' : Way) → t < f → t < g → Alike f g t v w → Alike f g t v' w' → Alike f g t (better v v') (better w w')
choose f g t v w v' w' hf hg (inl p) (inl q) =
    inl (ap (λ (u : Way). better u v') p.0 ∙ ap (λ (u : Way). better w u) q.0, at_most t v v' p.1)
choose f g t v w v' w' hf hg (inl p) (inr q) =
    let e = costs-same v w p.0 in
    let l = p.1 in
    let a = q.0 in
    let b = q.1 in
    let x = takes-left v v' (omega (arith, l, a)) in
    let y = takes-left w w' (omega (arith, l, b, e)) in
    inl (x ∙ p.0 ∙ sym y, at_most t v v' l)
choose f g t v w v' w' hf hg (inr p) (inl q) =
    let e = costs-same v' w' q.0 in
    let l = q.1 in
    let a = p.0 in
    let b = p.1 in
    let x = takes-right v v' (omega (arith, l, a)) in
    let y = takes-right w w' (omega (arith, l, b, e)) in
    let c = costs-same (better v v') v' x in
    inl (x ∙ q.0 ∙ sym y, omega (arith, c, l))
choose f g t v w v' w' hf hg (inr p) (inr q) = inr (at_least f v v' p.0 q.0, at_least g w w' p.1 q.1)

column-alike : (f g t : ℕ) (ws vs : List Way) (x y : Cost) → t + (max x.zero x.one + max y.zero y.one) < f →
    t + (max x.zero x.one + max y.zero y.one) < g → ((s : ℕ) → s < 64 → Alike f g t (at ws s) (at vs s)) → (n : ℕ) → n < 64 →
    Alike f g (t + (max x.zero x.one + max y.zero y.one)) (at (column deep ws x y) n) (at (column deep vs x y) n)
unfolding into
column-alike f g t ws vs x y hf hg each n h =
    let m = max x.zero x.one + max y.zero y.one in
    let s = 2 * (n % 32) in
    let b = n / 32 in
    let p = further f g t m (branch deep x y s b) b (at ws s) (at vs s) (branch-within x y s b) (each s (omega arith)) in
    let q = further f g t m (branch deep x y (s + 1) b) b (at ws (s + 1)) (at vs (s + 1)) (branch-within x y (s + 1) b) (each (s + 1) (omega arith)) in
    let r : Alike f g (t + m) (into deep ws x y n) (into deep vs x y n) =
    choose f g (t + m) (along deep ws x y s b) (along deep vs x y s b) (along deep ws x y (s + 1) b) (along deep vs x y (s + 1) b) hf hg p q in
    subst (λ (u : Way). Alike f g (t + m) u (at (column deep vs x y) n)) (sym (column-at ws x y n h))
    (subst (λ (u : Way). Alike f g (t + m) (into deep ws x y n) u) (sym (column-at vs x y n h)) r)

ways-alike : (cs : List Cost) (f g t : ℕ) (ws vs : List Way) → t + total cs < f → t + total cs < g →
    ((s : ℕ) → s < 64 → Alike f g t (at ws s) (at vs s)) → (n : ℕ) → n < 64 → Alike f g (t + total cs) (at (ways deep ws cs) n) (at (ways deep vs cs) n)
unfolding ways total
ways-alike [] f g t ws vs hf hg each n h = looser f g t (t + 0) (at ws n) (at vs n) (omega arith) (each n h)
ways-alike (x ∷ []) f g t ws vs hf hg each n h = looser f g t (t + (max x.zero x.one + 0)) (at ws n) (at vs n) (omega arith) (each n h)
ways-alike (x ∷ y ∷ cs) f g t ws vs hf hg each n h =
    let m = max x.zero x.one + max y.zero y.one in
    let vs' = column deep vs x y in
    let i = ways-alike cs f g (t + m) (column deep ws x y) vs' (omega arith) (omega arith) (column-alike f g t ws vs x y (omega arith) (omega arith) each) n h in
    looser f g (t + m + total cs) (t + (max x.zero x.one + (max y.zero y.one + total cs))) (at (ways deep (column deep ws x y) cs) n) (at (ways deep vs' cs) n) (omega arith) i

begin-alike : (f g s : ℕ) → s < 64 → Alike f g 0 (at (begin deep f) s) (at (begin deep g) s)
unfolding begin
begin-alike f g zero h = inl (refl, omega arith)
begin-alike f g (suc s) h =
    let a = costs-same _ _ (get_or-replicate 63 s (start f) (start 0) (omega arith)) in
    let b = costs-same _ _ (get_or-replicate 63 s (start g) (start 0) (omega arith)) in
    inr (omega (arith, a), omega (arith, b))

pub any-far : AnyFar
unfolding survivors best_by
any-far n far cs e h =
    let k = ways-alike cs far (1 + total cs) 0 (begin deep far) (begin deep (1 + total cs)) (omega arith) (omega arith) (begin-alike far (1 + total cs)) 0 (omega arith) in
    let d = found n cs e in
    let c = d.costs in
    let w = within-total cs (sent d.path) in
    elim k [
      | inl p ↦ ap (λ (u : Way). reverse (drop 6 u.bits)) p.0
      | inr p ↦ let q = p.1 in let z : ⊥ = omega (arith, c, w, q) in absurd z
    ]
