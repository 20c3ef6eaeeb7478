-- Optimality: the survivor of state 0 is a way from state 0, and no such way costs less. Assumes nothing.
use Rattle.std.proofs.Common.{◌≡◌, ℕ, zero, suc, ◌+◌, ◌*◌, ◌<◌, ◌≤◌, max, T, eqb, List, [], ◌∷◌, ◌++◌, reverse, length, drop, sym, refl, ap, ◌∙◌, subst, inl, inr, arith}
use Rattle.std.proofs.lemmas.List.{reverse-append, reverse-reverse, drop_at, append-nil, length-reverse, length-append, get_or-replicate}
use Rattle.std.proofs.lemmas.Bool.{cond_both, cases_eq}
use Rattle.bits.specs.Lists.{are_bits, zeros}
use Rattle.conv_theory.specs.declared.Cost.{Cost}
use Rattle.conv_theory.specs.Code.{deep, run, spread, sent}
use Rattle.conv_theory.specs.Search.{Way, start, begin, ways, survivors, cost_of, cost_of_all, total, best_by, best}
use Rattle.conv_theory.specs.Statements.{Bits, Cheapest, Optimal}
use Rattle.bits.proofs.Tests.{length-zeros}
use Rattle.conv_theory.proofs.Basics.{bits-append, bits-front, bits-zeros}
use Rattle.conv_theory.proofs.States.{run-append, run-below, zeros-lead-back, ends}
use Rattle.conv_theory.proofs.Survivors.{at, none-cheaper, Goes, goes}

pub one-within : (c : Cost) (b : ℕ) → cost_of c b ≤ max c.zero c.one
one-within c b = cond_both (eqb b 0) c.zero c.one (λ n. n ≤ max c.zero c.one) (λ e. omega arith) (λ e. omega arith)

-- no bits cost more than the total
pub within-total : (cs : List Cost) (bs : List ℕ) → cost_of_all cs bs ≤ total cs
unfolding cost_of_all total
within-total [] bs = omega arith
within-total (c ∷ cs) [] = omega arith
within-total (c ∷ cs) (b ∷ bs) = let i = within-total cs bs in let j = one-within c b in omega (arith, i, j)

other-start : (far s : ℕ) → s < 64 → (s ≡ 0 → ⊥) → (at (begin deep far) s).cost ≡ far
unfolding begin
other-start far zero h n = absurd (n refl)
other-start far (suc s) h n = ap (λ (w : Way). w.cost) (get_or-replicate 63 s (start far) (start 0) (omega arith))

first-start : (far : ℕ) → at (begin deep far) 0 ≡ start 0
unfolding begin
first-start far = refl

-- n bits, with zeros behind them, lead from state 0 to state 0
pub comes_back : (bs : List ℕ) → T (are_bits bs) → run deep 0 (bs ++ zeros 6) ≡ 0
comes_back bs t = run-append 0 bs (zeros 6) ∙ zeros-lead-back (run deep 0 bs) (run-below 0 bs (omega arith) t)

length-behind : (n : ℕ) (bs : List ℕ) → length bs ≡ n → length (bs ++ zeros 6) ≡ n + 6
length-behind n bs e = length-append bs (zeros 6) ∙ (let z = length-zeros 6 in omega (arith, z, e))

-- what is found: a way of n bits and six zeros, whose bits and cost are the survivor's
pub record Found (n : ℕ) (cs : List Cost) : Type 0 where
  pub path : List ℕ
  pub right : Bits n path
  pub costs : (at (survivors deep cs) 0).cost ≡ cost_of_all cs (sent path)
  pub reads : (at (survivors deep cs) 0).bits ≡ reverse (path ++ zeros 6)
  pub is : best cs ≡ path

-- no way costs less than the survivor
pub least-cost : (n : ℕ) (cs : List Cost) (bs : List ℕ) → length cs ≡ 2 * (n + 6) → Bits n bs → (at (survivors deep cs) 0).cost ≤ cost_of_all cs (sent bs)
unfolding survivors
least-cost n cs bs e k =
    let ws = begin deep (1 + total cs) in
    let t = bits-append bs (zeros 6) k.bits (bits-zeros 6) in
    let l = length-behind n bs k.long in
    let i = none-cheaper (bs ++ zeros 6) cs ws 0 (omega arith) t (omega (arith, l)) in
    let j : (at (ways deep ws cs) 0).cost ≤ (at ws 0).cost + cost_of_all cs (sent bs) =
    subst (λ (s : ℕ). (at (ways deep ws cs) s).cost ≤ (at ws 0).cost + cost_of_all cs (sent bs)) (comes_back bs k.bits) i in
    let f = ap (λ (w : Way). w.cost) (first-start (1 + total cs)) in
    omega (arith, j, f)

-- a survivor that started in state 0
from_zero : (n : ℕ) (cs : List Cost) (g : Goes (begin deep (1 + total cs)) cs (n + 6) 0) → g.state ≡ 0 → Found n cs
unfolding survivors best_by
from_zero n cs g z =
    let ws = begin deep (1 + total cs) in
    let f = first-start (1 + total cs) in
    let leads : run deep 0 g.path ≡ 0 = subst (λ (s : ℕ). run deep s g.path ≡ 0) z g.leads in
    let d = ends n 0 g.path (omega arith) g.bits g.long leads in
    let q = d.front in
    let bits : T (are_bits q) = bits-front q (zeros 6) (subst (λ (u : List ℕ). T (are_bits u)) d.split g.bits) in
    let reads : (at (ways deep ws cs) 0).bits ≡ reverse (q ++ zeros 6) =
    g.reads ∙ ap (λ (s : ℕ). reverse g.path ++ (at ws s).bits) z ∙ ap (λ (w : Way). reverse g.path ++ w.bits) f ∙ append-nil (reverse g.path) ∙
    ap (λ (u : List ℕ). reverse u) d.split in
    let costs : (at (ways deep ws cs) 0).cost ≡ (at ws 0).cost + cost_of_all cs (spread deep 0 (q ++ zeros 6)) =
    g.costs ∙ ap (λ (s : ℕ). (at ws s).cost + cost_of_all cs (spread deep s g.path)) z ∙
    ap (λ (u : List ℕ). (at ws 0).cost + cost_of_all cs (spread deep 0 u)) d.split in
    let fc = ap (λ (w : Way). w.cost) f in
    record {
      path = q;
      right = record { long = d.long; bits = bits };
      costs = omega (arith, costs, fc);
      reads = reads;
      is = ap (λ (u : List ℕ). reverse (drop 6 u)) (reads ∙ reverse-append q (zeros 6)) ∙
          ap (λ (u : List ℕ). reverse u) (drop_at (reverse (zeros 6)) (reverse q) 6 (length-reverse (zeros 6) ∙ length-zeros 6)) ∙ reverse-reverse q;
    }

pub found : (n : ℕ) (cs : List Cost) → length cs ≡ 2 * (n + 6) → Found n cs
unfolding survivors
found n cs e =
    let g = goes (n + 6) cs (begin deep (1 + total cs)) 0 (omega arith) e in
    let l = least-cost n cs (zeros n) e (record { long = length-zeros n; bits = bits-zeros n }) in
    let m = within-total cs (sent (zeros n)) in
    elim (cases_eq g.state 0) [
      | inl z ↦ from_zero n cs g z
      | inr o ↦
          let c = other-start (1 + total cs) g.state g.within o in
          let d = g.costs in
          let z : ⊥ = omega (arith, l, m, c, d) in absurd z
    ]

pub optimal : Optimal
optimal n cs e =
    let f = found n cs e in
    subst (λ (u : List ℕ). Cheapest n cs u) (sym f.is)
    (record { right = f.right; least = λ bs k. subst (λ (c : ℕ). c ≤ cost_of_all cs (sent bs)) f.costs (least-cost n cs bs e k) })
