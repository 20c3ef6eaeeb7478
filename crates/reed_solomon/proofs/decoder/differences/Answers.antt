use Rattle.std.proofs.Common.{◌≡◌, ℕ, true, false, eqb, cond, ◌+◌, List, [], ◌∷◌, length, zip, not, nat_eq, refl, rules, ◌∙◌, arith}
use Rattle.std.specs.List.{filter}
use Rattle.std.proofs.lemmas.Iterator.{YieldsList-from_zip, YieldsList-from_slice}
use Rattle.std.proofs.lemmas.Iterator.Consumers.{count_from_yields_List, YieldsList-from_filter}
use Rattle.bits.specs.Distance.{distance}
use Rattle.reed_solomon.proofs.decoder.differences.Goals as goal

-- as many pairs of entries that are not equal as the distance says
pairs : (a b : List ℕ) → length a ≡ length b → length (filter (λ (p : ℕ × ℕ). not (eqb p.0 p.1)) (zip a b)) ≡ distance a b
unfolding distance
pairs [] [] h = refl
pairs [] (y ∷ b) h = let z : ⊥ = omega arith in absurd z
pairs (x ∷ a) [] h = let z : ⊥ = omega arith in absurd z
pairs (x ∷ a) (y ∷ b) h =
    let e : length (filter (λ (p : ℕ × ℕ). not (eqb p.0 p.1)) (zip a b)) ≡ distance a b = pairs a b (omega arith) in
    elim (eqb x y) as (λ t. length (cond (not t) ((x, y) ∷ filter (λ (p : ℕ × ℕ). not (eqb p.0 p.1)) (zip a b)) (filter (λ (p : ℕ × ℕ). not (eqb p.0 p.1)) (zip a b))) ≡ cond t 0 1 + distance a b)
    [ true ↦ omega (arith, e) | false ↦ omega (arith, e) ]

pub returns : goal.returns
returns c =
    let e : c.count.result ≡ length (filter (λ (p : ℕ × ℕ). not (nat_eq p.0 p.1)) (zip c.args.a.now c.args.b.now)) =
    count_from_yields_List c.filter.result c.count.result c.count.ensures.ran
    (YieldsList-from_filter _ (λ (p : ℕ × ℕ). not (nat_eq p.0 p.1)) (YieldsList-from_zip (YieldsList-from_slice c.args.a.now (cc)) (YieldsList-from_slice c.args.b.now (cc))) c.filter.ensures.closure
    (λ x b q k. search rules)) in
    e ∙ pairs c.args.a.now c.args.b.now (omega arith)
