-- What the decoders answer: the bits that are found, and their cost. Assumes nothing.
use Rattle.std.proofs.Common.{◌≡◌, ℕ, ◌+◌, ◌*◌, T, List, ◌++◌, map, length, sym, ap, ◌∙◌, subst}
use Rattle.std.proofs.lemmas.List.{map-id}
use Rattle.bits.specs.Lists.{are_bits, zeros}
use Rattle.bits.specs.Distance.{distance}
use Rattle.conv_theory.specs.declared.Cost.{Cost}
use Rattle.conv_theory.specs.Code.{sent}
use Rattle.conv_theory.specs.Search.{cost_of_all, total, best, heard_bits, hard}
use Rattle.conv_theory.specs.Statements.{Cheapest, Nearest}
use Rattle.conv_theory.proofs.Columns.{hard-total}
use Rattle.conv_theory.proofs.Hard.{hard-costs, length-sent, spread-bits, nearest}
use Rattle.conv_theory.proofs.Optimality.{optimal}

-- found by costs: the cheapest
pub cheapest_found : (n : ℕ) (cs : List Cost) (out : List ℕ) → length cs ≡ 2 * (n + 6) → out ≡ best (map (λ (c : Cost). c) cs) → Cheapest n cs out
cheapest_found n cs out e f = subst (λ (o : List ℕ). Cheapest n cs o) (sym (f ∙ ap (λ (u : List Cost). best u) (map-id cs))) (optimal n cs e)

-- found by hard bits: the nearest
pub nearest_found : (n : ℕ) (r out : List ℕ) → length r ≡ 2 * (n + 6) → T (are_bits r) → out ≡ heard_bits r → Nearest n r out
nearest_found n r out e t f = subst (λ (o : List ℕ). Nearest n r o) (sym f) (nearest n r e t)

pub hard_total : (r : List ℕ) → T (are_bits r) → total (map hard r) ≡ length r
hard_total r t = hard-total r t

-- the cost of what is found is the distance from what was heard
pub hard_distance : (n : ℕ) (r : List ℕ) → length r ≡ 2 * (n + 6) → T (are_bits r) → cost_of_all (map hard r) (sent (heard_bits r)) ≡ distance (sent (heard_bits r)) r
hard_distance n r e t =
    let l = (nearest n r e t).long in
    hard-costs (sent (heard_bits r)) r (length-sent n (heard_bits r) l ∙ sym e) (spread-bits 0 (heard_bits r ++ zeros 6)) t
