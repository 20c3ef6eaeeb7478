-- The forward loop: the costs and the decisions of one column more. Assumes nothing.
use Rattle.std.proofs.Common.{◌≡◌, ℕ, ◌+◌, ◌*◌, ◌<◌, ◌≤◌, ◌≢◌, List, [], ◌∷◌, length, get_or, set, replicate, below_more, sym, ap, ◌∙◌, arith}
use Rattle.std.proofs.lemmas.List.{get_or-set_same, get_or-set_other}
use Rattle.conv_theory.specs.declared.Cost.{Cost}
use Rattle.conv_theory.specs.Search.{total}
use Rattle.conv_theory.specs.Columns.{next_costs, choices, costs_after, nothing, choices_at, Decided}
use Rattle.conv_theory.proofs.Columns.{costs-first, costs-more, costs-within}

pub costs-start : (cs : List Cost) (far : ℕ) → far ≡ 1 + total cs → 0 ∷ replicate 63 far ≡ costs_after cs 0
costs-start cs far e = ap (λ (k : ℕ). 0 ∷ replicate 63 k) e ∙ sym (costs-first cs)

pub costs-step : (cs : List Cost) (i : ℕ) (os ns : List ℕ) (x y : Cost) → 2 * i + 1 < length cs → x ≡ get_or cs (2 * i) nothing → y ≡ get_or cs (2 * i + 1) nothing →
    os ≡ costs_after cs i → ns ≡ next_costs os x y → ns ≡ costs_after cs (i + 1)
costs-step cs i os ns x y h ex ey eo en =
    en ∙ ap (λ (u : List ℕ). next_costs u x y) eo ∙ ap (λ (u : Cost). next_costs (costs_after cs i) u y) ex ∙
    ap (λ (u : Cost). next_costs (costs_after cs i) (get_or cs (2 * i) nothing) u) ey ∙ sym (costs-more cs i h)

row_is : (cs : List Cost) (i : ℕ) (os row : List ℕ) (x y : Cost) → x ≡ get_or cs (2 * i) nothing → y ≡ get_or cs (2 * i + 1) nothing →
    os ≡ costs_after cs i → row ≡ choices os x y → row ≡ choices_at cs i
unfolding choices_at
row_is cs i os row x y ex ey eo er =
    er ∙ ap (λ (u : List ℕ). choices u x y) eo ∙ ap (λ (u : Cost). choices (costs_after cs i) u y) ex ∙
    ap (λ (u : Cost). choices (costs_after cs i) (get_or cs (2 * i) nothing) u) ey

pub decided-step : (cs : List Cost) (i : ℕ) (os row : List ℕ) (x y : Cost) (ds : List (List ℕ)) → i < length ds → x ≡ get_or cs (2 * i) nothing → y ≡ get_or cs (2 * i + 1) nothing →
    os ≡ costs_after cs i → row ≡ choices os x y → Decided cs i ds → Decided cs (i + 1) (set ds i row)
decided-step cs i os row x y ds h ex ey eo er d =
    below_more (λ j. get_or (set ds i row) j [] ≡ choices_at cs j) i (λ j b. let ne : j ≢ i = omega arith in get_or-set_other ds i j row [] ne ∙ d j b)
    (get_or-set_same ds i row [] h ∙ row_is cs i os row x y ex ey eo er)

-- no cost passes the greatest sum before the next column
pub costs-fit : (cs : List Cost) (i most : ℕ) (os : List ℕ) → 2 * total cs + 511 ≤ most → os ≡ costs_after cs i → (k : ℕ) → k < 64 → get_or os k 0 + 510 ≤ most
costs-fit cs i most os h e k hk =
    let w = costs-within cs i k hk in
    let g = ap (λ (u : List ℕ). get_or u k 0) e in
    omega (arith, w, g, h)
