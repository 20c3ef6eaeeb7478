-- Hard bits: costs are Hamming distance, so the nearest is found, and four wrong bits don't matter. Assumes nothing.
use Rattle.std.proofs.Common.{◌≡◌, ℕ, zero, suc, ◌+◌, ◌*◌, ◌<◌, ◌≤◌, Bool, true, false, T, ◌⊎◌, List, [], ◌∷◌, ◌++◌, map, length, sym, refl, ◌∙◌, inl, inr, arith}
use Rattle.std.specs.Bool.{Decides}
use Rattle.std.specs.Str.{bytes_eq}
use Rattle.std.proofs.lemmas.Slice.Eq.{bytes_eq-Decides}
use Rattle.std.proofs.lemmas.Bool.Decides.{nat_tests}
use Rattle.std.proofs.lemmas.List.{length-map, length-append}
use Rattle.bits.specs.Lists.{are_bits, zeros}
use Rattle.bits.specs.Distance.{differ, distance}
use Rattle.conv_theory.specs.Code.{deep, parity, first_out, second_out, next, spread, sent}
use Rattle.conv_theory.specs.Search.{cost_of, cost_of_all, hard, heard_bits}
use Rattle.conv_theory.specs.Statements.{NearestFound}
use Rattle.bits.proofs.Tests.{length-zeros}
use Rattle.conv_theory.proofs.Basics.{first_bit, rest-bits, more-bits, no_bits}
use Rattle.conv_theory.proofs.States.{length-spread}
use Rattle.bits.proofs.Hamming.{distance-sym, distance-triangle}
use Rattle.conv_theory.proofs.Optimality.{optimal}
use Rattle.conv_theory.proofs.Apart.{inputs_apart}

parity-bit : (n w : ℕ) → parity n w < 2
unfolding parity
parity-bit zero w = omega arith
parity-bit (suc n) w = omega arith

pub spread-bits : (s : ℕ) (bs : List ℕ) → T (are_bits (spread deep s bs))
unfolding spread
spread-bits s [] = no_bits
spread-bits s (b ∷ bs) =
    more-bits (first_out deep s b) (second_out deep s b ∷ spread deep (next deep s b) bs) (parity-bit 7 _)
    (more-bits (second_out deep s b) (spread deep (next deep s b) bs) (parity-bit 7 _) (spread-bits (next deep s b) bs))

-- taking a hard bit for x costs 1 just where it is another
hard-cost : (x y : ℕ) → x < 2 → y < 2 → cost_of (hard y) x ≡ differ x y
hard-cost x y h k = grind (arith, nat_tests)

pub hard-costs : (xs r : List ℕ) → length xs ≡ length r → T (are_bits xs) → T (are_bits r) → cost_of_all (map hard r) xs ≡ distance xs r
unfolding cost_of_all distance
hard-costs [] [] e t u = refl
hard-costs [] (y ∷ r) e t u = let z : ⊥ = omega arith in absurd z
hard-costs (x ∷ xs) [] e t u = let z : ⊥ = omega arith in absurd z
hard-costs (x ∷ xs) (y ∷ r) e t u =
    let i = hard-costs xs r (omega arith) (rest-bits x xs t) (rest-bits y r u) in
    let d = hard-cost x y (first_bit x xs t) (first_bit y r u) in
    omega (arith, i, d)

same_or_not : (xs ys : List ℕ) → (xs ≡ ys) ⊎ (xs ≡ ys → ⊥)
same_or_not xs ys = by (bytes_eq xs ys) (bytes_eq-Decides xs ys)
  where
    by : (b : Bool) → Decides b (xs ≡ ys) → (xs ≡ ys) ⊎ (xs ≡ ys → ⊥)
    by true d = inl (d.0 refl)
    by false d = inr (λ e. grind (arith, d.1 e))

pub length-sent : (n : ℕ) (bs : List ℕ) → length bs ≡ n → length (sent bs) ≡ 2 * (n + 6)
length-sent n bs e =
    let l = length-spread 0 (bs ++ zeros 6) in
    let m = length-append bs (zeros 6) in
    let z = length-zeros 6 in
    omega (arith, l, m, z, e)

pub nearest : NearestFound
nearest n r e t =
    let o = optimal n (map hard r) (length-map r hard ∙ e) in
    let d : (bs : List ℕ) → length bs ≡ n → cost_of_all (map hard r) (sent bs) ≡ distance (sent bs) r =
    λ bs l. hard-costs (sent bs) r (length-sent n bs l ∙ sym e) (spread-bits 0 (bs ++ zeros 6)) t in
    let f = heard_bits r in
    let lf = o.right.long in
    let least : (bs : List ℕ) → length bs ≡ n → T (are_bits bs) → distance (sent f) r ≤ distance (sent bs) r =
    λ bs l u. let i = o.least bs (record { long = l; bits = u }) in let a = d f lf in let b = d bs l in omega (arith, i, a, b) in
    record {
      long = lf;
      bits = o.right.bits;
      least = least;
      four = λ bs l u q. elim (same_or_not f bs) [
        | inl g ↦ g
        | inr g ↦
            let x = inputs_apart n f bs o.right (record { long = l; bits = u }) g in
            let y = distance-triangle (sent f) r (sent bs) in
            let w = distance-sym (sent bs) r in
            let v = least bs l u in
            let z : ⊥ = omega (arith, x, y, w, v, q) in absurd z
      ];
    }
