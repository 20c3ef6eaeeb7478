-- The greatest of a list is below 2 just where each number is. Assumes nothing.
use Rattle.std.proofs.Common.{◌≡◌, ℕ, ◌<◌, ◌≤◌, max, Bool, false, T, ◌&&◌, ltb, List, [], ◌∷◌, fold, sym, ap, ◌∙◌, arith}
use Rattle.std.proofs.lemmas.Bool.Decides.{nat_tests}
use Rattle.bits.specs.Lists.{under, are_bits}

greatest-from : (g : ℕ) (xs : List ℕ) → ltb (fold (λ a x. max a x) g xs) 2 ≡ (ltb g 2 && under 2 xs)
unfolding under
greatest-from g [] = grind (arith, nat_tests)
greatest-from g (x ∷ xs) = greatest-from (max g x) xs ∙ regroup (under 2 xs)
  where
    regroup : (t : Bool) → (ltb (max g x) 2 && t) ≡ (ltb g 2 && (ltb x 2 && t))
    regroup t = grind (arith, nat_tests)

-- by the greatest, which a chain's fold computes: all are bits, or not all
pub greatest_of_bits : (g : ℕ) (xs : List ℕ) → g ≡ fold (λ a x. max a x) 0 xs → g < 2 → T (are_bits xs)
greatest_of_bits g xs e h = let t : are_bits xs ≡ ltb g 2 = sym (greatest-from 0 xs) ∙ ap (λ m. ltb m 2) (sym e) in grind (arith, nat_tests)

pub greatest_of_others : (g : ℕ) (xs : List ℕ) → g ≡ fold (λ a x. max a x) 0 xs → 2 ≤ g → are_bits xs ≡ false
greatest_of_others g xs e h = let t : are_bits xs ≡ ltb g 2 = sym (greatest-from 0 xs) ∙ ap (λ m. ltb m 2) (sym e) in grind (arith, nat_tests)
