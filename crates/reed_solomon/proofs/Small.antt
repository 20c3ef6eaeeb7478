-- One byte that is not zero is repaired to zeros, seventeen are not. Assumes nothing.
use Rattle.std.proofs.Common.{◌≡◌, ℕ, zero, suc, ◌<◌, T, List, length, Some, None, Option, sym, ap, ◌∙◌, arith}
use Rattle.bits.specs.Lists.{under, are_bytes, zeros}
use Rattle.bits.specs.Distance.{distance}
use Rattle.bits.proofs.Hamming.{distance_self}
use Rattle.bits.proofs.Tests.{length-zeros}
use Rattle.rs_theory.specs.Code.{is_codeword}
use Rattle.rs_theory.proofs.Sum.{sum_zeros}
use Rattle.rs_theory.proofs.Value.{locators, sums-vanish}
use Rattle.rs_theory.proofs.Codewords.{codeword-from, nearest}
use Rattle.reed_solomon.specs.Repair.{Repaired, SmallCases}

bytes-zeros : (n : ℕ) → T (are_bytes (zeros n))
unfolding zeros under
bytes-zeros zero = tt
bytes-zeros (suc n) = bytes-zeros n

zeros-codeword : T (is_codeword (zeros 255))
zeros-codeword =
    codeword-from (zeros 255)
    (record { whole = length-zeros 255; bytes = bytes-zeros 255; zero = sums-vanish 32 (zeros 255) (bytes-zeros 255) (λ j h. sum_zeros 255 (locators (length (zeros 255))) (suc j)) })

one : (w v : List ℕ) (r : Option ℕ) → length w ≡ 255 → T (are_bytes w) → distance (zeros 255) w ≡ 1 → Repaired w r v → (v ≡ zeros 255) × (r ≡ Some 1)
one w v (Some k) l b d h =
    let e : v ≡ zeros 255 = nearest v (zeros 255) w h.0 zeros-codeword l (omega arith) (omega arith) in
    (e, ap Some (sym h.1 ∙ ap (λ (u : List ℕ). distance u w) e ∙ d))
one w v None l b d h =
    let far : 16 < distance (zeros 255) w = h.1 (zeros 255) zeros-codeword in
    let z : ⊥ = omega arith in
    absurd z

seventeen : (w v : List ℕ) (r : Option ℕ) → length w ≡ 255 → distance (zeros 255) w ≡ 17 → Repaired w r v → v ≡ zeros 255 → ⊥
seventeen w v (Some k) l d h e =
    let same : distance v w ≡ distance (zeros 255) w = ap (λ (u : List ℕ). distance u w) e in
    omega arith
seventeen w v None l d h e =
    let same : distance (zeros 255) w ≡ distance w w = ap (λ (u : List ℕ). distance u w) (sym e ∙ h.0) in
    omega (arith, distance_self w)

pub small_cases : SmallCases
small_cases = record { one = one; seventeen = seventeen }
