-- What repairing promises, by distance and code words alone. Assumes nothing.
use Rattle.std.specs.Prelude.{◌≡◌, ℕ, ◌≤◌, T, List, length, Some, None, Option, ◌≢◌}
use Rattle.bits.specs.Lists.{are_bytes, zeros}
use Rattle.bits.specs.Distance.{distance}
use Rattle.rs_theory.specs.Code.{is_codeword, Far}

-- v is a code word k places from w, and k is 16 at most
abbrev pub IsNear : List ℕ → List ℕ → ℕ → Type 0
IsNear w v k = T (is_codeword v) × (distance v w ≡ k) × (k ≤ 16)

-- P holds of each code word within 16 places of w
abbrev pub EachNear : List ℕ → (List ℕ → Type 0) → Type 0
EachNear w P = (c : List ℕ) → T (is_codeword c) → distance c w ≤ 16 → P c

-- the word w became v: a code word within 16 places, k of them changed; or nothing was changed, and there is no such code word
abbrev pub Repaired : List ℕ → Option ℕ → List ℕ → Type 0
Repaired w (Some k) v = IsNear w v k
Repaired w None v = (v ≡ w) × Far w

-- every code word within 16 places is found
abbrev pub Found : List ℕ → Option ℕ → List ℕ → Type 0
Found w r v = EachNear w (λ c. (r ≡ Some (distance c w)) × (v ≡ c))

-- one byte that is not zero is always repaired to zeros; seventeen never are
pub record SmallCases : Type 0 where
  pub one : (w v : List ℕ) (r : Option ℕ) → length w ≡ 255 → T (are_bytes w) → distance (zeros 255) w ≡ 1 → Repaired w r v → (v ≡ zeros 255) × (r ≡ Some 1)
  pub seventeen : (w v : List ℕ) (r : Option ℕ) → length w ≡ 255 → distance (zeros 255) w ≡ 17 → Repaired w r v → v ≢ zeros 255
