-- A list that is read in pairs. Assumes nothing.
use Rattle.std.proofs.Common.{◌≡◌, ℕ, zero, suc, ◌+◌, ◌-◌, ◌*◌, ◌<◌, List, map, length, get_or, drop, sym, ap, ◌∙◌, arith}
use Rattle.std.proofs.lemmas.List.{get_or-map, get_or-take, get_or-drop}
use Rattle.std.specs.Simd.{first_chunks}

chunk-at : {X : Type 0} (k i j n : ℕ) (xs e : List X) (d : X) → i < k → j < 2 → n ≡ 2 * i + j → get_or (get_or (first_chunks 2 k xs) i e) j d ≡ get_or xs n d
chunk-at zero i j n xs e d h hj en = let z : ⊥ = omega arith in absurd z
chunk-at (suc k) zero j n xs e d h hj en = let f : j ≡ n = omega arith in get_or-take 2 xs j d hj ∙ ap (λ (n : ℕ). get_or xs n d) f
chunk-at (suc k) (suc i) j n xs e d h hj en =
    let f : 2 + (n - 2) ≡ n = omega arith in
    chunk-at k i j (n - 2) (drop 2 xs) e d (omega arith) hj (omega arith) ∙ get_or-drop 2 xs (n - 2) d ∙ ap (λ (n : ℕ). get_or xs n d) f

-- the j-th of pair i, as f reads it
pub pair-at : {X Y : Type 0} (f : X → Y) (xs : List X) (m i j n : ℕ) (pairs : List (List X)) (p e : List X) (d : X) (z : Y) → pairs ≡ first_chunks 2 m xs → i < m → j < 2 → n ≡ 2 * i + j →
    n < length xs → p ≡ get_or pairs i e → f (get_or p j d) ≡ get_or (map f xs) n z
pair-at f xs m i j n pairs p e d z front hi hj en h ep =
    ap (λ (q : List _). f (get_or q j d)) (ep ∙ ap (λ (u : List (List _)). get_or u i e) front) ∙ ap f (chunk-at m i j n xs e d hi hj en) ∙ sym (get_or-map f xs n d z h)
