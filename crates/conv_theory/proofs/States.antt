-- States of the code of 64: where bits lead, and that six zeros lead back to state 0 and nothing else does. Assumes nothing.
use Rattle.std.proofs.Common.{◌≡◌, ℕ, zero, suc, ◌+◌, ◌*◌, ◌<◌, T, List, [], ◌∷◌, ◌++◌, length, sym, refl, ap, ◌∙◌, arith}
use Rattle.bits.specs.Lists.{are_bits, zeros}
use Rattle.conv_theory.specs.Code.{deep, next, run, spread}
use Rattle.conv_theory.proofs.Basics.{first_bit, rest-bits}

pub next-below : (s b : ℕ) → s < 64 → b < 2 → next deep s b < 64
next-below s b h k = omega arith

pub run-below : (s : ℕ) (bs : List ℕ) → s < 64 → T (are_bits bs) → run deep s bs < 64
unfolding run
run-below s [] h t = h
run-below s (b ∷ bs) h t = run-below (next deep s b) bs (next-below s b h (first_bit b bs t)) (rest-bits b bs t)

pub run-append : (s : ℕ) (ps bs : List ℕ) → run deep s (ps ++ bs) ≡ run deep (run deep s ps) bs
unfolding run
run-append s [] bs = refl
run-append s (a ∷ ps) bs = run-append (next deep s a) ps bs

pub zeros-lead-back : (s : ℕ) → s < 64 → run deep s (zeros 6) ≡ 0
unfolding run zeros
zeros-lead-back s h = omega arith

pub length-spread : (s : ℕ) (bs : List ℕ) → length (spread deep s bs) ≡ 2 * length bs
unfolding spread
length-spread s [] = refl
length-spread s (b ∷ bs) = let e = length-spread (next deep s b) bs in omega (arith, e)

-- one bit: it has left a state when six more have come
six : (s a b c d e f : ℕ) → s < 64 → a < 2 → b < 2 → c < 2 → d < 2 → e < 2 → f < 2 →
    next deep (next deep (next deep (next deep (next deep (next deep s a) b) c) d) e) f ≡ a + 2 * b + 4 * c + 8 * d + 16 * e + 32 * f
six s a b c d e f hs ha hb hc hd he hf = omega arith

-- the last six bits of a way into state 0 are zeros
pub record Ended (n : ℕ) (bs : List ℕ) : Type 0 where
  pub front : List ℕ
  pub long : length front ≡ n
  pub split : bs ≡ front ++ zeros 6

six-zeros : (s a b c d e f : ℕ) → s < 64 → T (are_bits (a ∷ b ∷ c ∷ d ∷ e ∷ f ∷ [])) → run deep s (a ∷ b ∷ c ∷ d ∷ e ∷ f ∷ []) ≡ 0 → a ∷ b ∷ c ∷ d ∷ e ∷ f ∷ [] ≡ zeros 6
unfolding run zeros
six-zeros s a b c d e f h t z =
    let ta = rest-bits a (b ∷ c ∷ d ∷ e ∷ f ∷ []) t in
    let tb = rest-bits b (c ∷ d ∷ e ∷ f ∷ []) ta in
    let tc = rest-bits c (d ∷ e ∷ f ∷ []) tb in
    let td = rest-bits d (e ∷ f ∷ []) tc in
    let te = rest-bits e (f ∷ []) td in
    let w = six s a b c d e f h (first_bit a (b ∷ c ∷ d ∷ e ∷ f ∷ []) t) (first_bit b (c ∷ d ∷ e ∷ f ∷ []) ta) (first_bit c (d ∷ e ∷ f ∷ []) tb) (first_bit d (e ∷ f ∷ []) tc) (first_bit e (f ∷ []) td) (first_bit f [] te) in
    let v : a + 2 * b + 4 * c + 8 * d + 16 * e + 32 * f ≡ 0 = sym w ∙ z in
    let pa : a ≡ 0 = omega (arith, v) in
    let pb : b ≡ 0 = omega (arith, v) in
    let pc : c ≡ 0 = omega (arith, v) in
    let pd : d ≡ 0 = omega (arith, v) in
    let pe : e ≡ 0 = omega (arith, v) in
    let pf : f ≡ 0 = omega (arith, v) in
    cc

pub ends : (n s : ℕ) (bs : List ℕ) → s < 64 → T (are_bits bs) → length bs ≡ n + 6 → run deep s bs ≡ 0 → Ended n bs
unfolding run
ends zero s [] h t l z = let z : ⊥ = omega arith in absurd z
ends zero s (a ∷ []) h t l z = let z : ⊥ = omega arith in absurd z
ends zero s (a ∷ b ∷ []) h t l z = let z : ⊥ = omega arith in absurd z
ends zero s (a ∷ b ∷ c ∷ []) h t l z = let z : ⊥ = omega arith in absurd z
ends zero s (a ∷ b ∷ c ∷ d ∷ []) h t l z = let z : ⊥ = omega arith in absurd z
ends zero s (a ∷ b ∷ c ∷ d ∷ e ∷ []) h t l z = let z : ⊥ = omega arith in absurd z
ends zero s (a ∷ b ∷ c ∷ d ∷ e ∷ f ∷ []) h t l z = record { front = []; long = refl; split = six-zeros s a b c d e f h t z }
ends zero s (a ∷ b ∷ c ∷ d ∷ e ∷ f ∷ g ∷ gs) h t l z = let z : ⊥ = omega arith in absurd z
ends (suc n) s [] h t l z = let z : ⊥ = omega arith in absurd z
ends (suc n) s (b ∷ bs) h t l z =
    let i = ends n (next deep s b) bs (next-below s b h (first_bit b bs t)) (rest-bits b bs t) (omega arith) z in
    record { front = b ∷ i.front; long = ap suc i.long; split = ap (λ (x : List ℕ). b ∷ x) i.split }
