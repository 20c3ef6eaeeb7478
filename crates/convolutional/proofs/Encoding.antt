-- The encoder's loop: what is written, and what is to come of the bits that are left, is what all bits are sent as. Assumes nothing.
use Rattle.std.proofs.Common.{◌≡◌, ℕ, zero, suc, ◌+◌, ◌-◌, ◌*◌, ◌<◌, ◌≤◌, T, List, [], ◌∷◌, ◌++◌, length, get_or, take, drop, set, sym, refl, ap, ◌∙◌, arith}
use Rattle.std.proofs.lemmas.List.{take_more_set, drop_more, append_assoc, length-set, take_all, drop_all, append-nil, get_or-append_right}
use Rattle.bits.specs.Lists.{are_bits, zeros}
use Rattle.conv_theory.proofs.Basics.{first_bit, rest-bits}
use Rattle.conv_theory.specs.Code.{deep, first_out, second_out, next, spread}

-- after i bits, in state s
abbrev pub Written : List ℕ → List ℕ → ℕ → ℕ → Type 0
Written full out i s = take (2 * i) out ++ spread deep s (drop i full) ≡ spread deep 0 full

two-more : (out : List ℕ) (i a b : ℕ) → 2 * i + 1 < length out → take (2 * (i + 1)) (set (set out (2 * i) a) (2 * i + 1) b) ≡ take (2 * i) out ++ a ∷ b ∷ []
two-more out i a b h =
    let n : 2 * (i + 1) ≡ 2 * i + 1 + 1 = omega arith in
    let l = length-set out (2 * i) a in
    ap (λ (k : ℕ). take k (set (set out (2 * i) a) (2 * i + 1) b)) n ∙ take_more_set (set out (2 * i) a) (2 * i + 1) b (omega (arith, l)) ∙
    ap (λ (u : List ℕ). u ++ b ∷ []) (take_more_set out (2 * i) a (omega arith)) ∙ append_assoc (take (2 * i) out) (a ∷ []) (b ∷ [])

pub written-more : (full out : List ℕ) (i s b : ℕ) → 2 * i + 1 < length out → i < length full → get_or full i 0 ≡ b → Written full out i s →
    Written full (set (set out (2 * i) (first_out deep s b)) (2 * i + 1) (second_out deep s b)) (i + 1) (next deep s b)
unfolding spread
written-more full out i s b h k e w =
    let f = first_out deep s b in
    let g = second_out deep s b in
    let rest = spread deep (next deep s b) (drop (i + 1) full) in
    let d : drop i full ≡ b ∷ drop (i + 1) full = drop_more full i 0 k ∙ ap (λ (u : ℕ). u ∷ drop (i + 1) full) e in
    let v : take (2 * i) out ++ f ∷ g ∷ rest ≡ spread deep 0 full = ap (λ (u : List ℕ). take (2 * i) out ++ spread deep s u) (sym d) ∙ w in
    ap (λ (u : List ℕ). u ++ rest) (two-more out i f g h) ∙ append_assoc (take (2 * i) out) (f ∷ g ∷ []) rest ∙ v

pub written_all : (full out : List ℕ) (i s : ℕ) → length out ≤ 2 * i → length full ≤ i → Written full out i s → out ≡ spread deep 0 full
unfolding spread
written_all full out i s h k w =
    let d : spread deep s (drop i full) ≡ [] = ap (λ (u : List ℕ). spread deep s u) (drop_all i full k) in
    sym (ap (λ (u : List ℕ). u ++ spread deep s (drop i full)) (take_all (2 * i) out h) ∙ ap (λ (u : List ℕ). out ++ u) d ∙ append-nil out) ∙ w

zero-at : (n i : ℕ) → get_or (zeros n) i 0 ≡ 0
unfolding zeros
zero-at zero i = refl
zero-at (suc n) zero = refl
zero-at (suc n) (suc i) = zero-at n i

pub zero-behind : (bs : List ℕ) (i : ℕ) → length bs ≤ i → get_or (bs ++ zeros 6) i 0 ≡ 0
zero-behind bs i h = get_or-append_right bs (zeros 6) (length bs) i 0 refl h ∙ zero-at 6 (i - length bs)

pub bit-within : (bs : List ℕ) (i : ℕ) → T (are_bits bs) → get_or bs i 0 < 2
bit-within [] i t = omega arith
bit-within (b ∷ bs) zero t = first_bit b bs t
bit-within (b ∷ bs) (suc i) t = bit-within bs i (rest-bits b bs t)

-- the same, of numbers that are computed otherwise
pub written_step : (full out : List ℕ) (i s b f g t : ℕ) → 2 * i + 1 < length out → i < length full → get_or full i 0 ≡ b →
    f ≡ first_out deep s b → g ≡ second_out deep s b → t ≡ next deep s b → Written full out i s → Written full (set (set out (2 * i) f) (2 * i + 1) g) (i + 1) t
written_step full out i s b f g t h k e ef eg et w = rw (ef, eg, et) (written-more full out i s b h k e w)
