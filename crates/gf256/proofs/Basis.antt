-- Two additive functions that agree at the powers of two below 2^n agree below 2^n; and tests over all numbers below a bound. Assumes nothing.
use Rattle.std.proofs.Common.{◌≡◌, ℕ, zero, suc, ◌-◌, ◌*◌, ◌^◌, ◌<◌, Bool, true, false, ◌&&◌, T, sym, ap, ◌∙◌, subst, ap₂, ⊎_elim, arith}
use lib.Bits.{bit_xor, xor_self, xor_shifted}
use Rattle.std.proofs.lemmas.Bool.{cases_lt, cases_eq}

abbrev pub Additive : (ℕ → ℕ) → Type 0
Additive f = (a b : ℕ) → f (bit_xor a b) ≡ bit_xor (f a) (f b)

pub additive-zero : (f : ℕ → ℕ) → Additive f → f 0 ≡ 0
additive-zero f h = h 0 0 ∙ xor_self (f 0)

pub agree : (n : ℕ) (f g : ℕ → ℕ) → Additive f → Additive g → ((i : ℕ) → i < n → f (2 ^ i) ≡ g (2 ^ i)) → (a : ℕ) → a < 2 ^ n → f a ≡ g a
agree zero f g F G same a h =
    let z : a ≡ 0 = omega arith in
    ap f z ∙ additive-zero f F ∙ sym (additive-zero g G) ∙ sym (ap g z)
agree (suc n) f g F G same a h =
    ⊎_elim
    (λ low. agree n f g F G (λ i k. same i (omega arith)) a low)
    (λ high.
    let below : a - 2 ^ n < 2 ^ n = omega arith in
    let one : 1 * 2 ^ n ≡ 2 ^ n = omega arith in
    let back : bit_xor (2 ^ n) (a - 2 ^ n) ≡ a = ap (λ (x : ℕ). bit_xor x (a - 2 ^ n)) (sym one) ∙ xor_shifted 1 n (a - 2 ^ n) below ∙ omega arith in
    ap f (sym back) ∙ F (2 ^ n) (a - 2 ^ n) ∙
    ap₂ bit_xor (same n (omega arith)) (agree n f g F G (λ i k. same i (omega arith)) (a - 2 ^ n) below) ∙
    sym (G (2 ^ n) (a - 2 ^ n)) ∙ ap g back)
    (cases_lt a (2 ^ n))

-- p passes at each number below n
abbrev pub all_below : ℕ → (ℕ → Bool) → Bool
all_below zero p = true
all_below (suc n) p = p n && all_below n p

pub both_left : (a b : Bool) → T (a && b) → T a
both_left true b t = tt
both_left false b t = t

pub both_right : (a b : Bool) → T (a && b) → T b
both_right true b t = t
both_right false b t = absurd t

pub both : (a b : Bool) → T a → T b → T (a && b)
both true b s t = t
both false b s t = s

pub at-below : (n : ℕ) (p : ℕ → Bool) → T (all_below n p) → (k : ℕ) → k < n → T (p k)
at-below zero p t k h = let z : ⊥ = omega arith in absurd z
at-below (suc n) p t k h =
    ⊎_elim
    (λ e. subst (λ (x : ℕ). T (p x)) (sym e) (both_left (p n) (all_below n p) t))
    (λ ne. at-below n p (both_right (p n) (all_below n p) t) k (omega arith))
    (cases_eq k n)
