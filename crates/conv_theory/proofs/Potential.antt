-- Potentials: how many bits two ways that stand in different states still have to differ at before they can meet. Assumes nothing.
use Rattle.std.proofs.Common.{◌≡◌, ℕ, ◌+◌, ◌<◌, ◌≤◌, Bool, ◌&&◌, T, eqb, leb, List, [], ◌∷◌, get_or, sym, subst, inl, inr, arith, eqb→eq, leb→le}
use lib.Bits.{bit_xor}
use Rattle.bits.specs.Distance.{differ}
use Rattle.conv_theory.specs.Code.{deep, parity, first_out, second_out, next}
use Rattle.bits.proofs.Tests.{every_below, every_below-at}
use Rattle.conv_theory.proofs.Basics.{and_first, and_second, zero-or-one}

-- by the sum modulo 2 of the two states: the fewest ones that go out from it on the way to state 0
unfoldable pub phi : List ℕ
phi =
    0 ∷ 2 ∷ 3 ∷ 3 ∷ 3 ∷ 5 ∷ 4 ∷ 4 ∷ 5 ∷ 3 ∷ 6 ∷ 6 ∷ 6 ∷ 4 ∷ 5 ∷ 5 ∷ 7 ∷ 5 ∷ 4 ∷ 4 ∷ 6 ∷ 6 ∷ 7 ∷ 7 ∷ 6 ∷ 6 ∷ 5 ∷ 5 ∷ 5 ∷ 7 ∷ 6 ∷ 6 ∷
    8 ∷ 8 ∷ 7 ∷ 5 ∷ 5 ∷ 5 ∷ 6 ∷ 4 ∷ 7 ∷ 7 ∷ 6 ∷ 6 ∷ 6 ∷ 6 ∷ 7 ∷ 7 ∷ 7 ∷ 7 ∷ 6 ∷ 6 ∷ 6 ∷ 6 ∷ 5 ∷ 7 ∷ 6 ∷ 6 ∷ 7 ∷ 7 ∷ 7 ∷ 7 ∷ 6 ∷ 6 ∷ []

unfoldable pub pot : ℕ → ℕ → ℕ
pot s t = get_or phi (bit_xor s t) 0

-- at how many of two bits the two ways differ in one step
unfoldable pub parts : ℕ → ℕ → ℕ → ℕ → ℕ
parts s t b c = differ (first_out deep s b) (first_out deep t c) + differ (second_out deep s b) (second_out deep t c)

step_right : ℕ → ℕ → ℕ → ℕ → Bool
step_right s t b c = leb (pot s t) (parts s t b c + pot (next deep s b) (next deep t c))

pair_right : ℕ → ℕ → Bool
pair_right s t = (step_right s t 0 0 && step_right s t 0 1) && (step_right s t 1 0 && step_right s t 1 1)

row_right : ℕ → Bool
row_right s = every_below 64 (pair_right s)

-- two ways that part
parting_right : ℕ → Bool
parting_right s = leb 10 (parts s s 0 1 + pot (next deep s 0) (next deep s 1)) && leb 10 (parts s s 1 0 + pot (next deep s 1) (next deep s 0))

meet_right : ℕ → Bool
meet_right s = eqb (pot s s) 0

steps-right : T (every_below 64 row_right)
unfolding every_below row_right pair_right step_right pot parts phi parity
steps-right = tt

partings-right : T (every_below 64 parting_right)
unfolding every_below parting_right pot parts phi parity
partings-right = tt

meet_right_lem : T (every_below 64 meet_right)
unfolding every_below meet_right pot phi
meet_right_lem = tt

-- one step takes off the potential no more than the bits at which the two ways differ in it
pub step_down : (s t b c : ℕ) → s < 64 → t < 64 → b < 2 → c < 2 → pot s t ≤ parts s t b c + pot (next deep s b) (next deep t c)
unfolding row_right pair_right step_right
step_down s t b c hs ht hb hc =
    let p : T (pair_right s t) = every_below-at 64 (pair_right s) (every_below-at 64 row_right steps-right s hs) t ht in
    let q = and_first (step_right s t 0 0 && step_right s t 0 1) (step_right s t 1 0 && step_right s t 1 1) p in
    let r = and_second (step_right s t 0 0 && step_right s t 0 1) (step_right s t 1 0 && step_right s t 1 1) p in
    let goal : ℕ → ℕ → Type 0 = λ b c. pot s t ≤ parts s t b c + pot (next deep s b) (next deep t c) in
    let at00 : goal 0 0 = leb→le _ _ (and_first (step_right s t 0 0) (step_right s t 0 1) q) in
    let at01 : goal 0 1 = leb→le _ _ (and_second (step_right s t 0 0) (step_right s t 0 1) q) in
    let at10 : goal 1 0 = leb→le _ _ (and_first (step_right s t 1 0) (step_right s t 1 1) r) in
    let at11 : goal 1 1 = leb→le _ _ (and_second (step_right s t 1 0) (step_right s t 1 1) r) in
    elim (zero-or-one b hb) [
      | inl e ↦ subst (λ (b : ℕ). goal b c) (sym e) (elim (zero-or-one c hc) [ inl f ↦ subst (λ (c : ℕ). goal 0 c) (sym f) at00 | inr f ↦ subst (λ (c : ℕ). goal 0 c) (sym f) at01 ])
      | inr e ↦ subst (λ (b : ℕ). goal b c) (sym e) (elim (zero-or-one c hc) [ inl f ↦ subst (λ (c : ℕ). goal 1 c) (sym f) at10 | inr f ↦ subst (λ (c : ℕ). goal 1 c) (sym f) at11 ])
    ]

-- ways that part differ at ten bits or more till they meet
pub parting : (s b c : ℕ) → s < 64 → b < 2 → c < 2 → (b ≡ c → ⊥) → 10 ≤ parts s s b c + pot (next deep s b) (next deep s c)
unfolding parting_right
parting s b c hs hb hc n =
    let p = every_below-at 64 parting_right partings-right s hs in
    let goal : ℕ → ℕ → Type 0 = λ b c. 10 ≤ parts s s b c + pot (next deep s b) (next deep s c) in
    let x = leb 10 (parts s s 0 1 + pot (next deep s 0) (next deep s 1)) in
    let y = leb 10 (parts s s 1 0 + pot (next deep s 1) (next deep s 0)) in
    let at01 : goal 0 1 = leb→le _ _ (and_first x y p) in
    let at10 : goal 1 0 = leb→le _ _ (and_second x y p) in
    elim (zero-or-one b hb) [
      | inl e ↦ let f : c ≡ 1 = other c b hc e n in subst (λ (b : ℕ). goal b c) (sym e) (subst (λ (c : ℕ). goal 0 c) (sym f) at01)
      | inr e ↦ let f : c ≡ 0 = another c b hc e n in subst (λ (b : ℕ). goal b c) (sym e) (subst (λ (c : ℕ). goal 1 c) (sym f) at10)
    ]
  where
    other : (c b : ℕ) → c < 2 → b ≡ 0 → (b ≡ c → ⊥) → c ≡ 1
    other c b h e n = grind arith

    another : (c b : ℕ) → c < 2 → b ≡ 1 → (b ≡ c → ⊥) → c ≡ 0
    another c b h e n = grind arith

pub meeting : (s : ℕ) → s < 64 → pot s s ≡ 0
unfolding meet_right
meeting s h = eqb→eq (pot s s) 0 (every_below-at 64 meet_right meet_right_lem s h)
