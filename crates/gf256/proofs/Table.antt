-- The powers of 2 and the logarithms, as lists; each rule is one computed test. Assumes nothing.
use Rattle.std.proofs.Common.{◌≡◌, ℕ, zero, suc, ◌+◌, ◌<◌, Bool, true, false, ◌&&◌, ◌||◌, T, eqb, ltb, List, [], ◌∷◌, length, take, get_or, sym, refl, ap, ◌∙◌, subst, arith, eqb→eq, ltb→lt}
use Rattle.gf256.specs.Field.{product, product_by, power}
use Rattle.gf256.specs.declared.tables.TheConstants.{EXP, LOG}
use Rattle.gf256.proofs.Basis.{all_below, at-below, both_left, both_right}

-- 2^0 .. 2^509: two rounds
unfoldable pub rounds : List ℕ
rounds = EXP

-- 2^0 .. 2^254: one of them
unfoldable pub cycle : List ℕ
cycle = take 255 EXP

-- the exponent of each byte that is not zero
unfoldable pub logs : List ℕ
logs = LOG

-- each entry is 2 times the one before it, and last the n-th power is 1 again
chained : ℕ → List ℕ → Bool
chained a [] = eqb a 1
chained a (b ∷ bs) = eqb a b && chained (product 2 b) bs

chained-at : (a : ℕ) (bs : List ℕ) (m : ℕ) → a ≡ power 2 m → T (chained a bs) → (k : ℕ) → k < length bs → get_or bs k 0 ≡ power 2 (m + k)
unfolding chained power
chained-at a [] m e t k h = let z : ⊥ = omega arith in absurd z
chained-at a (b ∷ bs) m e t zero h = sym (eqb→eq a b (both_left (eqb a b) (chained (product 2 b) bs) t)) ∙ e ∙ ap (power 2) (omega arith)
chained-at a (b ∷ bs) m e t (suc k) h =
    let same : a ≡ b = eqb→eq a b (both_left (eqb a b) (chained (product 2 b) bs) t) in
    chained-at (product 2 b) bs (suc m) (ap (product 2) (sym same ∙ e)) (both_right (eqb a b) (chained (product 2 b) bs) t) k (omega arith) ∙
    ap (power 2) (omega arith)

chained-end : (a : ℕ) (bs : List ℕ) (m : ℕ) → a ≡ power 2 m → T (chained a bs) → power 2 (m + length bs) ≡ 1
unfolding chained power
chained-end a [] m e t = ap (power 2) (omega arith) ∙ sym e ∙ eqb→eq a 1 t
chained-end a (b ∷ bs) m e t =
    let same : a ≡ b = eqb→eq a b (both_left (eqb a b) (chained (product 2 b) bs) t) in
    ap (power 2) (omega arith) ∙ chained-end (product 2 b) bs (suc m) (ap (product 2) (sym same ∙ e)) (both_right (eqb a b) (chained (product 2 b) bs) t)

cycle-chained : T (chained 1 cycle)
unfolding cycle chained product product_by
cycle-chained = tt

pub cycle-length : length cycle ≡ 255
unfolding cycle
cycle-length = refl

one-is : 1 ≡ power 2 0
unfolding power
one-is = refl

pub cycle-at : (k : ℕ) → k < 255 → get_or cycle k 0 ≡ power 2 k
cycle-at k h = chained-at 1 cycle 0 one-is cycle-chained k (rw cycle-length h) ∙ ap (power 2) (omega arith)

pub order : power 2 255 ≡ 1
order = ap (power 2) (sym cycle-length ∙ omega arith) ∙ chained-end 1 cycle 0 one-is cycle-chained

rounds-chained : T (chained 1 rounds)
unfolding rounds chained product product_by
rounds-chained = tt

pub rounds-length : length rounds ≡ 510
unfolding rounds
rounds-length = refl

pub rounds-at : (k : ℕ) → k < 510 → get_or rounds k 0 ≡ power 2 k
rounds-at k h = chained-at 1 rounds 0 one-is rounds-chained k (rw rounds-length h) ∙ ap (power 2) (omega arith)

-- the exponent of a power is the exponent
returns : ℕ → Bool
returns k = eqb (get_or logs (get_or cycle k 0) 0) k

returns-all : T (all_below 255 returns)
unfolding returns cycle logs
returns-all = tt

pub log-of-power : (k : ℕ) → k < 255 → get_or logs (power 2 k) 0 ≡ k
unfolding returns
log-of-power k h = ap (λ (x : ℕ). get_or logs x 0) (sym (cycle-at k h)) ∙ eqb→eq _ _ (at-below 255 returns returns-all k h)

-- every byte that is not zero is a power
reached : ℕ → Bool
reached a = eqb a 0 || (ltb (get_or logs a 0) 255 && eqb (get_or cycle (get_or logs a 0) 0) a)

reached-all : T (all_below 256 reached)
unfolding reached cycle logs
reached-all = tt

-- of a byte that is not zero: its exponent, and that it is one
pub record Log (a : ℕ) : Type 0 where
  pub below : get_or logs a 0 < 255
  pub is : power 2 (get_or logs a 0) ≡ a

pick-right : (a : ℕ) (t : Bool) → (a ≡ 0 → ⊥) → T (eqb a 0 || t) → T t
pick-right zero t n h = absurd (n refl)
pick-right (suc a) true n h = tt
pick-right (suc a) false n h = n' (eqb (suc a) 0) refl h
  where
    n' : (b : Bool) → eqb (suc a) 0 ≡ b → T (b || false) → ⊥
    n' true e h = n (eqb→eq (suc a) 0 (subst T (sym e) tt))
    n' false e h = h

pub log_is : (a : ℕ) → a < 256 → (a ≡ 0 → ⊥) → Log a
unfolding reached
log_is a h n =
    let t : T (ltb (get_or logs a 0) 255 && eqb (get_or cycle (get_or logs a 0) 0) a) = pick-right a (ltb (get_or logs a 0) 255 && eqb (get_or cycle (get_or logs a 0) 0) a) n (at-below 256 reached reached-all a h) in
    let l : get_or logs a 0 < 255 = ltb→lt _ _ (both_left (ltb (get_or logs a 0) 255) (eqb (get_or cycle (get_or logs a 0) 0) a) t) in
    record { below = l; is = sym (cycle-at (get_or logs a 0) l) ∙ eqb→eq _ _ (both_right (ltb (get_or logs a 0) 255) (eqb (get_or cycle (get_or logs a 0) 0) a) t) }
