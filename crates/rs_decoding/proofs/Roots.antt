-- A polynomial that is not zero has fewer roots than coefficients. Assumes nothing.
use Rattle.std.proofs.Common.{◌≡◌, ℕ, zero, suc, ◌<◌, ◌≤◌, true, false, cond, T, eqb, List, [], ◌∷◌, length, get_or, sym, refl, ap, ◌∙◌, ap₂, inl, inr, ⊎_elim, suc-le-suc, zero-le, le_of_suc-le-suc, not-suc-le-zero, arith}
use Rattle.std.proofs.lemmas.Bool.{eqb-true, eq-eqb, cases_lt}
use Rattle.bits.specs.Lists.{are_bytes, under, zeros}
use Rattle.gf256.proofs.Ring.{◌⊕◌, ◌⊙◌, ring, ⊙-zero-r, ⊕-zero-l, ⊕-zero-r, ⊕-self, ⊕-cancel, ⊙-nonzero, ⊕-below}
use Rattle.rs_theory.proofs.Distance.{Unlike, Locators}
use Rattle.rs_decoding.specs.Decoding.{evaluate, values_of, roots_of}
use Rattle.rs_decoding.proofs.Kernel.{evaluate-below, Rooted}
use Rattle.rs_decoding.proofs.Peel.{In, Supported}
use Rattle.rs_decoding.proofs.Bytes.{under_tail, under-cons}

-- ---- division by x - y: of the polynomial with coefficients a, cs the quotient is `quot y cs`
quot : ℕ → List ℕ → List ℕ
quot y [] = []
quot y (b ∷ bs) = evaluate (b ∷ bs) y ∷ quot y bs

flat : (a x y : ℕ) → (a ⊕ (x ⊙ 0)) ⊕ (a ⊕ (y ⊙ 0)) ≡ (x ⊕ y) ⊙ 0
flat a x y = simp ring

split : (a x y u v : ℕ) → (a ⊕ (x ⊙ u)) ⊕ (a ⊕ (y ⊙ v)) ≡ ((x ⊕ y) ⊙ v) ⊕ (x ⊙ (u ⊕ v))
split a x y u v = simp ring

join : (x y v q : ℕ) → ((x ⊕ y) ⊙ v) ⊕ (x ⊙ ((x ⊕ y) ⊙ q)) ≡ (x ⊕ y) ⊙ (v ⊕ (x ⊙ q))
join x y v q = simp ring

quot-right : (a : ℕ) (cs : List ℕ) (x y : ℕ) → evaluate (a ∷ cs) x ⊕ evaluate (a ∷ cs) y ≡ (x ⊕ y) ⊙ evaluate (quot y cs) x
unfolding evaluate quot
quot-right a [] x y = flat a x y
quot-right a (b ∷ bs) x y =
    split a x y (evaluate (b ∷ bs) x) (evaluate (b ∷ bs) y)
    ∙ ap (λ (n : ℕ). ((x ⊕ y) ⊙ evaluate (b ∷ bs) y) ⊕ (x ⊙ n)) (quot-right b bs x y)
    ∙ join x y (evaluate (b ∷ bs) y) (evaluate (quot y bs) x)

bytes-quot : (y : ℕ) (cs : List ℕ) → T (are_bytes cs) → T (are_bytes (quot y cs))
unfolding quot
bytes-quot y [] t = t
bytes-quot y (b ∷ bs) t =
    under-cons (evaluate (b ∷ bs) y) (quot y bs) (evaluate-below (b ∷ bs) y t) (bytes-quot y bs (under_tail b bs t))

length-quot : (y : ℕ) (cs : List ℕ) → length (quot y cs) ≡ length cs
unfolding quot
length-quot y [] = refl
length-quot y (b ∷ bs) = ap suc (length-quot y bs)

evaluate-zeros : (n x : ℕ) → evaluate (zeros n) x ≡ 0
unfolding evaluate zeros
evaluate-zeros zero x = refl
evaluate-zeros (suc n) x = rw (evaluate-zeros n x) (simp (⊙-zero-r, ⊕-zero-l))

head-zero : (b : ℕ) (bs : List ℕ) (y : ℕ) → evaluate (b ∷ bs) y ≡ 0 → bs ≡ zeros (length bs) → b ≡ 0
unfolding evaluate
head-zero b bs y e z =
    let v : evaluate bs y ≡ 0 = ap (λ (l : List ℕ). evaluate l y) z ∙ evaluate-zeros (length bs) y in
    sym (ap (λ (n : ℕ). b ⊕ (y ⊙ n)) v ∙ simp (⊙-zero-r, ⊕-zero-r)) ∙ e

quot-zero : (y : ℕ) (cs : List ℕ) → quot y cs ≡ zeros (length (quot y cs)) → cs ≡ zeros (length cs)
unfolding quot zeros
quot-zero y [] h = refl
quot-zero y (b ∷ bs) h =
    let e : evaluate (b ∷ bs) y ≡ 0 = cc in
    let r : quot y bs ≡ zeros (length (quot y bs)) = cc in
    let t : bs ≡ zeros (length bs) = quot-zero y bs r in
    ap₂ (λ (a : ℕ) (l : List ℕ). a ∷ l) (head-zero b bs y e t) t

-- the polynomial vanishes at each of ys
Vanish : List ℕ → List ℕ → Type 0
Vanish l [] = Unit {0}
Vanish l (y ∷ ys) = (evaluate l y ≡ 0) × Vanish l ys

vanish-quot : (a : ℕ) (cs : List ℕ) (y : ℕ) (ys : List ℕ) → y < 256 → T (are_bytes cs) → Locators ys → Unlike y ys → evaluate (a ∷ cs) y ≡ 0 → Vanish (a ∷ cs) ys → Vanish (quot y cs) ys
unfolding Vanish Unlike Locators
vanish-quot a cs y [] hy b ls u e v = tt
vanish-quot a cs y (x ∷ ys) hy b ls u e v =
    let z : (x ⊕ y) ⊙ evaluate (quot y cs) x ≡ 0 = sym (quot-right a cs x y) ∙ ap₂ (λ (m n : ℕ). m ⊕ n) v.0 e ∙ ⊕-self 0 in
    let q : evaluate (quot y cs) x < 256 = evaluate-below (quot y cs) x (bytes-quot y cs b) in
    let d : x ⊕ y < 256 = ⊕-below x y ls.0 hy in (
      ⊎_elim (λ r. absurd (u.0 (sym (⊕-cancel x y (omega (arith, r, d)))))) (λ r. omega (arith, r, q)) (⊙-nonzero (x ⊕ y) (evaluate (quot y cs) x) z),
      vanish-quot a cs y ys hy b ls.3 u.1 e v.1,
    )

few-roots : (l ys : List ℕ) → T (are_bytes l) → Locators ys → Vanish l ys → length l ≤ length ys → l ≡ zeros (length l)
unfolding Vanish Locators zeros
few-roots [] ys b ls v h = refl
few-roots (a ∷ cs) [] b ls v h = absurd (not-suc-le-zero h)
few-roots (a ∷ cs) (y ∷ ys) b ls v h =
    let bc : T (are_bytes cs) = under_tail a cs b in
    let le : length (quot y cs) ≤ length ys = omega (arith, length-quot y cs) in
    let z : cs ≡ zeros (length cs) =
    quot-zero y cs (few-roots (quot y cs) ys (bytes-quot y cs bc) ls.3 (vanish-quot a cs y ys ls.0 bc ls.3 ls.2 v.0 v.1) le) in
    ap₂ (λ (n : ℕ) (l : List ℕ). n ∷ l) (head-zero a cs y v.0 z) z

-- ---- the roots among the locators
unfoldable pub roots_among : List ℕ → List ℕ → List ℕ
roots_among l [] = []
roots_among l (x ∷ xs) = cond (eqb (evaluate l x) 0) (x ∷ roots_among l xs) (roots_among l xs)

pub roots-among : (l xs : List ℕ) → roots_of (values_of l xs) xs ≡ roots_among l xs
unfolding roots_of values_of roots_among
roots-among l [] = refl
roots-among l (x ∷ xs) = rw (roots-among l xs)

vanish-roots : (l xs : List ℕ) → Vanish l (roots_among l xs)
unfolding Vanish roots_among
vanish-roots l [] = tt
vanish-roots l (x ∷ xs) =
    elim (eqb (evaluate l x) 0) as (λ b. eqb (evaluate l x) 0 ≡ b → Vanish l (cond b (x ∷ roots_among l xs) (roots_among l xs)))
    [ true ↦ λ e. (eqb-true (evaluate l x) 0 e, vanish-roots l xs) | false ↦ λ e. vanish-roots l xs ]
    refl

unlike-roots : (l : List ℕ) (x : ℕ) (xs : List ℕ) → Unlike x xs → Unlike x (roots_among l xs)
unfolding Unlike roots_among
unlike-roots l x [] u = tt
unlike-roots l x (z ∷ xs) u =
    elim (eqb (evaluate l z) 0) as (λ b. Unlike x (cond b (z ∷ roots_among l xs) (roots_among l xs)))
    [ true ↦ (u.0, unlike-roots l x xs u.1) | false ↦ unlike-roots l x xs u.1 ]

pub locators-roots : (l xs : List ℕ) → Locators xs → Locators (roots_among l xs)
unfolding Locators roots_among
locators-roots l [] ls = tt
locators-roots l (x ∷ xs) ls =
    elim (eqb (evaluate l x) 0) as (λ b. Locators (cond b (x ∷ roots_among l xs) (roots_among l xs)))
    [ true ↦ (ls.0, ls.1, unlike-roots l x xs ls.2, locators-roots l xs ls.3) | false ↦ locators-roots l xs ls.3 ]

pub bytes-locators : (xs : List ℕ) → Locators xs → T (are_bytes xs)
unfolding Locators under
bytes-locators [] ls = tt
bytes-locators (x ∷ xs) ls = under-cons x xs ls.0 (bytes-locators xs ls.3)

get_or-zeros : (n p : ℕ) → get_or (zeros n) p 0 ≡ 0
unfolding zeros
get_or-zeros zero p = refl
get_or-zeros (suc n) zero = refl
get_or-zeros (suc n) (suc p) = get_or-zeros n p

pub roots_few : (l xs : List ℕ) (p : ℕ) → T (are_bytes l) → Locators xs → (get_or l p 0 ≡ 0 → ⊥) → length (roots_among l xs) < length l
roots_few l xs p b ls ne =
    ⊎_elim (λ h. h)
    (λ h. absurd (ne (ap (λ (m : List ℕ). get_or m p 0) (few-roots l (roots_among l xs) b (locators-roots l xs ls) (vanish-roots l xs) h) ∙ get_or-zeros (length l) p)))
    (cases_lt (length (roots_among l xs)) (length l))

pub root_in : (l xs : List ℕ) (p : ℕ) → p < length xs → evaluate l (get_or xs p 0) ≡ 0 → In (get_or xs p 0) (roots_among l xs)
unfolding In roots_among
root_in l [] p h e = absurd (not-suc-le-zero h)
root_in l (x ∷ xs) zero h e = rw (eq-eqb (evaluate l x) 0 e) (inl refl)
root_in l (x ∷ xs) (suc p) h e =
    elim (eqb (evaluate l x) 0) as (λ b. In (get_or xs p 0) (cond b (x ∷ roots_among l xs) (roots_among l xs)))
    [ true ↦ inr (root_in l xs p (le_of_suc-le-suc h) e) | false ↦ root_in l xs p (le_of_suc-le-suc h) e ]

supported-from : (l ys es xs : List ℕ) → Rooted l es xs → ((p : ℕ) → p < length xs → evaluate l (get_or xs p 0) ≡ 0 → In (get_or xs p 0) ys) → Supported ys es xs
unfolding Rooted Supported
supported-from l ys [] xs r f = tt
supported-from l ys (e ∷ es) [] r f = tt
supported-from l ys (e ∷ es) (x ∷ xs) r f =
    (⊎_elim (λ z. inl z) (λ z. inr (f zero (suc-le-suc zero-le) z)) r.0, supported-from l ys es xs r.1 (λ p h. f (suc p) (suc-le-suc h)))

-- errors stand at roots only
pub supported : (l es xs : List ℕ) → Rooted l es xs → Supported (roots_among l xs) es xs
supported l es xs r = supported-from l (roots_among l xs) es xs r (λ p h e. root_in l xs p h e)
