-- The kernel lemma: a vector orthogonal to enough windows of the syndromes is a polynomial that vanishes at the locator of every error. Assumes nothing.
use Rattle.std.proofs.Common.{◌≡◌, ℕ, zero, suc, ◌+◌, ◌<◌, ◌≤◌, Bool, true, false, cond, T, eqb, ◌⊎◌, List, [], ◌∷◌, length, drop, sym, refl, ap, ◌∙◌, ap₂, inl, inr, ⊎_elim, suc-le-suc, zero-le, le_trans, le_of_suc-le-suc, not-suc-le-zero, add-zero, add-le-add, suc-add, zero-add, arith, lit<}
use Rattle.std.proofs.lemmas.Bool.{eqb-true, eq-eqb, lt-ltb}
use Rattle.bits.specs.Lists.{are_bytes, under, zeros}
use Rattle.gf256.proofs.Ring.{◌⊕◌, ◌⊙◌, pow, ring, ⊙-zero-r, ⊙-zero-l, ⊕-zero-l, ⊙-below, ⊙-nonzero, pow-suc, ⊕-below}
use Rattle.rs_theory.proofs.Sum.{sum, weight}
use Rattle.rs_theory.proofs.Distance.{Locators, distance-lemma}
use Rattle.rs_decoding.specs.Decoding.{dot, evaluate}
use Rattle.rs_decoding.proofs.Bytes.{under-head, under_tail}

-- the first m entries of t are the sums at k, k + 1, ..
unfoldable pub Valid : ℕ → List ℕ → List ℕ → ℕ → List ℕ → Type 0
Valid zero es xs k t = Unit {0}
Valid (suc m) es xs k [] = ⊥
Valid (suc m) es xs k (a ∷ t) = (a ≡ sum es xs k) × Valid m es xs (suc k) t

-- each entry times the value of the polynomial at its locator
unfoldable pub weigh : List ℕ → List ℕ → List ℕ → List ℕ
weigh l [] xs = []
weigh l (e ∷ es) [] = []
weigh l (e ∷ es) (x ∷ xs) = (e ⊙ evaluate l x) ∷ weigh l es xs

weigh-nil : (es xs : List ℕ) (i : ℕ) → sum (weigh [] es xs) xs i ≡ 0
unfolding weigh sum evaluate
weigh-nil [] xs i = refl
weigh-nil (e ∷ es) [] i = refl
weigh-nil (e ∷ es) (x ∷ xs) i = simp (weigh-nil es xs i, ⊙-zero-r, ⊙-zero-l, ⊕-zero-l)

spread : (e a x v p s w : ℕ) → ((e ⊙ (a ⊕ (x ⊙ v))) ⊙ p) ⊕ ((a ⊙ s) ⊕ w) ≡ (a ⊙ ((e ⊙ p) ⊕ s)) ⊕ (((e ⊙ v) ⊙ (x ⊙ p)) ⊕ w)
spread e a x v p s w = simp ring

weigh-cons : (a : ℕ) (cs es xs : List ℕ) (i : ℕ) → sum (weigh (a ∷ cs) es xs) xs i ≡ (a ⊙ sum es xs i) ⊕ sum (weigh cs es xs) xs (suc i)
unfolding weigh sum evaluate
weigh-cons a cs [] xs i = simp (⊙-zero-r, ⊕-zero-l)
weigh-cons a cs (e ∷ es) [] i = simp (⊙-zero-r, ⊕-zero-l)
weigh-cons a cs (e ∷ es) (x ∷ xs) i =
    ap (λ (n : ℕ). ((e ⊙ (a ⊕ (x ⊙ evaluate cs x))) ⊙ pow x i) ⊕ n) (weigh-cons a cs es xs i)
    ∙ spread e a x (evaluate cs x) (pow x i) (sum es xs i) (sum (weigh cs es xs) xs (suc i))
    ∙ ap (λ (n : ℕ). (a ⊙ ((e ⊙ pow x i) ⊕ sum es xs i)) ⊕ (((e ⊙ evaluate cs x) ⊙ n) ⊕ sum (weigh cs es xs) xs (suc i))) (sym (pow-suc x i))

pub weigh-dot : (l es xs t : List ℕ) (k : ℕ) → Valid (length l) es xs k t → sum (weigh l es xs) xs k ≡ dot l t
unfolding dot Valid
weigh-dot [] es xs t k v = weigh-nil es xs k
weigh-dot (a ∷ cs) es xs [] k v = absurd v
weigh-dot (a ∷ cs) es xs (b ∷ t) k v =
    weigh-cons a cs es xs k ∙ ap₂ (λ (m n : ℕ). (a ⊙ m) ⊕ n) (sym v.0) (weigh-dot cs es xs t (suc k) v.1)

pub valid-drop : (i m : ℕ) (es xs t : List ℕ) (k : ℕ) → Valid (i + m) es xs k t → Valid m es xs (k + i) (drop i t)
unfolding Valid
valid-drop zero m es xs t k v = rw add-zero (rw zero-add at v)
valid-drop (suc i) m es xs [] k v =
    let z : Valid (suc (i + m)) es xs k [] = rw suc-add at v in
    absurd z
valid-drop (suc i) m es xs (a ∷ t) k v =
    let z : Valid (suc (i + m)) es xs k (a ∷ t) = rw suc-add at v in
    let r : Valid m es xs (suc k + i) (drop i t) = valid-drop i m es xs t (suc k) z.1 in
    let e : k + suc i ≡ suc k + i = omega arith in
    rw e r

pub valid-less : (m n : ℕ) (es xs t : List ℕ) (k : ℕ) → m ≤ n → Valid n es xs k t → Valid m es xs k t
unfolding Valid
valid-less zero n es xs t k h v = tt
valid-less (suc m) zero es xs t k h v = absurd (not-suc-le-zero h)
valid-less (suc m) (suc n) es xs [] k h v = absurd v
valid-less (suc m) (suc n) es xs (a ∷ t) k h v = (v.0, valid-less m n es xs t (suc k) (le_of_suc-le-suc h) v.1)

length-weigh : (l es xs : List ℕ) → length es ≡ length xs → length (weigh l es xs) ≡ length xs
unfolding weigh
length-weigh l [] [] h = refl
length-weigh l [] (x ∷ xs) h = let z : ⊥ = omega arith in absurd z
length-weigh l (e ∷ es) [] h = let z : ⊥ = omega arith in absurd z
length-weigh l (e ∷ es) (x ∷ xs) h = ap suc (length-weigh l es xs (omega arith))

cond-le : (t : Bool) → cond t 0 1 ≤ 1
cond-le true = zero-le
cond-le false = suc-le-suc zero-le

nonzero-le : (a b : ℕ) → (b ≡ 0 → a ≡ 0) → cond (eqb a 0) 0 1 ≤ cond (eqb b 0) 0 1
nonzero-le a b f = go (eqb b 0) refl
  where
    go : (t : Bool) → eqb b 0 ≡ t → cond (eqb a 0) 0 1 ≤ cond t 0 1
    go true e = rw (eq-eqb a 0 (f (eqb-true b 0 e))) zero-le
    go false e = cond-le (eqb a 0)

weight-weigh : (l es xs : List ℕ) → weight (weigh l es xs) ≤ weight es
unfolding weigh weight
weight-weigh l [] xs = zero-le
weight-weigh l (e ∷ es) [] = zero-le
weight-weigh l (e ∷ es) (x ∷ xs) =
    add-le-add (nonzero-le (e ⊙ evaluate l x) e (λ z. rw z (⊙-zero-l (evaluate l x)))) (weight-weigh l es xs)

bytes-weigh : (l es xs : List ℕ) → T (are_bytes (weigh l es xs))
unfolding weigh under
bytes-weigh l [] xs = tt
bytes-weigh l (e ∷ es) [] = tt
bytes-weigh l (e ∷ es) (x ∷ xs) = rw (lt-ltb (e ⊙ evaluate l x) 256 (⊙-below e (evaluate l x))) (bytes-weigh l es xs)

pub evaluate-below : (l : List ℕ) (x : ℕ) → T (are_bytes l) → evaluate l x < 256
unfolding evaluate under
evaluate-below [] x b = lit< tt
evaluate-below (a ∷ cs) x b = ⊕-below a (x ⊙ evaluate cs x) (under-head a cs b) (⊙-below x (evaluate cs x))

-- at each place there is no error, or the polynomial vanishes there
unfoldable pub Rooted : List ℕ → List ℕ → List ℕ → Type 0
Rooted l [] xs = Unit {0}
Rooted l (e ∷ es) [] = Unit {0}
Rooted l (e ∷ es) (x ∷ xs) = ((e ≡ 0) ⊎ (evaluate l x ≡ 0)) × Rooted l es xs

rooted : (l es xs : List ℕ) → T (are_bytes l) → T (are_bytes es) → weigh l es xs ≡ zeros (length (weigh l es xs)) → Rooted l es xs
unfolding Rooted weigh zeros
rooted l [] xs b c z = tt
rooted l (e ∷ es) [] b c z = tt
rooted l (e ∷ es) (x ∷ xs) b c z =
    let h : e ⊙ evaluate l x ≡ 0 = cc in
    let r : weigh l es xs ≡ zeros (length (weigh l es xs)) = cc in
    let eb : e < 256 = under-head e es c in
    let lb : evaluate l x < 256 = evaluate-below l x b in (
      ⊎_elim (λ p. inl (omega (arith, p))) (λ p. inr (omega (arith, p))) (⊙-nonzero e (evaluate l x) h),
      rooted l es xs b (under_tail e es c) r,
    )

-- errors at no more than n places, and a vector l orthogonal to the n windows of the syndromes t
pub kernel-lemma : (l es xs t : List ℕ) (n : ℕ) → T (are_bytes l) → T (are_bytes es) → length es ≡ length xs → Locators xs → weight es ≤ n →
    ((i : ℕ) → i < n → dot l (drop i t) ≡ 0) → ((i : ℕ) → i < n → Valid (i + length l) es xs 1 t) → Rooted l es xs
kernel-lemma l es xs t n b c h ls w o v =
    rooted l es xs b c
    (distance-lemma n 1 (weigh l es xs) xs (length-weigh l es xs h) (bytes-weigh l es xs) ls (le_trans (weight-weigh l es xs) w)
    (λ j i. weigh-dot l es xs (drop j t) (1 + j) (valid-drop j (length l) es xs t 1 (v j i)) ∙ o j i))
