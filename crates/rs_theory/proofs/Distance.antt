-- The distance lemma: entries with at most t that are not zero, whose sums vanish at t powers in a row, are all zero. Assumes nothing.
use Rattle.std.proofs.Common.{◌≡◌, ℕ, suc, ◌+◌, ◌-◌, ◌<◌, ◌≤◌, T, ltb, List, [], ◌∷◌, length, sym, refl, ap, ◌∙◌, ap₂, ⊎_elim, arith, ltb→lt}
use Rattle.std.proofs.lemmas.Bool.{cases_eq}
use Rattle.bits.specs.Lists.{under, are_bytes, zeros}
use Rattle.bits.specs.Distance.{differ}
use Rattle.bits.proofs.Hamming.{differ-not}
use Rattle.gf256.proofs.Basis.{both_left, both_right}
use Rattle.gf256.proofs.Ring.{◌⊕◌, ◌⊙◌, pow, pow-suc, pow_below, pow-nonzero, ring, ⊕-cancel, ⊕-below, ⊙-zero-l, ⊙-nonzero}
use Rattle.rs_theory.proofs.Sum.{sum, scale, weight, sum-scale, sum_zeros, length-scale, bytes-scale, weight-scale}

-- x is none of ys
unfoldable pub Unlike : ℕ → List ℕ → Type 0
Unlike x [] = Unit {0}
Unlike x (y ∷ ys) = (x ≡ y → ⊥) × Unlike x ys

-- bytes that are not zero, no two of them equal
unfoldable pub Locators : List ℕ → Type 0
Locators [] = Unit {0}
Locators (x ∷ xs) = (x < 256) × (x ≡ 0 → ⊥) × Unlike x xs × Locators xs

pub head_byte : (e : ℕ) (es : List ℕ) → T (are_bytes (e ∷ es)) → e < 256
unfolding under
head_byte e es b = ltb→lt e 256 (both_left (ltb e 256) (under 256 es) b)

pub tail-bytes : (e : ℕ) (es : List ℕ) → T (are_bytes (e ∷ es)) → T (are_bytes es)
unfolding under
tail-bytes e es b = both_right (ltb e 256) (under 256 es) b

pub cons-zeros : (e : ℕ) (es : List ℕ) → e ≡ 0 → es ≡ zeros (length es) → e ∷ es ≡ zeros (length (e ∷ es))
unfolding zeros
cons-zeros e es p q = ap₂ ◌∷◌ p q

pub head-zero : (e : ℕ) (es : List ℕ) → e ∷ es ≡ zeros (length (e ∷ es)) → e ≡ 0
unfolding zeros
head-zero e es h = cc

pub tail-zeros : (e : ℕ) (es : List ℕ) → e ∷ es ≡ zeros (length (e ∷ es)) → es ≡ zeros (length es)
unfolding zeros
tail-zeros e es h = cc

-- a byte times what is not zero is zero only if the byte is
pub byte-zero : (e k : ℕ) → e < 256 → k < 256 → (k ≡ 0 → ⊥) → e ⊙ k ≡ 0 → e ≡ 0
byte-zero e k p q n z =
    ⊎_elim (λ a. omega arith) (λ b. let c : k ≡ 0 = omega arith in absurd (n c)) (⊙-nonzero e k z)

-- scaled by what is none of their locators, only zeros become zeros
pub scale-zeros : (x : ℕ) (es ys : List ℕ) → x < 256 → Unlike x ys → Locators ys → T (are_bytes es) → length es ≡ length ys →
    scale x es ys ≡ zeros (length (scale x es ys)) → es ≡ zeros (length es)
unfolding scale Unlike Locators zeros
scale-zeros x [] ys p u l b h z = refl
scale-zeros x (e ∷ es) [] p u l b h z = let y : ⊥ = omega arith in absurd y
scale-zeros x (e ∷ es) (y ∷ ys) p u l b h z =
    cons-zeros e es
    (byte-zero e (y ⊕ x) (head_byte e es b) (⊕-below y x l.0 p) (λ s. u.0 (sym (⊕-cancel y x s)))
    (head-zero (e ⊙ (y ⊕ x)) (scale x es ys) z))
    (scale-zeros x es ys p u.1 l.3 (tail-bytes e es b) (omega arith) (tail-zeros (e ⊙ (y ⊕ x)) (scale x es ys) z))

-- the first entry's part of a sum that vanishes is that of the others
head-part : (e x s : ℕ) (es ys : List ℕ) → sum (e ∷ es) (x ∷ ys) s ≡ 0 → sum es ys s ≡ e ⊙ pow x s
unfolding sum
head-part e x s es ys h = sym (⊕-cancel (e ⊙ pow x s) (sum es ys s) h)

cancels : (e x p : ℕ) → e ⊙ (x ⊙ p) ⊕ x ⊙ (e ⊙ p) ≡ 0
cancels e x p = simp ring

scaled-vanishes : (e x s : ℕ) (es ys : List ℕ) → sum (e ∷ es) (x ∷ ys) s ≡ 0 → sum (e ∷ es) (x ∷ ys) (suc s) ≡ 0 → sum (scale x es ys) ys s ≡ 0
scaled-vanishes e x s es ys h k =
    sum-scale x es ys s ∙
    ap₂ (λ (a b : ℕ). a ⊕ x ⊙ b) (head-part e x (suc s) es ys k ∙ ap (λ (a : ℕ). e ⊙ a) (pow-suc x s)) (head-part e x s es ys h) ∙
    cancels e x (pow x s)

tail-vanishes : (e x s : ℕ) (es ys : List ℕ) → e ≡ 0 → sum (e ∷ es) (x ∷ ys) s ≡ 0 → sum es ys s ≡ 0
tail-vanishes e x s es ys z h = head-part e x s es ys h ∙ ap (λ (a : ℕ). a ⊙ pow x s) z ∙ ⊙-zero-l (pow x s)

-- alone, an entry whose part vanishes is zero
alone : (e x s : ℕ) (es ys : List ℕ) → e < 256 → x < 256 → (x ≡ 0 → ⊥) → es ≡ zeros (length es) → sum (e ∷ es) (x ∷ ys) s ≡ 0 → e ≡ 0
alone e x s es ys p q n z h =
    byte-zero e (pow x s) p (pow_below x s) (pow-nonzero x s (λ k. n (omega arith)))
    (sym (head-part e x s es ys h) ∙ ap (λ (a : List ℕ). sum a ys s) z ∙ sum_zeros (length es) ys s)

pub distance-lemma : (t s : ℕ) (es ys : List ℕ) → length es ≡ length ys → T (are_bytes es) → Locators ys → weight es ≤ t →
    ((j : ℕ) → j < t → sum es ys (s + j) ≡ 0) → es ≡ zeros (length es)
unfolding Locators weight zeros
distance-lemma t s [] ys h b l w v = refl
distance-lemma t s (e ∷ es) [] h b l w v = let z : ⊥ = omega arith in absurd z
distance-lemma t s (e ∷ es) (x ∷ ys) h b l w v =
    ⊎_elim
    (λ z.
    cons-zeros e es z
    (distance-lemma t s es ys (omega arith) (tail-bytes e es b) l.3 (omega arith) (λ j k. tail-vanishes e x (s + j) es ys z (v j k))))
    (λ n.
    let d : differ e 0 ≡ 1 = differ-not e 0 n in
    let more : weight (scale x es ys) ≤ weight es = weight-scale x es ys in
    let few : weight (scale x es ys) ≤ t - 1 = omega arith in
    let scaled : scale x es ys ≡ zeros (length (scale x es ys)) =
    distance-lemma (t - 1) s (scale x es ys) ys (length-scale x es ys (omega arith)) (bytes-scale x es ys) l.3 few
    (λ j k.
    let next : s + suc j ≡ suc (s + j) = omega arith in
    scaled-vanishes e x (s + j) es ys (v j (omega arith)) (ap (sum (e ∷ es) (x ∷ ys)) (sym next) ∙ v (suc j) (omega arith))) in
    let rest : es ≡ zeros (length es) = scale-zeros x es ys l.0 l.2 l.3 (tail-bytes e es b) (omega arith) scaled in
    let start : s + 0 ≡ s = omega arith in
    cons-zeros e es
    (alone e x s es ys (head_byte e es b) l.0 l.1 rest (ap (sum (e ∷ es) (x ∷ ys)) (sym start) ∙ v 0 (omega arith)))
    rest)
    (cases_eq e 0)
