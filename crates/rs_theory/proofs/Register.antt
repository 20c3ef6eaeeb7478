-- The encoder's register: the multiples of the generator, and one step. Assumes nothing.
use Rattle.std.proofs.Common.{◌≡◌, ℕ, zero, suc, ◌+◌, ◌*◌, ◌/◌, ◌%◌, ◌<◌, ◌≤◌, List, [], ◌∷◌, length, get_or, drop, sym, refl, ap, ◌∙◌, ap₂, arith}
use lib.Bits.{bit_xor, xor_comm, xor_shifted, xor_zero_r}
use Rattle.std.proofs.lemmas.List.{drop_more, drop_all, ext_get_or}
use Rattle.gf256.specs.Field.{product, product_by}
use Rattle.gf256.proofs.Bilinear.{left-additive}
use Rattle.rs_theory.specs.Code.{generator, feed, first, rest, remainder}
use Rattle.rs_theory.proofs.Generator.{coefficients, generator-is, coefficients-length}
use Rattle.rs_theory.proofs.Division.{feed-length}

-- ---- the rows: f, f + d, f + 2 d and so on times the generator
unfoldable pub rows_from : ℕ → ℕ → ℕ → List (List ℕ)
rows_from zero f d = []
rows_from (suc n) f d = feed f coefficients [] ∷ rows_from n (f + d) d

rows_at : (n f d k : ℕ) → k < n → get_or (rows_from n f d) k [] ≡ feed (f + k * d) (generator 32) []
unfolding rows_from
rows_at zero f d k h = let z : ⊥ = omega arith in absurd z
rows_at (suc n) f d zero h =
    let e : f ≡ f + 0 * d = omega arith in
    ap₂ (λ (a : ℕ) (g : List ℕ). feed a g []) e (sym generator-is)
rows_at (suc n) f d (suc k) h =
    let e : f + d + k * d ≡ f + suc k * d = omega arith in
    rows_at n (f + d) d k (omega arith) ∙ ap (λ (a : ℕ). feed a (generator 32) []) e

pub low-at : (k : ℕ) → k < 16 → get_or (rows_from 16 0 1) k [] ≡ feed k (generator 32) []
low-at k h = let e : 0 + k * 1 ≡ k = omega arith in rows_at 16 0 1 k h ∙ ap (λ (a : ℕ). feed a (generator 32) []) e

pub high-at : (k : ℕ) → k < 16 → get_or (rows_from 16 0 16) k [] ≡ feed (16 * k) (generator 32) []
high-at k h = let e : 0 + k * 16 ≡ 16 * k = omega arith in rows_at 16 0 16 k h ∙ ap (λ (a : ℕ). feed a (generator 32) []) e

row-place : (f i : ℕ) (g : List ℕ) → i < length g → get_or (feed f g []) i 0 ≡ product f (get_or g i 0)
unfolding feed
row-place f i [] h = let z : ⊥ = omega arith in absurd z
row-place f zero (g ∷ gs) h = refl
row-place f (suc i) (g ∷ gs) h = row-place f i gs (omega arith)

-- a byte is the sum of its halves, and so are its multiples
halves : (f g : ℕ) → f < 256 → bit_xor (product (f % 16) g) (product (16 * (f / 16)) g) ≡ product f g
unfolding product
halves f g h =
    let whole : bit_xor (f % 16) (16 * (f / 16)) ≡ f =
    xor_comm (f % 16) (16 * (f / 16)) ∙ ap (λ (x : ℕ). bit_xor x (f % 16)) (omega arith) ∙ xor_shifted (f / 16) 4 (f % 16) (omega arith) ∙ omega arith in
    sym (left-additive 8 (f % 16) (16 * (f / 16)) g (omega arith) (omega arith)) ∙ ap (λ (x : ℕ). product_by 8 x g) whole

pub generator-length : length (generator 32) ≡ 32
generator-length = ap length generator-is ∙ coefficients-length

halves-place : (f i : ℕ) → f < 256 → i < 32 →
    bit_xor (get_or (feed (f % 16) (generator 32) []) i 0) (get_or (feed (16 * (f / 16)) (generator 32) []) i 0) ≡ product f (get_or (generator 32) i 0)
halves-place f i h k =
    let n : length (generator 32) ≡ 32 = generator-length in
    ap₂ bit_xor (row-place (f % 16) i (generator 32) (omega arith)) (row-place (16 * (f / 16)) i (generator 32) (omega arith)) ∙
    halves f (get_or (generator 32) i 0) h

pub multiple-is : (f : ℕ) (low high sum : List ℕ) → f < 256 → low ≡ feed (f % 16) (generator 32) [] → high ≡ feed (16 * (f / 16)) (generator 32) [] →
    length sum ≡ 32 → ((k : ℕ) → k < 32 → get_or sum k 0 ≡ bit_xor (get_or low k 0) (get_or high k 0)) → sum ≡ feed f (generator 32) []
multiple-is f low high sum p l u n e =
    ext_get_or 0 sum (feed f (generator 32) []) (n ∙ sym (feed-length f (generator 32) [] ∙ generator-length))
    (λ k h.
    e k (omega arith) ∙ ap₂ (λ (a b : List ℕ). bit_xor (get_or a k 0) (get_or b k 0)) l u ∙ halves-place f k p (omega arith) ∙
    sym (row-place f k (generator 32) (omega (arith, generator-length))))

-- ---- one step of the register
feed-place : (f k : ℕ) (g rs : List ℕ) → k < length g → get_or (feed f g rs) k 0 ≡ bit_xor (product f (get_or g k 0)) (get_or rs k 0)
unfolding feed
feed-place f k [] rs h = let z : ⊥ = omega arith in absurd z
feed-place f zero (g ∷ gs) [] h = sym (xor_zero_r (product f g))
feed-place f zero (g ∷ gs) (r ∷ rs) h = xor_comm r (product f g)
feed-place f (suc k) (g ∷ gs) [] h = feed-place f k gs [] (omega arith)
feed-place f (suc k) (g ∷ gs) (r ∷ rs) h = feed-place f k gs rs (omega arith)

pub step-is : (f : ℕ) (row rs next : List ℕ) → row ≡ feed f (generator 32) [] → length next ≡ 32 →
    ((k : ℕ) → k < 32 → get_or next k 0 ≡ bit_xor (get_or row k 0) (get_or rs k 0)) → next ≡ feed f (generator 32) rs
step-is f row rs next r n e =
    ext_get_or 0 next (feed f (generator 32) rs) (n ∙ sym (feed-length f (generator 32) rs ∙ generator-length))
    (λ k h.
    e k (omega arith) ∙
    ap (λ (x : ℕ). bit_xor x (get_or rs k 0)) (ap (λ (a : List ℕ). get_or a k 0) r ∙ row-place f k (generator 32) (omega (arith, generator-length))) ∙
    sym (feed-place f k (generator 32) rs (omega (arith, generator-length))))

-- ---- the loop over the message: the register and what is still to come give the same remainder
moves-up : (m : ℕ) (rs : List ℕ) → feed (bit_xor m (get_or rs 0 0)) (generator 32) (drop 1 rs) ≡ feed (bit_xor m (first rs)) (generator 32) (rest rs)
moves-up m [] = refl
moves-up m (r ∷ rs) = refl

pub remainder-more : (i : ℕ) (ms rs next done : List ℕ) → i < length ms → next ≡ feed (bit_xor (get_or ms i 0) (get_or rs 0 0)) (generator 32) (drop 1 rs) →
    remainder (generator 32) (drop i ms) rs ≡ done → remainder (generator 32) (drop (i + 1) ms) next ≡ done
unfolding remainder
remainder-more i ms rs next done h e d =
    ap (remainder (generator 32) (drop (i + 1) ms)) (e ∙ moves-up (get_or ms i 0) rs) ∙
    ap (λ (a : List ℕ). remainder (generator 32) a rs) (sym (drop_more ms i 0 h)) ∙ d

pub remainder-end : (i : ℕ) (ms rs done : List ℕ) → length ms ≤ i → remainder (generator 32) (drop i ms) rs ≡ done → rs ≡ done
unfolding remainder
remainder-end i ms rs done h d = ap (λ (a : List ℕ). remainder (generator 32) a rs) (sym (drop_all i ms h)) ∙ d
