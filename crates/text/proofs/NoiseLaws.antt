-- Noise keeps the length, gives bits for bits, and changes a bit exactly where its draw is below p; known outputs. Assumes nothing.
use Rattle.std.proofs.Common.{◌≡◌, ℕ, zero, suc, ◌<◌, cond, T, ltb, List, [], ◌∷◌, length, get_or, refl, ap, arith}
use Rattle.std.proofs.lemmas.Bool.{cond_both}
use Rattle.bits.specs.Lists.{are_bits}
use Rattle.bits.proofs.Tests.{under-nil, under-cons, under-head, under_tail}
use Rattle.text.specs.Noise.{stepped, output, drawn, advanced, other, flipped}
use Rattle.text.specs.Laws.{Vectors, outputs, TextRight}
use Rattle.text.proofs.LineLaws.{line-laws}
use Rattle.text.proofs.ChunkLaws.{chunk-laws}

long : (p s : ℕ) (bs : List ℕ) → length (flipped p s bs) ≡ length bs
unfolding flipped
long p s [] = refl
long p s (b ∷ bs) = ap suc (long p (stepped s) bs)

still-bits : (p s : ℕ) (bs : List ℕ) → T (are_bits bs) → T (are_bits (flipped p s bs))
unfolding flipped
still-bits p s [] t = under-nil 2
still-bits p s (b ∷ bs) t =
    let h = under-head 2 b bs t in
    under-cons 2 (cond (ltb (drawn s) p) (other b) b) (flipped p (stepped s) bs)
    (cond_both (ltb (drawn s) p) (other b) b (λ (x : ℕ). x < 2) (λ e. omega arith) (λ e. h))
    (still-bits p (stepped s) bs (under_tail 2 b bs t))

exactly : (p s i : ℕ) (bs : List ℕ) → i < length bs → get_or (flipped p s bs) i 0 ≡ cond (ltb (drawn (advanced i s)) p) (other (get_or bs i 0)) (get_or bs i 0)
unfolding flipped advanced
exactly p s i [] h = let z : ⊥ = omega arith in absurd z
exactly p s zero (b ∷ bs) h = refl
exactly p s (suc i) (b ∷ bs) h = exactly p (stepped s) i bs (omega arith)

vectors : Vectors
unfolding outputs output
vectors = record { seed_zero = refl; seed_other = refl }

pub text_right : TextRight
text_right = record { lines = line-laws; chunks = chunk-laws; noise = record { long = long; bits = still-bits; exactly = exactly }; vectors = vectors }
