-- What holds of lines, of chunks of input and of the noise: the laws that the layers above cite. Each is a type; a proof of the type is the theorem. Assumes nothing.
use Rattle.std.specs.Prelude.{◌≡◌, ℕ, zero, suc, ◌+◌, ◌<◌, true, false, cond, T, List, [], ◌∷◌, ◌++◌, length, nat_lt, slice_index}
use Rattle.bits.specs.Lists.{are_bits}
use Rattle.text.specs.Lines.{Nothing, Bits, digits, said}
use Rattle.text.specs.Input.{ends, used, kept, grown}
use Rattle.text.specs.Noise.{stepped, output, drawn, advanced, other, flipped}

-- What is written is read back, nothing but the digits of n bits is read as a frame, only an empty line says nothing, and what
-- is kept of a line says what the whole line says.
pub record LineLaws : Type 0 where
  pub read_back : (n : ℕ) (bs : List ℕ) → 0 < n → length bs ≡ n → T (are_bits bs) → said n (digits bs) ≡ Bits bs
  pub frames_only : (n : ℕ) (line bs : List ℕ) → said n line ≡ Bits bs → (line ≡ digits bs) × (length bs ≡ n) × T (are_bits bs)
  pub silence : (n : ℕ) (line : List ℕ) → said n line ≡ Nothing → line ≡ []
  pub front : (n : ℕ) (line : List ℕ) → n < 4093 → said n (kept line) ≡ said n line

-- Where input is cut into chunks does not matter: while the line goes on, two chunks are as good as both in one; once it has
-- ended, what stands behind its end is not touched.
pub record ChunkLaws : Type 0 where
  pub goes_on : (line xs ys : List ℕ) → ends xs ≡ false → grown (grown line xs) ys ≡ grown line (xs ++ ys)
  pub ends_later : (xs ys : List ℕ) → ends xs ≡ false → ends (xs ++ ys) ≡ ends ys
  pub used_later : (xs ys : List ℕ) → ends xs ≡ false → used (xs ++ ys) ≡ used xs + used ys
  pub has_ended : (line xs ys : List ℕ) → ends xs ≡ true → grown line (xs ++ ys) ≡ grown line xs
  pub ends_there : (xs ys : List ℕ) → ends xs ≡ true → ends (xs ++ ys) ≡ true
  pub used_there : (xs ys : List ℕ) → ends xs ≡ true → used (xs ++ ys) ≡ used xs

-- Noise keeps the length, gives bits for bits, and changes a bit exactly where its own draw is below p.
pub record NoiseLaws : Type 0 where
  pub long : (p s : ℕ) (bs : List ℕ) → length (flipped p s bs) ≡ length bs
  pub bits : (p s : ℕ) (bs : List ℕ) → T (are_bits bs) → T (are_bits (flipped p s bs))
  pub exactly : (p s i : ℕ) (bs : List ℕ) → i < length bs → slice_index (flipped p s bs) i ≡ cond (nat_lt (drawn (advanced i s)) p) (other (slice_index bs i)) (slice_index bs i)

-- the generator's first n outputs from a seed
unfoldable pub outputs : ℕ → ℕ → List ℕ
outputs zero s = []
outputs (suc n) s = output (stepped s) ∷ outputs n (stepped s)

-- Known outputs of SplitMix64 for two seeds.
pub record Vectors : Type 0 where
  pub seed_zero : outputs 5 0 ≡ 16294208416658607535 ∷ 7960286522194355700 ∷ 487617019471545679 ∷ 17909611376780542444 ∷ 1961750202426094747 ∷ []
  pub seed_other : outputs 5 1234567 ≡ 6457827717110365317 ∷ 3203168211198807973 ∷ 9817491932198370423 ∷ 4593380528125082431 ∷ 16408922859458223821 ∷ []

pub record TextRight : Type 0 where
  pub lines : LineLaws
  pub chunks : ChunkLaws
  pub noise : NoiseLaws
  pub vectors : Vectors
