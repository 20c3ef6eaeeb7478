-- What is promised of the outer code. Assumes nothing.
use Rattle.std.specs.Prelude.{◌≡◌, ℕ, suc, ◌<◌, ◌≤◌, false, T, ◌⊎◌, List, [], ◌∷◌, length, take, slice_set}
use Rattle.bits.specs.Lists.{are_bytes, zeros}
use Rattle.bits.specs.Distance.{distance}
use Rattle.gf256.specs.Field.{power}
use Rattle.rs_theory.specs.Code.{value_from, is_codeword, generator, encode}

-- what is encoded is a code word of 255 bytes that begins with its message
pub record Encoded (m : List ℕ) : Type 0 where
  pub whole : length (encode m) ≡ 255
  pub codeword : T (is_codeword (encode m))
  pub begins : take 223 (encode m) ≡ m

pub record OuterCode : Type 0 where
  pub encoded : (m : List ℕ) → length m ≡ 223 → T (are_bytes m) → Encoded m
  -- there are no other code words
  pub only_encoded : (c : List ℕ) → T (is_codeword c) → encode (take 223 c) ≡ c
  pub apart : (c d : List ℕ) → T (is_codeword c) → T (is_codeword d) → (33 ≤ distance c d) ⊎ (c ≡ d)
  -- so within 16 places of any word there is at most one code word
  pub nearest : (c d w : List ℕ) → T (is_codeword c) → T (is_codeword d) → length w ≡ 255 → distance c w ≤ 16 → distance d w ≤ 16 → c ≡ d

-- the generator, its head included, begins 1, 232, 29, 189, 50; zeros are encoded as zeros; and one wrong byte is one place apart and no code word
pub record OuterRows : Type 0 where
  pub generator_begins : take 5 (1 ∷ generator 32) ≡ 1 ∷ 232 ∷ 29 ∷ 189 ∷ 50 ∷ []
  pub zeros_encoded : encode (zeros 223) ≡ zeros 255
  pub one_wrong : is_codeword (slice_set (zeros 255) 7 1) ≡ false
  pub one_apart : distance (zeros 255) (slice_set (zeros 255) 7 1) ≡ 1

-- r has 32 entries and the syndromes of the word w, and is zero just if w is a code word
pub record IsResidue (w r : List ℕ) : Type 0 where
  pub long : length r ≡ 32
  pub values : (j : ℕ) → j < 32 → value_from (power 2 (suc j)) 0 r ≡ value_from (power 2 (suc j)) 0 w
  pub zero_at_codewords : T (is_codeword w) → r ≡ zeros 32
  pub codeword_at_zero : r ≡ zeros 32 → T (is_codeword w)
