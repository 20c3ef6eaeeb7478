-- Frames: a payload, its check, the outer code, the pattern, the inner code; and what is made of the bits that were heard. Assumes nothing.
use Rattle.std.specs.Prelude.{◌≡◌, ℕ, ◌+◌, ◌*◌, ◌/◌, ◌%◌, ◌≤◌, Bool, true, false, T, List, [], ◌∷◌, ◌++◌, length, take, ◌==◌, slice_index}
use Rattle.bits.specs.Lists.{are_bytes}
use Rattle.bits.specs.Distance.{distance}
use Rattle.bits.specs.Bytes.{all_bits, all_bytes}
use Rattle.bits.specs.Crc.{crc}
use Rattle.bits.specs.Pattern.{patterned}
use Rattle.bits.specs.Heard.{Heard, Lost, Got}
use Rattle.rs_theory.specs.Code.{is_codeword, encode, Far}
use Rattle.conv_theory.specs.Code.{sent}
use Rattle.conv_theory.specs.Search.{heard_bits}
use Rattle.frame_theory.specs.Format.{single, payload_bytes, word_bytes}

abbrev pub Payload : List ℕ → Type 0
Payload p = (length p ≡ payload_bytes single) × T (are_bytes p)

-- a payload with its check behind it, the high byte first
abbrev pub checked : List ℕ → List ℕ
checked p = p ++ (crc p / 256 ∷ crc p % 256 ∷ [])

-- the first 221 bytes have the check that the next two hold
abbrev pub passes : List ℕ → Bool
passes w = crc (take 221 w) == 256 * slice_index w 221 + slice_index w 222

-- the code word that carries a payload
abbrev pub carrier : List ℕ → List ℕ
carrier p = encode (checked p)

-- the bits of a word with the pattern added
abbrev pub scrambled : List ℕ → List ℕ
scrambled w = patterned (all_bits w)

-- a frame as it goes out
abbrev pub frame : List ℕ → List ℕ
frame p = sent (scrambled (carrier p))

-- the word that the best way through the inner code gives
abbrev pub word_in : List ℕ → List ℕ
word_in r = all_bytes (word_bytes single) (patterned (heard_bits r))

-- what is taken from the word w: the payload of a code word within 16 places whose check is right; nothing, if its check is wrong or there is no such word
pub data Taken (w : List ℕ) : Heard → Type 0 where
  right : (c : List ℕ) → T (is_codeword c) → distance c w ≤ 16 → passes c ≡ true → Taken w (Got (take 221 c))
  spoiled : (c : List ℕ) → T (is_codeword c) → distance c w ≤ 16 → passes c ≡ false → Taken w Lost
  far : Far w → Taken w Lost

-- what is heard in the bits r
abbrev pub Hears : List ℕ → Heard → Type 0
Hears r h = Taken (word_in r) h
