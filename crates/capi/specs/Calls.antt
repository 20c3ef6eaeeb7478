-- What each call of the C interface answers, and what the lent buffers hold then. Assumes nothing.
use Rattle.std.specs.Prelude.{◌≡◌, ℕ, ◌+◌, ◌*◌, ◌≤◌, T, ◌⊎◌, List, length, Ok, Err, Result, ◌≢◌}
use Rattle.bits.specs.declared.Refusal.{Refusal}
use Rattle.bits.specs.Refusals.{number}
use Rattle.bits.specs.Lists.{are_bits, zeros}
use Rattle.bits.specs.Distance.{distance}
use Rattle.bits.specs.Heard.{Lost, Got}
use Rattle.rs_theory.specs.Code.{is_codeword, encode, Far}
use Rattle.conv_theory.specs.Code.{sent}
use Rattle.conv_theory.specs.Search.{heard_bits}
use Rattle.frame_theory.specs.Frame.{frame, Hears}
use Rattle.frame_theory.specs.Promise.{FrameBits}

-- 0 it is done, else the refusal's number
abbrev pub outcome : {A : Type 0} → Result A Refusal → ℕ
outcome (Ok x) = 0
outcome (Err e) = number e

-- ---- 4: a buffer of another length than it must have, and then nothing is changed; what the other answers mean is said of buffers that have it
-- a payload p of 221 bytes into a buffer of 4,092 that held old: 0, and it holds the frame
pub record Sends (p old new : List ℕ) (r : ℕ) : Type 0 where
  pub done : length p ≡ 221 → length old ≡ 4092 → (r ≡ 0) × (new ≡ frame p)
  pub memory : ((length p ≡ 221) × (length old ≡ 4092) → ⊥) → (r ≡ 4) × (new ≡ old)

-- bits into a buffer of 221 bytes: 1 and the payload, 0 and zeros, 2 for what is no frame's bits
pub record Hearing (bits old new : List ℕ) (r : ℕ) : Type 0 where
  pub memory : (length old ≢ 221) → r ≡ 4
  pub payload : r ≡ 1 → Hears bits (Got new)
  pub nothing : r ≡ 0 → Hears bits Lost × (new ≡ zeros 221)
  pub heard : length old ≡ 221 → FrameBits bits → (r ≡ 0) ⊎ (r ≡ 1)
  pub refused : length old ≡ 221 → (FrameBits bits → ⊥) → r ≡ 2
  pub kept : (r ≡ 2) ⊎ (r ≡ 4) → new ≡ old

-- 223 bytes into a buffer of 255: 0, and it holds their code word
pub record Encodes (m old new : List ℕ) (r : ℕ) : Type 0 where
  pub done : length m ≡ 223 → length old ≡ 255 → (r ≡ 0) × (new ≡ encode m)
  pub memory : ((length m ≡ 223) × (length old ≡ 255) → ⊥) → (r ≡ 4) × (new ≡ old)

-- a word of 255 bytes: 1, it is the code word within 16 places, and so many bytes were changed; or 0, there is none, and it is as it was
pub record Repairs (old new : List ℕ) (was count r : ℕ) : Type 0 where
  pub memory : (length old ≢ 255) → r ≡ 4
  pub repaired : r ≡ 1 → T (is_codeword new) × (distance new old ≡ count) × (count ≤ 16)
  pub none : r ≡ 0 → Far old
  pub answered : length old ≡ 255 → (r ≡ 0) ⊎ (r ≡ 1)
  pub kept : (r ≡ 0) ⊎ (r ≡ 4) → (new ≡ old) × (count ≡ was)

-- n bits into a buffer of 2 (n + 6): 0 and the coded bits, 2 for a byte above 1
pub record Spreads (bits old new : List ℕ) (r : ℕ) : Type 0 where
  pub memory : (length old ≢ 2 * (length bits + 6)) → r ≡ 4
  pub done : length old ≡ 2 * (length bits + 6) → T (are_bits bits) → (r ≡ 0) × (new ≡ sent bits)
  pub refused : length old ≡ 2 * (length bits + 6) → (T (are_bits bits) → ⊥) → r ≡ 2
  pub kept : (r ≡ 2) ⊎ (r ≡ 4) → new ≡ old

-- 4,092 bits into a buffer of 2,040: 0, the bits that the search finds, and at how many places they differ from those heard; 2 for a byte above 1
pub record Decodes (heard old new : List ℕ) (was cost r : ℕ) : Type 0 where
  pub memory : ((length heard ≡ 4092) × (length old ≡ 2040) → ⊥) → r ≡ 4
  pub done : length heard ≡ 4092 → length old ≡ 2040 → T (are_bits heard) → (r ≡ 0) × (new ≡ heard_bits heard) × (cost ≡ distance (sent (heard_bits heard)) heard)
  pub refused : length heard ≡ 4092 → length old ≡ 2040 → (T (are_bits heard) → ⊥) → r ≡ 2
  pub kept : (r ≡ 2) ⊎ (r ≡ 4) → (new ≡ old) × (cost ≡ was)
