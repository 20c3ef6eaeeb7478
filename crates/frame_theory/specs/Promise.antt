-- What is promised of frames. Assumes nothing.
use Rattle.std.specs.Prelude.{◌≡◌, ℕ, ◌≤◌, T, List, length}
use Rattle.bits.specs.Lists.{are_bits}
use Rattle.bits.specs.Distance.{distance}
use Rattle.bits.specs.Heard.{Heard, Got}
use Rattle.frame_theory.specs.Format.{single, frame_bits}
use Rattle.frame_theory.specs.Frame.{Payload, carrier, frame, word_in, Hears}

-- the bits of one frame
abbrev pub FrameBits : List ℕ → Type 0
FrameBits r = (length r ≡ frame_bits single) × T (are_bits r)

pub record FrameRight : Type 0 where
  -- a frame has 4,092 bits, and they are bits
  pub whole : (p : List ℕ) → Payload p → FrameBits (frame p)
  pub count : frame_bits single ≡ 4092
  -- up to four wrong bits anywhere don't matter
  pub four_bits : (p r : List ℕ) → Payload p → FrameBits r → distance (frame p) r ≤ 4 → Hears r (Got p)
  -- for they leave no byte wrong behind the inner code
  pub none_wrong : (p r : List ℕ) → Payload p → FrameBits r → distance (frame p) r ≤ 4 → word_in r ≡ carrier p
  -- nor does whatever leaves up to 16 bytes wrong behind the inner code
  pub sixteen_bytes : (p r : List ℕ) → Payload p → FrameBits r → distance (carrier p) (word_in r) ≤ 16 → Hears r (Got p)
  -- in the bits of a frame, however they came about, something is heard (a payload, or nothing), one thing only, and if it is a payload it has 221 bytes
  pub always : (r : List ℕ) → FrameBits r → (h : Heard) × Hears r h
  pub one_thing : (r : List ℕ) (h g : Heard) → Hears r h → Hears r g → h ≡ g
  pub payload : (r p : List ℕ) → Hears r (Got p) → Payload p
