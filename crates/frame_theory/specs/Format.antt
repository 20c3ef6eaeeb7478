-- The lengths of a frame by its format, which says how many words of the outer code it carries. Frames of one word are all that is defined: what is said
-- of the bytes inside a word (221 of payload, 2 of check, 32 of the code) stands there in numbers. Assumes nothing.
use Rattle.std.specs.Prelude.{ℕ, ◌+◌, ◌*◌}

pub record Format : Type 0 where
  pub words : ℕ

-- one word: 221 bytes of payload, 4,092 bits
abbrev pub single : Format
single = record { words = 1 }

abbrev pub payload_bytes : Format → ℕ
payload_bytes k = 221 * k.words

abbrev pub word_bytes : Format → ℕ
word_bytes k = 255 * k.words

-- through the inner code n bits become 2 (n + 6)
abbrev pub frame_bits : Format → ℕ
frame_bits k = 2 * (8 * word_bytes k + 6)
