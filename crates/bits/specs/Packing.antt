-- What turning bytes into bits and bits into bytes leaves in the lent buffer, and when it is refused. Assumes nothing.
use Rattle.std.specs.Prelude.{◌≡◌, ℕ, ◌*◌, List, length, Ok, Err, Result, ◌≢◌}
use Rattle.bits.specs.declared.Refusal.{Refusal}
use Rattle.bits.specs.declared.Refusal.TheVariants.{WrongMemory}
use Rattle.bits.specs.Bytes.{all_bits, all_bytes}

-- bytes bs into a buffer that held old and then holds new: all bits, or a refusal where the buffer has another length
abbrev pub Unpacked : List ℕ → List ℕ → List ℕ → Result (Unit {0}) Refusal → Type 0
Unpacked bs old new (Ok u) = (length old ≡ 8 * length bs) × (new ≡ all_bits bs)
Unpacked bs old new (Err e) = (length old ≢ 8 * length bs) × (e ≡ WrongMemory) × (new ≡ old)

-- bits xs into a buffer that held old and then holds new: as many bytes as it has places, or a refusal where the bits are more or fewer; of a number above 1 the lowest bit counts
abbrev pub Packed : List ℕ → List ℕ → List ℕ → Result (Unit {0}) Refusal → Type 0
Packed xs old new (Ok u) = (length xs ≡ 8 * length old) × (new ≡ all_bytes (length old) xs)
Packed xs old new (Err e) = (length xs ≢ 8 * length old) × (e ≡ WrongMemory) × (new ≡ old)
