-- What spoiling leaves of a line's bits, and of a line of text. Assumes nothing.
use Rattle.std.specs.Prelude.{◌≡◌, ℕ, List, [], Some, None, Ok, Err, Option, Result, ◌≢◌}
use Rattle.bits.specs.declared.Refusal.{Refusal}
use Rattle.bits.specs.declared.Refusal.TheVariants.{UnknownText}
use Rattle.bits.specs.Distance.{distance}
use Rattle.text.specs.Lines.{Said, Nothing, Bits, Unknown, digits, said}
use Rattle.text.specs.Noise.{arriving, behind}

-- bits old that become new, from the state s: nothing arrives, or so many bits are changed
abbrev pub Spoiled : ℕ → ℕ → List ℕ → List ℕ → Option ℕ → Type 0
Spoiled p s old new None = (arriving p s old ≡ None) × (new ≡ old)
Spoiled p s old new (Some k) = (arriving p s old ≡ Some new) × (k ≡ distance old new)

-- the line of what arrives
abbrev pub line_of : Option (List ℕ) → List ℕ
line_of None = []
line_of (Some bs) = digits bs

-- the line that comes out for what a line says: an empty one stays empty
abbrev pub spoiled_line : ℕ → ℕ → Said → List ℕ
spoiled_line p s Nothing = []
spoiled_line p s (Bits bs) = line_of (arriving p s bs)
spoiled_line p s Unknown = []

-- a line old that becomes new while the state goes from s to t; a line of unknown form is refused, and then all stays as it was
abbrev pub LineSpoiled : ℕ → ℕ → ℕ → List ℕ → List ℕ → Result (Unit {0}) Refusal → Type 0
LineSpoiled p s t old new (Ok u) = (said 4092 old ≢ Unknown) × (new ≡ spoiled_line p s (said 4092 old)) × (t ≡ behind 4092 s)
LineSpoiled p s t old new (Err e) = (said 4092 old ≡ Unknown) × (e ≡ UnknownText) × (new ≡ old) × (t ≡ s)
