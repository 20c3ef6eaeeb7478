-- A noisy line: what is said goes out as a frame's bits, which the noise of its way spoils; and the line counts. Assumes nothing.
use Rattle.std.specs.Prelude.{◌≡◌, ℕ, ◌+◌, ◌-◌, ◌%◌, ◌^◌, min, cond, List, [], ◌∷◌, Some, None, Option, ◌==◌}
use Rattle.bits.specs.Distance.{distance}
use Rattle.bits.specs.Heard.{Heard, Lost, Got}
use Rattle.frame_theory.specs.Frame.{frame, Hears}
use Rattle.text.specs.Noise.{arriving, behind}
use Rattle.transfer_theory.specs.Payload.{kind_of}
use Rattle.driver.specs.Log.{Exchange}
use Rattle.rehearsal.specs.declared.noisy.Counts.{Counts}
use Rattle.rehearsal.specs.declared.noisy.Noisy.{Noisy}

-- ---- one way, with P in 65,536, where its noise is in the state s
-- what is heard of what arrives
abbrev pub HeardIn : Option (List ℕ) → Heard → Type 0
HeardIn None h = h ≡ Lost
HeardIn (Some bits) h = Hears bits h

-- what is heard of what was said
abbrev pub Crosses : ℕ → ℕ → Heard → Heard → Type 0
Crosses p s Lost h = h ≡ Lost
Crosses p s (Got q) h = HeardIn (arriving p s (frame q)) h

-- how many of the bits that arrive are wrong
abbrev pub wrong_of : List ℕ → Option (List ℕ) → ℕ
wrong_of bits None = 0
wrong_of bits (Some there) = distance bits there

abbrev pub wrong_in : ℕ → ℕ → Heard → ℕ
wrong_in p s Lost = 0
wrong_in p s (Got q) = wrong_of (frame q) (arriving p s (frame q))

-- ---- the counts; one that reaches the greatest number of 64 bits stays there
abbrev pub plus : ℕ → ℕ → ℕ
plus a b = min (a + b) (2 ^ 64 - 1)

-- a payload or nothing, as 1 or 0; and a part of a file
abbrev pub one : Heard → ℕ
one Lost = 0
one (Got p) = 1

abbrev pub one_part : Heard → ℕ
one_part Lost = 0
one_part (Got p) = cond (kind_of p == 1) 1 0

abbrev pub no_counts : Counts
no_counts = record { parts = 0; below = 0; answers = 0; above = 0; wrong = 0 }

-- said on the way forth or back, so many bits wrong, and h heard
abbrev pub counted_forth : Counts → Heard → ℕ → Heard → Counts
counted_forth c said k h =
    record { parts = plus c.parts (one_part said); below = plus c.below (one h); answers = c.answers; above = c.above; wrong = plus c.wrong k }

abbrev pub counted_back : Counts → Heard → ℕ → Heard → Counts
counted_back c said k h =
    record { parts = c.parts; below = c.below; answers = plus c.answers (one said); above = plus c.above (one h); wrong = plus c.wrong k }

-- ---- the line: the noise of the way forth begins with SEED, that of the way back with SEED + 1 modulo 2^64
abbrev pub new_line : ℕ → ℕ → Noisy
new_line seed p = record { p = p; forth = record { state = seed }; back = record { state = (seed + 1) % 2 ^ 64 }; counts = no_counts }

-- the line after something went forth, or back: as many draws, whatever it was
abbrev pub went_forth : Noisy → Heard → Heard → Noisy
went_forth l said h =
    record { p = l.p; forth = record { state = behind 4092 l.forth.state }; back = l.back; counts = counted_forth l.counts said (wrong_in l.p l.forth.state said) h }

abbrev pub went_back : Noisy → Heard → Heard → Noisy
went_back l said h =
    record { p = l.p; forth = l.forth; back = record { state = behind 4092 l.back.state }; counts = counted_back l.counts said (wrong_in l.p l.back.state said) h }

abbrev pub Forth : Noisy → Heard → Heard → Noisy → Type 0
Forth l said h m = Crosses l.p l.forth.state said h × (m ≡ went_forth l said h)

abbrev pub Back : Noisy → Heard → Heard → Noisy → Type 0
Back l said h m = Crosses l.p l.back.state said h × (m ≡ went_back l said h)

-- ---- the line after all rounds of a log, and that each thing heard in it is what came through
unfoldable pub line_by : Noisy → List Exchange → Noisy
line_by l [] = l
line_by l (x ∷ log) = went_back (went_forth (line_by l log) (Got x.forth) x.below) x.back x.above

unfoldable pub Crossed : Noisy → List Exchange → Type 0
Crossed l [] = Unit {0}
Crossed l (x ∷ log) =
    Crosses (line_by l log).p (line_by l log).forth.state (Got x.forth) x.below ×
    Crosses (line_by l log).p (line_by l log).back.state x.back x.above × Crossed l log
