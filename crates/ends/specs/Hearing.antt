-- What is heard in a line of text: nothing in an empty line, in a frame's digits what hearing makes of its bits. Assumes nothing.
use Rattle.std.specs.Prelude.{◌≡◌, ℕ, List, Option, Ok, Err, Result}
use Rattle.bits.specs.declared.Refusal.{Refusal}
use Rattle.bits.specs.declared.Refusal.TheVariants.{UnknownText}
use Rattle.bits.specs.Heard.{Heard, Lost, heard_of}
use Rattle.frame_theory.specs.Frame.{Hears}
use Rattle.text.specs.Lines.{Said, Nothing, Bits, Unknown, said}

-- the thing heard where a line says this; a line of unknown form is never heard
abbrev pub HeardOf : Said → Heard → Type 0
HeardOf Nothing h = h ≡ Lost
HeardOf (Bits b) h = Hears b h
HeardOf Unknown h = ⊥

abbrev pub HeardIn : List ℕ → Heard → Type 0
HeardIn line h = HeardOf (said 4092 line) h

-- a line that was refused, and why
abbrev pub Refused : List ℕ → Refusal → Type 0
Refused line e = (said 4092 line ≡ Unknown) × (e ≡ UnknownText)

-- a line heard: a payload or nothing, or a refusal
abbrev pub LineHeard : List ℕ → Result (Option (List ℕ)) Refusal → Type 0
LineHeard line (Ok any) = HeardIn line (heard_of any)
LineHeard line (Err e) = Refused line e
