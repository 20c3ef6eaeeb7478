-- What hearing answers, and for callers that see numbers and lent memory: each case's number, and what such memory holds then. Assumes nothing.
use Rattle.std.specs.Prelude.{◌≡◌, ℕ, List, Some, None, Option, Ok, Err, Result}
use Rattle.bits.specs.declared.Refusal.{Refusal}
use Rattle.bits.specs.declared.Refusal.TheVariants.{NoFrame}
use Rattle.bits.specs.Refusals.{number}
use Rattle.bits.specs.Lists.{zeros}
use Rattle.bits.specs.Heard.{Lost, Got}
use Rattle.frame_theory.specs.Frame.{Hears}
use Rattle.frame_theory.specs.Promise.{FrameBits}

-- hearing the bits r
abbrev pub Hearing : List ℕ → Result (Option (List ℕ)) Refusal → Type 0
Hearing r (Ok None) = FrameBits r × Hears r Lost
Hearing r (Ok (Some p)) = FrameBits r × Hears r (Got p)
Hearing r (Err e) = (FrameBits r → ⊥) × (e ≡ NoFrame)

-- 0 nothing, 1 a payload (or whatever else was sought), else the refusal's number
abbrev pub answer : {A : Type 0} → Result (Option A) Refusal → ℕ
answer (Ok None) = 0
answer (Ok (Some p)) = 1
answer (Err e) = number e

-- what a payload's memory that held old holds then: zeros where nothing is heard, and after a refusal what it held
abbrev pub left : List ℕ → Result (Option (List ℕ)) Refusal → List ℕ
left old (Ok None) = zeros 221
left old (Ok (Some p)) = p
left old (Err e) = old
