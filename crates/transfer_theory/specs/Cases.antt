-- Cases at the edges, for all bytes. Assumes nothing.
use Rattle.std.specs.Prelude.{◌≡◌, ℕ, ◌<◌, true, false, List, [], ◌∷◌, length, nat_lt, slice_index}
use Rattle.bits.specs.Heard.{Got}
use Rattle.transfer_theory.specs.Parts.{IsFile, part, parts, part_payload, end_payload, ask_payload}
use Rattle.transfer_theory.specs.Receiver.{new_receiver, hears, complete, handed, answers}

-- the empty file: no parts; its end makes the receiver complete, and what it hands over is empty; before an end is heard there is no answer
abbrev pub EmptyFile : Type 0
EmptyFile =
    (n : ℕ) → n < 256 →
    (parts [] ≡ 0) × (complete (new_receiver n) ≡ false) × (nat_lt 0 (new_receiver n).size ≡ false) ×
    (complete (hears (Got (end_payload n [])) (new_receiver n)) ≡ true) × (handed (hears (Got (end_payload n [])) (new_receiver n)) ≡ [])

-- 214 bytes are one part, 215 two, and the second has one byte
abbrev pub LastPart : Type 0
LastPart =
    ((f : List ℕ) → length f ≡ 214 → (parts f ≡ 1) × (part f 0 ≡ f)) ×
    ((f : List ℕ) → length f ≡ 215 → (parts f ≡ 2) × (part f 1 ≡ slice_index f 214 ∷ []))

-- parts 0 and 2 of a file of 600 bytes, and its end: the answer asks for part 1
abbrev pub Gap : Type 0
Gap =
    (n : ℕ) (f : List ℕ) → n < 256 → length f ≡ 600 → IsFile f →
    answers (hears (Got (end_payload n f)) (hears (Got (part_payload n f 2)) (hears (Got (part_payload n f 0)) (new_receiver n)))) ≡ ask_payload n 1

pub record CasesHold : Type 0 where
  pub empty : EmptyFile
  pub last : LastPart
  pub gap : Gap
