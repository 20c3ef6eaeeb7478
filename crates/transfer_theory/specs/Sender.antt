-- The sender: which part, or after the last the end, goes next, and whether it was told that all is there. Assumes nothing.
use Rattle.std.specs.Prelude.{ℕ, ◌+◌, Bool, true, false, cond, ◌&&◌, List, ◌==◌, nat_lt}
use Rattle.bits.specs.Heard.{Heard, Lost, Got}
use Rattle.transfer_theory.specs.Payload.{kind_of, file_of, number_of}
use Rattle.transfer_theory.specs.Parts.{parts, part_payload, end_payload}

pub record Sender : Type 0 where
  pub file : ℕ
  pub bytes : List ℕ
  pub place : ℕ
  pub done : Bool

-- ---- makers and changers: only `sender_at`, `with_place` and `finished` write the record out
abbrev pub sender_at : ℕ → List ℕ → ℕ → Bool → Sender
sender_at n f i d = record { file = n; bytes = f; place = i; done = d }

-- from now on this file
abbrev pub new_sender : ℕ → List ℕ → Sender
new_sender n f = sender_at n f 0 false

abbrev pub with_place : ℕ → Sender → Sender
with_place i s = record { file = s.file; bytes = s.bytes; place = i; done = s.done }

abbrev pub finished : Sender → Sender
finished s = record { file = s.file; bytes = s.bytes; place = s.place; done = true }

-- ---- it says the part at its place, and past the last part the end, done or not
abbrev pub at_part : Sender → Bool
at_part s = nat_lt s.place (parts s.bytes)

unfoldable pub says : Sender → List ℕ
says s = cond (at_part s) (part_payload s.file s.bytes s.place) (end_payload s.file s.bytes)

unfoldable pub after_saying : Sender → Sender
after_saying s = cond (at_part s) (with_place (s.place + 1) s) s

-- ---- kind 3 of its file with the number of a part sets its place; kind 4 of its file: it is done; else nothing changes
abbrev pub asks : List ℕ → Sender → Bool
asks p s = kind_of p == 3 && file_of p == s.file && nat_lt (number_of p) (parts s.bytes)

abbrev pub tells_done : List ℕ → Sender → Bool
tells_done p s = kind_of p == 4 && file_of p == s.file

unfoldable pub told : Heard → Sender → Sender
told Lost s = s
told (Got p) s = cond (asks p s) (with_place (number_of p) s) (cond (tells_done p s) (finished s) s)
