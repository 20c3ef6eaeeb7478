-- What a message says of the payload that it was read from, and the payload that says a message. Assumes nothing.
use Rattle.std.specs.Prelude.{◌≡◌, ℕ, ◌+◌, ◌/◌, ◌≤◌, ⊤, List, length, ◌≢◌, Option, Some, None}
use Rattle.transfer_theory.specs.Payload.{kind_of, file_of, number_of, body_of, length_of, payload}
use Rattle.transfer_theory.specs.Parts.{length4, ask_payload, done_payload}
use Rattle.transfer.specs.declared.message.Message.{Message}
use Rattle.transfer.specs.declared.message.Message.TheVariants.{Part, End, Ask, Done}

abbrev pub Means : List ℕ → Option Message → Type 0
Means p (Some (Part f n b)) = (kind_of p ≡ 1) × (file_of p ≡ f) × (number_of p ≡ n) × (body_of p ≡ b.now) × (length b.now ≤ 214)
Means p (Some (End f m)) = (kind_of p ≡ 2) × (file_of p ≡ f) × (length_of p ≡ m)
Means p (Some (Ask f n)) = (kind_of p ≡ 3) × (file_of p ≡ f) × (number_of p ≡ n)
Means p (Some (Done f)) = (kind_of p ≡ 4) × (file_of p ≡ f)
Means p None = (kind_of p ≢ 1) × (kind_of p ≢ 2) × (kind_of p ≢ 3) × (kind_of p ≢ 4)

-- a part has at most 214 bytes
abbrev pub Short : Message → Type 0
Short (Part f n b) = length b.now ≤ 214
Short m = ⊤

-- and the end is that of a file of at most 214,000
abbrev pub Fits : Message → Type 0
Fits (End f m) = m ≤ 214000
Fits m = Short m

-- the number of an end is the count of the file's parts
abbrev pub saying : Message → List ℕ
saying (Part f n b) = payload 1 f n b.now
saying (End f m) = payload 2 f ((m + 213) / 214) (length4 m)
saying (Ask f n) = ask_payload f n
saying (Done f) = done_payload f
