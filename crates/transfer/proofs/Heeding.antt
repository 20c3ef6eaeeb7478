-- What a side makes of the message that was read is what it makes of the payload. Assumes nothing.
use Rattle.std.proofs.Common.{◌≡◌, ℕ, Bool, true, false, cond, ◌&&◌, eqb, ltb, leb, List, Some, None, sym, refl, ap, ◌∙◌}
use Rattle.bits.specs.Heard.{Got}
use Rattle.transfer_theory.specs.Payload.{kind_of, file_of, number_of, body_of, length_of}
use Rattle.transfer_theory.specs.Parts.{parts}
use Rattle.transfer_theory.specs.Sender.{Sender, told, with_place, finished}
use Rattle.transfer_theory.specs.Receiver.{Receiver, receiver_of, hears, empty_of, slot_at, filled_slot, with_length}
use Rattle.transfer_theory.proofs.Telling.{told-other}
use Rattle.transfer_theory.proofs.Hearing.{hears-other}
use Rattle.transfer.specs.declared.message.Message.{Message}
use Rattle.transfer.specs.declared.message.Message.TheVariants.{Part, End, Ask, Done}
use Rattle.transfer.specs.Messages.{Means}
use Rattle.transfer.specs.Heeding.{heeds, takes_in}

-- ---- of the sender, by a payload's kind, file and number
told_by : ℕ → ℕ → ℕ → Sender → Sender
told_by k f n s = cond (eqb k 3 && eqb f s.file && ltb n (parts s.bytes)) (with_place n s) (cond (eqb k 4 && eqb f s.file) (finished s) s)

by_kind : (p : List ℕ) (s : Sender) → told_by (kind_of p) (file_of p) (number_of p) s ≡ told (Got p) s
unfolding told told_by
by_kind p s = refl

pub heeds_told : (p : List ℕ) (m : Message) (s : Sender) → Means p (Some m) → heeds m s ≡ told (Got p) s
unfolding told_by
heeds_told p (Part f n b) s e = ap (λ (k : ℕ). told_by k (file_of p) (number_of p) s) (sym e.0) ∙ by_kind p s
heeds_told p (End f m) s e = ap (λ (k : ℕ). told_by k (file_of p) (number_of p) s) (sym e.0) ∙ by_kind p s
heeds_told p (Ask f n) s e =
    ap (λ (k : ℕ). told_by k f n s) (sym e.0) ∙ ap (λ (i : ℕ). told_by (kind_of p) i n s) (sym e.1) ∙ ap (λ (i : ℕ). told_by (kind_of p) (file_of p) i s) (sym e.2) ∙ by_kind p s
heeds_told p (Done f) s e =
    ap (λ (k : ℕ). told_by k f (number_of p) s) (sym e.0) ∙ ap (λ (i : ℕ). told_by (kind_of p) i (number_of p) s) (sym e.1) ∙ by_kind p s

pub not_told : (p : List ℕ) (s : Sender) → Means p None → s ≡ told (Got p) s
not_told p s e = sym (told-other p s e.2 e.3)

-- ---- of the receiver, by a payload's kind, file, number, body and length
heard_by : ℕ → ℕ → ℕ → List ℕ → ℕ → Receiver → Receiver
heard_by k f n bs m v =
    cond (eqb k 1 && eqb f v.file && ltb n 1000 && empty_of (slot_at v n)) (filled_slot n bs v) (cond (eqb k 2 && eqb f v.file && leb m 214000) (with_length m v) v)

kind-heard : (p : List ℕ) (v : Receiver) → heard_by (kind_of p) (file_of p) (number_of p) (body_of p) (length_of p) v ≡ hears (Got p) v
unfolding hears heard_by
kind-heard p v = refl

-- a part that is wanted, by one test after the other or by all
part_by :
    (x y z : Bool) (n : ℕ) (bs : List ℕ) (v : Receiver) →
    cond x (receiver_of v.file (cond (y && z) (filled_slot n bs v).slots v.slots) v.size) v ≡ cond (x && y && z) (filled_slot n bs v) v
part_by false y z n bs v = refl
part_by true false z n bs v = refl
part_by true true false n bs v = refl
part_by true true true n bs v = refl

pub takes_heard : (p : List ℕ) (m : Message) (v : Receiver) → Means p (Some m) → takes_in m v ≡ hears (Got p) v
unfolding heard_by
takes_heard p (Part f n b) v e =
    part_by (eqb f v.file) (ltb n 1000) (empty_of (slot_at v n)) n b.now v ∙
    ap (λ (k : ℕ). heard_by k f n b.now (length_of p) v) (sym e.0) ∙ ap (λ (i : ℕ). heard_by (kind_of p) i n b.now (length_of p) v) (sym e.1) ∙
    ap (λ (i : ℕ). heard_by (kind_of p) (file_of p) i b.now (length_of p) v) (sym e.2) ∙
    ap (λ (xs : List ℕ). heard_by (kind_of p) (file_of p) (number_of p) xs (length_of p) v) (sym e.3) ∙ kind-heard p v
takes_heard p (End f m) v e =
    ap (λ (k : ℕ). heard_by k f (number_of p) (body_of p) m v) (sym e.0) ∙ ap (λ (i : ℕ). heard_by (kind_of p) i (number_of p) (body_of p) m v) (sym e.1) ∙
    ap (λ (i : ℕ). heard_by (kind_of p) (file_of p) (number_of p) (body_of p) i v) (sym e.2) ∙ kind-heard p v
takes_heard p (Ask f n) v e = ap (λ (k : ℕ). heard_by k (file_of p) (number_of p) (body_of p) (length_of p) v) (sym e.0) ∙ kind-heard p v
takes_heard p (Done f) v e = ap (λ (k : ℕ). heard_by k (file_of p) (number_of p) (body_of p) (length_of p) v) (sym e.0) ∙ kind-heard p v

pub not_heard : (p : List ℕ) (v : Receiver) → Means p None → v ≡ hears (Got p) v
not_heard p v e = sym (hears-other p v e.0 e.1)
