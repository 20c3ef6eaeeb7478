-- What hearing a payload of the file fills and leaves, slot by slot; and that twice is once. Assumes nothing.
use Rattle.std.proofs.Common.{◌≡◌, ℕ, ◌+◌, ◌<◌, ◌≤◌, true, false, ◌⊎◌, List, length, sym, ap, ◌∙◌, subst, inl, inr, set-set}
use Rattle.std.proofs.lemmas.Bool.{cases_eq, cases_Bool, cases_lt}
use Rattle.bits.specs.Heard.{Got}
use Rattle.transfer_theory.specs.Payload.{kind_of, file_of, number_of, body_of, length_of}
use Rattle.transfer_theory.specs.Parts.{parts, part_payload, end_payload}
use Rattle.transfer_theory.specs.Receiver.{Slot, Have, Receiver, receiver_of, filled_slot, with_length, empty_of, slot_at, hears}
use Rattle.transfer_theory.specs.Invariant.{Received, Sent}
use Rattle.transfer_theory.specs.Orders.{TwiceIsOnce}
use Rattle.transfer_theory.proofs.Hearing.{hears-part, hears-full, hears-past, hears-end, hears-long, hears-other, hears-foreign}
use Rattle.transfer_theory.proofs.Receiving.{part-comes, hears-file-end, brought-stays}

-- ---- twice is once
again : (p : List ℕ) (v : Receiver) → hears (Got p) v ≡ v → hears (Got p) (hears (Got p) v) ≡ hears (Got p) v
again p v e = ap (λ (u : Receiver). hears (Got p) u) e

-- the same slot filled once more with the same
refilled :
    (p : List ℕ) (v : Receiver) → kind_of p ≡ 1 → file_of p ≡ v.file → number_of p < 1000 →
    hears (Got p) (filled_slot (number_of p) (body_of p) v) ≡ filled_slot (number_of p) (body_of p) v
refilled p v k o l = go (cases_Bool (empty_of (slot_at u (number_of p))))
  where
    u : Receiver
    u = filled_slot (number_of p) (body_of p) v

    go : (empty_of (slot_at u (number_of p)) ≡ true) ⊎ (empty_of (slot_at u (number_of p)) ≡ false) → hears (Got p) u ≡ u
    go (inl e) =
        hears-part p u k o l e ∙
        ap (λ (ss : List Slot). receiver_of v.file ss v.size) (set-set v.slots (number_of p) (Have (body_of p)) (Have (body_of p)))
    go (inr e) = hears-full p u k e

pub twice-is-once : TwiceIsOnce
twice-is-once p v = of-file (cases_eq (file_of p) v.file)
  where
    as-part :
        kind_of p ≡ 1 → file_of p ≡ v.file → (number_of p < 1000) ⊎ (1000 ≤ number_of p) →
        (empty_of (slot_at v (number_of p)) ≡ true) ⊎ (empty_of (slot_at v (number_of p)) ≡ false) → hears (Got p) (hears (Got p) v) ≡ hears (Got p) v
    as-part k o (inl l) (inl e) =
        let h = hears-part p v k o l e in
        ap (λ (u : Receiver). hears (Got p) u) h ∙ refilled p v k o l ∙ sym h
    as-part k o (inl l) (inr e) = again p v (hears-full p v k e)
    as-part k o (inr l) (inl e) = again p v (hears-past p v k l)
    as-part k o (inr l) (inr e) = again p v (hears-past p v k l)

    as-end : kind_of p ≡ 2 → file_of p ≡ v.file → (214000 < length_of p) ⊎ (length_of p ≤ 214000) → hears (Got p) (hears (Got p) v) ≡ hears (Got p) v
    as-end k o (inl l) = again p v (hears-long p v k l)
    as-end k o (inr l) =
        let h = hears-end p v k o l in
        ap (λ (u : Receiver). hears (Got p) u) h ∙ hears-end p (with_length (length_of p) v) k o l ∙ sym h

    of-kind :
        file_of p ≡ v.file → (kind_of p ≡ 1) ⊎ (kind_of p ≡ 1 → ⊥) → (kind_of p ≡ 2) ⊎ (kind_of p ≡ 2 → ⊥) → hears (Got p) (hears (Got p) v) ≡ hears (Got p) v
    of-kind o (inl k) _ = as-part k o (cases_lt (number_of p) 1000) (cases_Bool (empty_of (slot_at v (number_of p))))
    of-kind o (inr k) (inl j) = as-end j o (cases_lt 214000 (length_of p))
    of-kind o (inr k) (inr j) = again p v (hears-other p v k j)

    of-file : (file_of p ≡ v.file) ⊎ (file_of p ≡ v.file → ⊥) → hears (Got p) (hears (Got p) v) ≡ hears (Got p) v
    of-file (inl o) = of-kind o (cases_eq (kind_of p) 1) (cases_eq (kind_of p) 2)
    of-file (inr o) = again p v (hears-foreign p v o)

-- ---- slot by slot
-- a slot that was filled stays so
pub hears-keeps-filled :
    (n : ℕ) (f : List ℕ) (v : Receiver) (p : List ℕ) → length f ≤ 214000 → Received n f v → Sent n f p → (k : ℕ) → empty_of (slot_at v k) ≡ false →
    empty_of (slot_at (hears (Got p) v) k) ≡ false
hears-keeps-filled n f v p b r (inl (i, h, e)) k o =
    subst (λ (q : List ℕ). empty_of (slot_at (hears (Got q) v) k) ≡ false) (sym e)
    (brought-stays i v (hears (Got (part_payload n f i)) v) (part-comes n f v i b h r).brought k o)
hears-keeps-filled n f v p b r (inr e) k o =
    subst (λ (q : List ℕ). empty_of (slot_at (hears (Got q) v) k) ≡ false) (sym e)
    (ap (λ (u : Receiver). empty_of (slot_at u k)) (hears-file-end n f v r.file b) ∙ o)

-- a part that is heard is there
pub hears-brings :
    (n : ℕ) (f : List ℕ) (v : Receiver) (p : List ℕ) → length f ≤ 214000 → Received n f v → (k : ℕ) → k < parts f → p ≡ part_payload n f k →
    empty_of (slot_at (hears (Got p) v) k) ≡ false
hears-brings n f v p b r k h e =
    subst (λ (q : List ℕ). empty_of (slot_at (hears (Got q) v) k) ≡ false) (sym e) (part-comes n f v k b h r).brought.there

-- a slot is filled by its part only
pub hears-only :
    (n : ℕ) (f : List ℕ) (v : Receiver) (p : List ℕ) → length f ≤ 214000 → Received n f v → Sent n f p → (k : ℕ) →
    empty_of (slot_at (hears (Got p) v) k) ≡ false → (empty_of (slot_at v k) ≡ false) ⊎ ((k < parts f) × (p ≡ part_payload n f k))
hears-only n f v p b r (inl (i, h, e)) k o = go (cases_eq k i)
  where
    go : (k ≡ i) ⊎ (k ≡ i → ⊥) → (empty_of (slot_at v k) ≡ false) ⊎ ((k < parts f) × (p ≡ part_payload n f k))
    go (inl q) = inr (subst (λ (j : ℕ). j < parts f) (sym q) h, e ∙ ap (λ (j : ℕ). part_payload n f j) (sym q))
    go (inr q) =
        inl (ap empty_of (sym ((part-comes n f v i b h r).brought.others k q)) ∙ subst (λ (x : List ℕ). empty_of (slot_at (hears (Got x) v) k) ≡ false) e o)
hears-only n f v p b r (inr e) k o =
    inl (ap (λ (u : Receiver). empty_of (slot_at u k)) (sym (hears-file-end n f v r.file b)) ∙
    subst (λ (x : List ℕ). empty_of (slot_at (hears (Got x) v) k) ≡ false) e o)

-- ---- the length
pub hears-keeps-size :
    (n : ℕ) (f : List ℕ) (v : Receiver) (p : List ℕ) → length f ≤ 214000 → Received n f v → Sent n f p → v.size ≡ length f + 1 →
    (hears (Got p) v).size ≡ length f + 1
hears-keeps-size n f v p b r (inl (i, h, e)) s =
    ap (λ (q : List ℕ). (hears (Got q) v).size) e ∙ (part-comes n f v i b h r).brought.size ∙ s
hears-keeps-size n f v p b r (inr e) s =
    ap (λ (q : List ℕ). (hears (Got q) v).size) e ∙ ap (λ (u : Receiver). u.size) (hears-file-end n f v r.file b)

pub hears-end-size : (n : ℕ) (f : List ℕ) (v : Receiver) (p : List ℕ) → length f ≤ 214000 → Received n f v → p ≡ end_payload n f → (hears (Got p) v).size ≡ length f + 1
hears-end-size n f v p b r e = ap (λ (q : List ℕ). (hears (Got q) v).size) e ∙ ap (λ (u : Receiver). u.size) (hears-file-end n f v r.file b)

pub hears-size-only :
    (n : ℕ) (f : List ℕ) (v : Receiver) (p : List ℕ) → length f ≤ 214000 → Received n f v → Sent n f p →
    ((hears (Got p) v).size ≡ v.size) ⊎ (p ≡ end_payload n f)
hears-size-only n f v p b r (inl (i, h, e)) = inl (ap (λ (q : List ℕ). (hears (Got q) v).size) e ∙ (part-comes n f v i b h r).brought.size)
hears-size-only n f v p b r (inr e) = inr e
