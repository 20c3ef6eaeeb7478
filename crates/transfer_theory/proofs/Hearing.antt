-- What hearing a payload does to the receiver, case by case: all that is above uses these equations only. Assumes nothing.
use Rattle.std.proofs.Common.{◌≡◌, ℕ, ◌<◌, ◌≤◌, true, false, cond, ◌&&◌, eqb, ltb, leb, List, refl, ap, ◌∙◌}
use Rattle.std.proofs.lemmas.Bool.{and_from, and_left, and_right, cond-true, cond-false, eq-eqb, ne_eqb, lt-ltb, le-ltb, le-leb, lt-leb}
use Rattle.bits.specs.Heard.{Lost, Got}
use Rattle.transfer_theory.specs.Payload.{kind_of, file_of, number_of, body_of, length_of}
use Rattle.transfer_theory.specs.Receiver.{Receiver, empty_of, slot_at, hears, brings_part, brings_end, filled_slot, with_length}

pub hears-lost : (v : Receiver) → hears Lost v ≡ v
unfolding hears
hears-lost v = refl

-- neither a part that is wanted nor an end
nothing : (p : List ℕ) (v : Receiver) → brings_part p v ≡ false → brings_end p v ≡ false → hears (Got p) v ≡ v
unfolding hears
nothing p v a b =
    cond-false (brings_part p v) (filled_slot (number_of p) (body_of p) v) (cond (brings_end p v) (with_length (length_of p) v) v) a ∙
    cond-false (brings_end p v) (with_length (length_of p) v) v b

no_part : (p : List ℕ) (v : Receiver) → eqb (kind_of p) 1 ≡ false → brings_part p v ≡ false
no_part p v e =
    and_left (eqb (kind_of p) 1 && eqb (file_of p) v.file && ltb (number_of p) 1000) (empty_of (slot_at v (number_of p)))
    (and_left (eqb (kind_of p) 1 && eqb (file_of p) v.file) (ltb (number_of p) 1000) (and_left (eqb (kind_of p) 1) (eqb (file_of p) v.file) e))

no_end : (p : List ℕ) (v : Receiver) → eqb (kind_of p) 2 ≡ false → brings_end p v ≡ false
no_end p v e =
    and_left (eqb (kind_of p) 2 && eqb (file_of p) v.file) (leb (length_of p) 214000) (and_left (eqb (kind_of p) 2) (eqb (file_of p) v.file) e)

-- a part whose slot is empty fills it
pub hears-part :
    (p : List ℕ) (v : Receiver) → kind_of p ≡ 1 → file_of p ≡ v.file → number_of p < 1000 → empty_of (slot_at v (number_of p)) ≡ true →
    hears (Got p) v ≡ filled_slot (number_of p) (body_of p) v
unfolding hears
hears-part p v k f n e =
    cond-true (brings_part p v) (filled_slot (number_of p) (body_of p) v) (cond (brings_end p v) (with_length (length_of p) v) v)
    (and_from (eqb (kind_of p) 1 && eqb (file_of p) v.file && ltb (number_of p) 1000) (empty_of (slot_at v (number_of p)))
    (and_from (eqb (kind_of p) 1 && eqb (file_of p) v.file) (ltb (number_of p) 1000)
    (and_from (eqb (kind_of p) 1) (eqb (file_of p) v.file) (eq-eqb (kind_of p) 1 k) (eq-eqb (file_of p) v.file f)) (lt-ltb (number_of p) 1000 n)) e)

-- a part whose slot is filled changes nothing
pub hears-full : (p : List ℕ) (v : Receiver) → kind_of p ≡ 1 → empty_of (slot_at v (number_of p)) ≡ false → hears (Got p) v ≡ v
hears-full p v k e =
    nothing p v (and_right (eqb (kind_of p) 1 && eqb (file_of p) v.file && ltb (number_of p) 1000) (empty_of (slot_at v (number_of p))) e)
    (no_end p v (ap (λ (x : ℕ). eqb x 2) k))

-- a part past the slots changes nothing
pub hears-past : (p : List ℕ) (v : Receiver) → kind_of p ≡ 1 → 1000 ≤ number_of p → hears (Got p) v ≡ v
hears-past p v k h =
    nothing p v
    (and_left (eqb (kind_of p) 1 && eqb (file_of p) v.file && ltb (number_of p) 1000) (empty_of (slot_at v (number_of p)))
    (and_right (eqb (kind_of p) 1 && eqb (file_of p) v.file) (ltb (number_of p) 1000) (le-ltb (number_of p) 1000 h)))
    (no_end p v (ap (λ (x : ℕ). eqb x 2) k))

-- an end sets the length
pub hears-end :
    (p : List ℕ) (v : Receiver) → kind_of p ≡ 2 → file_of p ≡ v.file → length_of p ≤ 214000 → hears (Got p) v ≡ with_length (length_of p) v
unfolding hears
hears-end p v k f h =
    cond-false (brings_part p v) (filled_slot (number_of p) (body_of p) v) (cond (brings_end p v) (with_length (length_of p) v) v)
    (no_part p v (ap (λ (x : ℕ). eqb x 1) k)) ∙
    cond-true (brings_end p v) (with_length (length_of p) v) v
    (and_from (eqb (kind_of p) 2 && eqb (file_of p) v.file) (leb (length_of p) 214000)
    (and_from (eqb (kind_of p) 2) (eqb (file_of p) v.file) (eq-eqb (kind_of p) 2 k) (eq-eqb (file_of p) v.file f)) (le-leb (length_of p) 214000 h))

-- an end with too great a length changes nothing
pub hears-long : (p : List ℕ) (v : Receiver) → kind_of p ≡ 2 → 214000 < length_of p → hears (Got p) v ≡ v
hears-long p v k h =
    nothing p v (no_part p v (ap (λ (x : ℕ). eqb x 1) k))
    (and_right (eqb (kind_of p) 2 && eqb (file_of p) v.file) (leb (length_of p) 214000) (lt-leb (length_of p) 214000 h))

-- another kind changes nothing
pub hears-other : (p : List ℕ) (v : Receiver) → (kind_of p ≡ 1 → ⊥) → (kind_of p ≡ 2 → ⊥) → hears (Got p) v ≡ v
hears-other p v a b = nothing p v (no_part p v (ne_eqb (kind_of p) 1 a)) (no_end p v (ne_eqb (kind_of p) 2 b))

-- a payload of another file changes nothing
pub hears-foreign : (p : List ℕ) (v : Receiver) → (file_of p ≡ v.file → ⊥) → hears (Got p) v ≡ v
hears-foreign p v a =
    let e : eqb (file_of p) v.file ≡ false = ne_eqb (file_of p) v.file a in
    nothing p v
    (and_left (eqb (kind_of p) 1 && eqb (file_of p) v.file && ltb (number_of p) 1000) (empty_of (slot_at v (number_of p)))
    (and_left (eqb (kind_of p) 1 && eqb (file_of p) v.file) (ltb (number_of p) 1000) (and_right (eqb (kind_of p) 1) (eqb (file_of p) v.file) e)))
    (and_left (eqb (kind_of p) 2 && eqb (file_of p) v.file) (leb (length_of p) 214000) (and_right (eqb (kind_of p) 2) (eqb (file_of p) v.file) e))
