-- What the sender says, and what hearing a payload does to it, case by case. Assumes nothing.
use Rattle.std.proofs.Common.{◌≡◌, ℕ, ◌+◌, ◌<◌, ◌≤◌, false, cond, ◌&&◌, eqb, ltb, List, refl, ap, ◌∙◌}
use Rattle.std.proofs.lemmas.Bool.{and_from, and_left, and_right, cond-true, cond-false, eq-eqb, ne_eqb, lt-ltb, le-ltb}
use Rattle.bits.specs.Heard.{Lost, Got}
use Rattle.transfer_theory.specs.Payload.{kind_of, file_of, number_of}
use Rattle.transfer_theory.specs.Parts.{parts, part_payload, end_payload}
use Rattle.transfer_theory.specs.Sender.{Sender, says, after_saying, told, asks, tells_done, at_part, with_place, finished}

pub says-part : (s : Sender) → s.place < parts s.bytes → says s ≡ part_payload s.file s.bytes s.place
unfolding says
says-part s h =
    cond-true (at_part s) (part_payload s.file s.bytes s.place) (end_payload s.file s.bytes) (lt-ltb s.place (parts s.bytes) h)

pub says-end : (s : Sender) → parts s.bytes ≤ s.place → says s ≡ end_payload s.file s.bytes
unfolding says
says-end s h =
    cond-false (at_part s) (part_payload s.file s.bytes s.place) (end_payload s.file s.bytes) (le-ltb s.place (parts s.bytes) h)

pub after-part : (s : Sender) → s.place < parts s.bytes → after_saying s ≡ with_place (s.place + 1) s
unfolding after_saying
after-part s h = cond-true (at_part s) (with_place (s.place + 1) s) s (lt-ltb s.place (parts s.bytes) h)

pub after-end : (s : Sender) → parts s.bytes ≤ s.place → after_saying s ≡ s
unfolding after_saying
after-end s h = cond-false (at_part s) (with_place (s.place + 1) s) s (le-ltb s.place (parts s.bytes) h)

pub told-lost : (s : Sender) → told Lost s ≡ s
unfolding told
told-lost s = refl

nothing : (p : List ℕ) (s : Sender) → asks p s ≡ false → tells_done p s ≡ false → told (Got p) s ≡ s
unfolding told
nothing p s a b =
    cond-false (asks p s) (with_place (number_of p) s) (cond (tells_done p s) (finished s) s) a ∙ cond-false (tells_done p s) (finished s) s b

no-ask : (p : List ℕ) (s : Sender) → eqb (kind_of p) 3 ≡ false → asks p s ≡ false
no-ask p s e =
    and_left (eqb (kind_of p) 3 && eqb (file_of p) s.file) (ltb (number_of p) (parts s.bytes))
    (and_left (eqb (kind_of p) 3) (eqb (file_of p) s.file) e)

-- kind 3 with the number of a part: that part is next
pub told-ask :
    (p : List ℕ) (s : Sender) → kind_of p ≡ 3 → file_of p ≡ s.file → number_of p < parts s.bytes → told (Got p) s ≡ with_place (number_of p) s
unfolding told
told-ask p s k f h =
    cond-true (asks p s) (with_place (number_of p) s) (cond (tells_done p s) (finished s) s)
    (and_from (eqb (kind_of p) 3 && eqb (file_of p) s.file) (ltb (number_of p) (parts s.bytes))
    (and_from (eqb (kind_of p) 3) (eqb (file_of p) s.file) (eq-eqb (kind_of p) 3 k) (eq-eqb (file_of p) s.file f))
    (lt-ltb (number_of p) (parts s.bytes) h))

-- kind 3 past the parts changes nothing
pub told-past : (p : List ℕ) (s : Sender) → kind_of p ≡ 3 → parts s.bytes ≤ number_of p → told (Got p) s ≡ s
told-past p s k h =
    nothing p s (and_right (eqb (kind_of p) 3 && eqb (file_of p) s.file) (ltb (number_of p) (parts s.bytes)) (le-ltb (number_of p) (parts s.bytes) h))
    (and_left (eqb (kind_of p) 4) (eqb (file_of p) s.file) (ap (λ (x : ℕ). eqb x 4) k))

-- kind 4: it is done
pub told-done : (p : List ℕ) (s : Sender) → kind_of p ≡ 4 → file_of p ≡ s.file → told (Got p) s ≡ finished s
unfolding told
told-done p s k f =
    cond-false (asks p s) (with_place (number_of p) s) (cond (tells_done p s) (finished s) s) (no-ask p s (ap (λ (x : ℕ). eqb x 3) k)) ∙
    cond-true (tells_done p s) (finished s) s (and_from (eqb (kind_of p) 4) (eqb (file_of p) s.file) (eq-eqb (kind_of p) 4 k) (eq-eqb (file_of p) s.file f))

-- another kind changes nothing
pub told-other : (p : List ℕ) (s : Sender) → (kind_of p ≡ 3 → ⊥) → (kind_of p ≡ 4 → ⊥) → told (Got p) s ≡ s
told-other p s a b =
    nothing p s (no-ask p s (ne_eqb (kind_of p) 3 a)) (and_left (eqb (kind_of p) 4) (eqb (file_of p) s.file) (ne_eqb (kind_of p) 4 b))

-- a payload of another file changes nothing
pub told-foreign : (p : List ℕ) (s : Sender) → (file_of p ≡ s.file → ⊥) → told (Got p) s ≡ s
told-foreign p s a =
    let e : eqb (file_of p) s.file ≡ false = ne_eqb (file_of p) s.file a in
    nothing p s
    (and_left (eqb (kind_of p) 3 && eqb (file_of p) s.file) (ltb (number_of p) (parts s.bytes)) (and_right (eqb (kind_of p) 3) (eqb (file_of p) s.file) e))
    (and_right (eqb (kind_of p) 4) (eqb (file_of p) s.file) e)
