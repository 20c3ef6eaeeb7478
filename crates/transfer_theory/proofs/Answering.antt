-- What the receiver answers and what the sender says; what each does at the other end. Assumes nothing.
use Rattle.std.proofs.Common.{◌≡◌, ℕ, ◌+◌, ◌<◌, ◌≤◌, Bool, true, false, cond, T, eqb, ltb, ◌⊎◌, List, [], sym, refl, ap, ◌∙◌, subst, inl, inr, arith}
use Rattle.std.proofs.lemmas.Bool.{cases_eq, cases_Bool, cases_lt, cond-true, cond-false, and_from, eq-eqb, lt-ltb}
use Rattle.bits.specs.Heard.{Heard, Got}
use Rattle.transfer_theory.specs.Parts.{parts, part_payload, end_payload, ask_payload, done_payload}
use Rattle.transfer_theory.specs.Sender.{Sender, says, after_saying, told, with_place, finished}
use Rattle.transfer_theory.specs.Receiver.{Receiver, empty_of, slot_at, first_gap, wanted, complete, answers}
use Rattle.transfer_theory.specs.Invariant.{Received, AllThere, Sent, Back, Sends}
use Rattle.transfer_theory.proofs.Payloads.{payload-reads}
use Rattle.transfer_theory.proofs.Telling.{says-part, says-end, after-part, after-end, told-ask, told-done, told-foreign}
use Rattle.transfer_theory.proofs.Slots.{first-gap, holds}
use Rattle.transfer_theory.proofs.Receiving.{Honest, silent, sent, other, sized, wanted-is, complete-all}

-- ---- the receiver's answer
pub answers-done : (v : Receiver) → complete v ≡ true → answers v ≡ done_payload v.file
unfolding answers
answers-done v e = cond-true (complete v) (done_payload v.file) (ask_payload v.file (first_gap v)) e

pub answers-ask : (v : Receiver) → complete v ≡ false → answers v ≡ ask_payload v.file (first_gap v)
unfolding answers
answers-ask v e = cond-false (complete v) (done_payload v.file) (ask_payload v.file (first_gap v)) e

-- while it is not complete, the first gap is a part's
pub gap_within : (v : Receiver) → 0 < v.size → complete v ≡ false → first_gap v < wanted v
gap_within v h e = go (cases_eq (first_gap v) (wanted v))
  where
    go : (first_gap v ≡ wanted v) ⊎ (first_gap v ≡ wanted v → ⊥) → first_gap v < wanted v
    go (inl q) =
        let c : complete v ≡ true = and_from (ltb 0 v.size) (eqb (first_gap v) (wanted v)) (lt-ltb 0 v.size h) (eq-eqb (first_gap v) (wanted v) q) in
        let z : ◌≡◌ {A = ℕ} 0 1 = ap (λ (t : Bool). cond t 0 1) (sym c ∙ e) in
        let y : ⊥ = omega arith in
        absurd y
    go (inr q) = let w = (first-gap (wanted v) v.slots).within in omega arith

-- either all is there, and it says so, or it asks for the first part that is missing
pub record Asking (n : ℕ) (f : List ℕ) (v : Receiver) (i : ℕ) : Type 0 where
  pub within : i < parts f
  pub before : (k : ℕ) → k < i → empty_of (slot_at v k) ≡ false
  pub gap : empty_of (slot_at v i) ≡ true
  pub says : answers v ≡ ask_payload n i

pub record Telling (n : ℕ) (f : List ℕ) (v : Receiver) : Type 0 where
  pub all : AllThere f v
  pub says : answers v ≡ done_payload n

pub answer : (n : ℕ) (f : List ℕ) (v : Receiver) → Received n f v → 0 < v.size → Telling n f v ⊎ ((i : ℕ) × Asking n f v i)
answer n f v r h = go (cases_Bool (complete v))
  where
    go : (complete v ≡ true) ⊎ (complete v ≡ false) → Telling n f v ⊎ ((i : ℕ) × Asking n f v i)
    go (inl c) =
        inl (record { all = complete-all n f v r (holds (complete v) c); says = answers-done v c ∙ ap (λ (m : ℕ). done_payload m) r.file })
    go (inr c) =
        let g = first-gap (wanted v) v.slots in
        let l = gap_within v h c in
        inr (
          first_gap v,
          record {
            within = subst (λ (m : ℕ). first_gap v < m) (wanted-is f v (sized n f v r h)) l;
            before = g.before;
            gap = g.here l;
            says = answers-ask v c ∙ ap (λ (m : ℕ). ask_payload m (first_gap v)) r.file;
          },
        )

pub answers-back : (n : ℕ) (f : List ℕ) (v : Receiver) → Received n f v → 0 < v.size → Back n f v (answers v)
answers-back n f v r h = elim (answer n f v r h) [ inl t ↦ inr (t.says, t.all) | inr a ↦ inl (a.0, a.1.within, a.1.says) ]

-- ---- the sender
file-part : (n : ℕ) (f : List ℕ) (s : Sender) → Sends n f s → s.place < parts f → s.place < parts s.bytes
file-part n f s b h = subst (λ (g : List ℕ). s.place < parts g) (sym b.bytes) h

file-end : (n : ℕ) (f : List ℕ) (s : Sender) → Sends n f s → parts f ≤ s.place → parts s.bytes ≤ s.place
file-end n f s b h = subst (λ (g : List ℕ). parts g ≤ s.place) (sym b.bytes) h

pub says-file-part : (n : ℕ) (f : List ℕ) (s : Sender) → Sends n f s → s.place < parts f → says s ≡ part_payload n f s.place
says-file-part n f s b h =
    says-part s (file-part n f s b h) ∙ ap (λ (m : ℕ). part_payload m s.bytes s.place) b.file ∙ ap (λ (g : List ℕ). part_payload n g s.place) b.bytes

pub says-file-end : (n : ℕ) (f : List ℕ) (s : Sender) → Sends n f s → parts f ≤ s.place → says s ≡ end_payload n f
says-file-end n f s b h =
    says-end s (file-end n f s b h) ∙ ap (λ (m : ℕ). end_payload m s.bytes) b.file ∙ ap (λ (g : List ℕ). end_payload n g) b.bytes

pub after-file-part : (n : ℕ) (f : List ℕ) (s : Sender) → Sends n f s → s.place < parts f → after_saying s ≡ with_place (s.place + 1) s
after-file-part n f s b h = after-part s (file-part n f s b h)

pub after-file-end : (n : ℕ) (f : List ℕ) (s : Sender) → Sends n f s → parts f ≤ s.place → after_saying s ≡ s
after-file-end n f s b h = after-end s (file-end n f s b h)

pub sends-place : (n : ℕ) (f : List ℕ) (s : Sender) (i : ℕ) → Sends n f s → i ≤ parts f → Sends n f (with_place i s)
sends-place n f s i b h = record { file = b.file; bytes = b.bytes; place = h }

pub sends-finished : (n : ℕ) (f : List ℕ) (s : Sender) → Sends n f s → Sends n f (finished s)
sends-finished n f s b = record { file = b.file; bytes = b.bytes; place = b.place }

pub says-sent : (n : ℕ) (f : List ℕ) (s : Sender) → Sends n f s → Sent n f (says s)
says-sent n f s b =
    elim (cases_lt s.place (parts f)) [ inl h ↦ inl (s.place, h, says-file-part n f s b h) | inr h ↦ inr (says-file-end n f s b h) ]

-- saying leaves the file and whether it is done
pub record Said (n : ℕ) (f : List ℕ) (s t : Sender) : Type 0 where
  pub sends : Sends n f t
  pub done : t.done ≡ s.done

pub after-sends : (n : ℕ) (f : List ℕ) (s : Sender) → Sends n f s → Said n f s (after_saying s)
after-sends n f s b = go (cases_lt s.place (parts f))
  where
    go : (s.place < parts f) ⊎ (parts f ≤ s.place) → Said n f s (after_saying s)
    go (inl h) =
        subst (λ (t : Sender). Said n f s t) (sym (after-file-part n f s b h))
        (record { sends = sends-place n f s (s.place + 1) b (omega arith); done = refl })
    go (inr h) = subst (λ (t : Sender). Said n f s t) (sym (after-file-end n f s b h)) (record { sends = b; done = refl })

pub told-file-ask : (n : ℕ) (f : List ℕ) (s : Sender) (i : ℕ) → Sends n f s → i < parts f → told (Got (ask_payload n i)) s ≡ with_place i s
told-file-ask n f s i b h =
    let r = payload-reads 3 n i [] (omega arith) in
    told-ask (ask_payload n i) s r.kind-is (r.file-is ∙ sym b.file)
    (subst (λ (j : ℕ). j < parts s.bytes) (sym r.number_is) (subst (λ (g : List ℕ). i < parts g) (sym b.bytes) h)) ∙
    ap (λ (j : ℕ). with_place j s) r.number_is

pub told-file-done : (n : ℕ) (f : List ℕ) (s : Sender) → Sends n f s → told (Got (done_payload n)) s ≡ finished s
told-file-done n f s b = let r = payload-reads 4 n 0 [] (omega arith) in told-done (done_payload n) s r.kind-is (r.file-is ∙ sym b.file)

-- what hearing an answer makes of the sender: done only if all is there
pub record Heeds (n : ℕ) (f : List ℕ) (v : Receiver) (s t : Sender) : Type 0 where
  pub sends : Sends n f t
  pub done : T t.done → T s.done ⊎ AllThere f v

pub told_back : (n : ℕ) (f : List ℕ) (v : Receiver) (s : Sender) (p : List ℕ) → Sends n f s → Back n f v p → Heeds n f v s (told (Got p) s)
told_back n f v s p b (inl (i, h, e)) =
    subst (λ (q : List ℕ). Heeds n f v s (told (Got q) s)) (sym e)
    (subst (λ (t : Sender). Heeds n f v s t) (sym (told-file-ask n f s i b h)) (record { sends = sends-place n f s i b (omega arith); done = λ t. inl t }))
told_back n f v s p b (inr (e, a)) =
    subst (λ (q : List ℕ). Heeds n f v s (told (Got q) s)) (sym e)
    (subst (λ (t : Sender). Heeds n f v s t) (sym (told-file-done n f s b)) (record { sends = sends-finished n f s b; done = λ t. inr a }))

pub told-keeps : (n : ℕ) (f : List ℕ) (v : Receiver) (s : Sender) {h : Heard} → Sends n f s → Honest (Back n f v) n h → Heeds n f v s (told h s)
unfolding told
told-keeps n f v s b silent = record { sends = b; done = λ t. inl t }
told-keeps n f v s b (sent p k) = told_back n f v s p b k
told-keeps n f v s b (other p o) =
    subst (λ (t : Sender). Heeds n f v s t) (sym (told-foreign p s (λ e. o (e ∙ b.file)))) (record { sends = b; done = λ t. inl t })
