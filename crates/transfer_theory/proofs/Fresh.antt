-- Before a length is heard nothing went back, and nothing that was not yet said is there. Assumes nothing.
use Rattle.std.proofs.Common.{◌≡◌, ℕ, ◌+◌, ◌<◌, ◌≤◌, Bool, true, T, ltb, ◌⊎◌, List, [], ◌∷◌, length, sym, ap, ◌∙◌, subst, inl, inr, arith}
use Rattle.std.proofs.lemmas.Bool.{cases_lt, and_parts, cond-false, le-ltb}
use Rattle.bits.specs.Heard.{Heard, Got}
use Rattle.transfer_theory.specs.Parts.{parts, part_payload, end_payload}
use Rattle.transfer_theory.specs.Sender.{Sender, says, after_saying, told}
use Rattle.transfer_theory.specs.Receiver.{Receiver, hears, answers, empty_of, slot_at}
use Rattle.transfer_theory.specs.World.{World, start, step, Says, Asks, Down, Up, is_in, fair, Run, begins, spoke, replied, below, above}
use Rattle.transfer_theory.specs.Invariant.{Received, Sent, Good}
use Rattle.transfer_theory.proofs.Slots.{missing_at}
use Rattle.transfer_theory.proofs.Hearing.{hears-lost, hears-foreign}
use Rattle.transfer_theory.proofs.Telling.{told-lost, told-foreign}
use Rattle.transfer_theory.proofs.Receiving.{Honest, silent, sent, other, part-comes}
use Rattle.transfer_theory.proofs.Answering.{says-file-part, says-file-end, after-file-part, after-file-end}
use Rattle.transfer_theory.proofs.Safety.{in-cons, honest, run-good}
use Rattle.transfer_theory.proofs.Effects.{hears-keeps-size, hears-end-size}

none_in : (p : List ℕ) → T (is_in p []) → ⊥
unfolding is_in
none_in p t = t

-- a part below the place, or the end
abbrev pub Said : ℕ → List ℕ → ℕ → List ℕ → Type 0
Said n f s p = ((i : ℕ) × (i < s) × (p ≡ part_payload n f i)) ⊎ (p ≡ end_payload n f)

pub record Fresh (n : ℕ) (f : List ℕ) (w : World) : Type 0 where
  pub quiet : (p : List ℕ) → T (is_in p w.up) → ⊥
  pub said : (p : List ℕ) → T (is_in p w.down) → Said n f w.sender.place p
  pub ahead : (k : ℕ) → w.sender.place ≤ k → empty_of (slot_at w.receiver k) ≡ true

-- ---- a length once there stays
pub size-stays :
    (n : ℕ) (f : List ℕ) (v : Receiver) {h : Heard} → length f ≤ 214000 → Received n f v → Honest (Sent n f) n h → v.size ≡ length f + 1 →
    (hears h v).size ≡ length f + 1
size-stays n f v b r silent s = ap (λ (u : Receiver). u.size) (hears-lost v) ∙ s
size-stays n f v b r (sent p k) s = hears-keeps-size n f v p b r k s
size-stays n f v b r (other p o) s = ap (λ (u : Receiver). u.size) (hears-foreign p v (λ e. o (e ∙ r.file))) ∙ s

no-size-before :
    (n : ℕ) (f : List ℕ) (v : Receiver) {h : Heard} → length f ≤ 214000 → Received n f v → Honest (Sent n f) n h → (hears h v).size ≡ 0 → v.size ≡ 0
no-size-before n f v {h = h} b r o z =
    elim r.size [ inl e ↦ e | inr e ↦ let q = size-stays n f v {h = h} b r o e in let y : ⊥ = omega arith in absurd y ]

-- ---- one lemma for each operation
fresh_start : (n : ℕ) (f : List ℕ) → Fresh n f (start n f)
fresh_start n f =
    record { quiet = λ p t. none_in p t; said = λ p t. absurd (none_in p t); ahead = λ k h. ap empty_of (missing_at 1000 k) }

said_more : (n : ℕ) (f : List ℕ) (s t : ℕ) (p : List ℕ) → s ≤ t → Said n f s p → Said n f t p
said_more n f s t p h (inl (i, l, e)) = inl (i, omega arith, e)
said_more n f s t p h (inr e) = inr e

fresh-says : (n : ℕ) (f : List ℕ) (w : World) → Good n f w → Fresh n f w → Fresh n f (step Says w)
fresh-says n f w g r = go (cases_lt w.sender.place (parts f))
  where
    s : Sender
    s = w.sender

    make : s.place ≤ (after_saying s).place → Said n f (after_saying s).place (says s) → Fresh n f (step Says w)
    make l a =
        record {
          quiet = r.quiet;
          said = λ p t. elim (in-cons p (says s) w.down t) [
            | inl e ↦ subst (λ (q : List ℕ). Said n f (after_saying s).place q) (sym e) a
            | inr i ↦ said_more n f s.place (after_saying s).place p l (r.said p i)
          ];
          ahead = λ k h. r.ahead k (omega arith);
        }

    go : (s.place < parts f) ⊎ (parts f ≤ s.place) → Fresh n f (step Says w)
    go (inl h) =
        let e : (after_saying s).place ≡ s.place + 1 = ap (λ (t : Sender). t.place) (after-file-part n f s g.sends h) in
        make (omega arith) (inl (s.place, omega arith, says-file-part n f s g.sends h))
    go (inr h) =
        let e : (after_saying s).place ≡ s.place = ap (λ (t : Sender). t.place) (after-file-end n f s g.sends h) in
        make (omega arith) (inr (says-file-end n f s g.sends h))

fresh-answers : (n : ℕ) (f : List ℕ) (w : World) → w.receiver.size ≡ 0 → Fresh n f w → Fresh n f (step Asks w)
fresh-answers n f w z r =
    record {
      quiet = λ p t. r.quiet p (subst (λ (l : List (List ℕ)). T (is_in p l))
          (cond-false (ltb 0 w.receiver.size) (answers w.receiver ∷ w.up) w.up (le-ltb 0 w.receiver.size (omega arith))) t);
      said = r.said;
      ahead = r.ahead;
    }

-- what is heard there before a length: a part that was said fills its slot, and the end brings a length
fresh-hears :
    (n : ℕ) (f : List ℕ) (w : World) (h : Heard) → length f ≤ 214000 → Good n f w → (hears h w.receiver).size ≡ 0 → Fresh n f w →
    Honest (Said n f w.sender.place) n h → Fresh n f (step (Down h) w)
fresh-hears n f w h b g z r o = record { quiet = r.quiet; said = r.said; ahead = λ k l. slot k l z o }
  where
    v : Receiver
    v = w.receiver

    slot :
        {h : Heard} (k : ℕ) → w.sender.place ≤ k → (hears h v).size ≡ 0 → Honest (Said n f w.sender.place) n h → empty_of (slot_at (hears h v) k) ≡ true
    slot k l z silent = ap (λ (u : Receiver). empty_of (slot_at u k)) (hears-lost v) ∙ r.ahead k l
    slot k l z (sent p (inl (i, q, e))) =
        let a = g.sends.place in
        ap (λ (x : List ℕ). empty_of (slot_at (hears (Got x) v) k)) e ∙
        ap empty_of ((part-comes n f v i b (omega arith) g.received).brought.others k (λ c. let y : ⊥ = omega arith in y)) ∙ r.ahead k l
    slot k l z (sent p (inr e)) = let a = hears-end-size n f v p b g.received e in let y : ⊥ = omega arith in absurd y
    slot k l z (other p o) = ap (λ (u : Receiver). empty_of (slot_at u k)) (hears-foreign p v (λ e. o (e ∙ g.received.file))) ∙ r.ahead k l

-- nothing went back, so nothing is told
pub quiet_told :
    (n : ℕ) (f : List ℕ) (w : World) (h : Heard) → Good n f w → Fresh n f w → fair n h w.up ≡ true → told h w.sender ≡ w.sender
quiet_told n f w h g r e = go (honest (λ (p : List ℕ). ⊥) n h w.up r.quiet e)
  where
    go : {h : Heard} → Honest (λ (p : List ℕ). ⊥) n h → told h w.sender ≡ w.sender
    go silent = told-lost w.sender
    go (sent p k) = absurd k
    go (other p o) = told-foreign p w.sender (λ q. o (q ∙ g.sends.file))

fresh-told : (n : ℕ) (f : List ℕ) (w : World) (h : Heard) → told h w.sender ≡ w.sender → Fresh n f w → Fresh n f (step (Up h) w)
fresh-told n f w h e r =
    let q : (told h w.sender).place ≡ w.sender.place = ap (λ (s : Sender). s.place) e in
    record {
      quiet = r.quiet;
      said = λ p t. subst (λ (j : ℕ). Said n f j p) (sym q) (r.said p t);
      ahead = λ k l. r.ahead k (omega arith);
    }

-- ---- every run with nothing false and no length
pub run-fresh : (n : ℕ) (f : List ℕ) {c : Bool} {w : World} → length f ≤ 214000 → Run n f c w → c ≡ true → w.receiver.size ≡ 0 → Fresh n f w
run-fresh n f b begins e z = fresh_start n f
run-fresh n f b (spoke {w = w} r) e z = fresh-says n f w (run-good n f b r e) (run-fresh n f b r e z)
run-fresh n f b (replied {w = w} r) e z = fresh-answers n f w z (run-fresh n f b r e z)
run-fresh n f b (below {c = c} {w = w} r h) e z =
    let t = and_parts c (fair n h w.down) e in
    let g = run-good n f b r t.0 in
    let y = no-size-before n f w.receiver {h = h} b g.received (honest (Sent n f) n h w.down g.down t.1) z in
    let q = run-fresh n f b r t.0 y in
    fresh-hears n f w h b g z q (honest (Said n f w.sender.place) n h w.down q.said t.1)
run-fresh n f b (above {c = c} {w = w} r h) e z =
    let t = and_parts c (fair n h w.up) e in
    let g = run-good n f b r t.0 in
    let q = run-fresh n f b r t.0 z in
    fresh-told n f w h (quiet_told n f w h g q t.1) q
