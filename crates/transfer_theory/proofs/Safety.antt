-- The invariant, kept by each operation and so by every run; and the file promise. Assumes nothing.
use Rattle.std.proofs.Common.{◌≡◌, ℕ, ◌≤◌, Bool, true, false, cond, not, ◌||◌, T, eqb, ltb, ◌⊎◌, List, [], ◌∷◌, length, sym, refl, ap, ◌∙◌, subst, inl, inr, arith}
use Rattle.std.proofs.lemmas.Bool.{cases_Bool, and_parts, or_cases, eqb-true, eqb-false, not-true, ltb-true, cond-true, cond-false}
use Rattle.bits.specs.Heard.{Heard, Lost, Got}
use Rattle.transfer_theory.specs.Payload.{file_of}
use Rattle.transfer_theory.specs.Sender.{says, after_saying, told}
use Rattle.transfer_theory.specs.Receiver.{Receiver, hears, answers, complete}
use Rattle.transfer_theory.specs.World.{World, start, step, Says, Asks, Down, Up, same_bytes, is_in, fair, Run, begins, spoke, replied, below, above}
use Rattle.transfer_theory.specs.Invariant.{AllThere, Sent, Back, Good}
use Rattle.transfer_theory.specs.Promise.{FileRight, ForeignIsNothing, LengthRight, CompleteStays}
use Rattle.transfer_theory.proofs.Hearing.{hears-foreign}
use Rattle.transfer_theory.proofs.Telling.{told-foreign}
use Rattle.transfer_theory.proofs.Slots.{is_true, holds}
use Rattle.transfer_theory.proofs.Receiving.{Honest, silent, sent, other, Kept, received-new, hears-keeps, complete-all, all-complete, all-handed}
use Rattle.transfer_theory.proofs.Answering.{answers-back, says-sent, after-sends, told-keeps, Said, Heeds}

-- ---- lists of payloads
pub same-is : (xs ys : List ℕ) → same_bytes xs ys ≡ true → xs ≡ ys
unfolding same_bytes
same-is [] [] e = refl
same-is [] (y ∷ ys) e = let z : ◌≡◌ {A = ℕ} 0 1 = ap (λ (t : Bool). cond t 1 0) e in let q : ⊥ = omega arith in absurd q
same-is (x ∷ xs) [] e = let z : ◌≡◌ {A = ℕ} 0 1 = ap (λ (t : Bool). cond t 1 0) e in let q : ⊥ = omega arith in absurd q
same-is (x ∷ xs) (y ∷ ys) e =
    let b = and_parts (eqb x y) (same_bytes xs ys) e in
    ap (λ (k : ℕ). k ∷ xs) (eqb-true x y b.0) ∙ ap (λ (zs : List ℕ). y ∷ zs) (same-is xs ys b.1)

pub in-cons : (p q : List ℕ) (qs : List (List ℕ)) → T (is_in p (q ∷ qs)) → (p ≡ q) ⊎ T (is_in p qs)
unfolding is_in
in-cons p q qs t =
    elim (or_cases (same_bytes p q) (is_in p qs) (is_true (same_bytes p q || is_in p qs) t)) [ inl e ↦ inl (same-is p q e) | inr e ↦ inr (holds (is_in p qs) e) ]

none_in : (p : List ℕ) → T (is_in p []) → ⊥
unfolding is_in
none_in p t = t

-- what is heard fairly is nothing, something that was sent, or of another file
pub honest : (S : List ℕ → Type 0) (n : ℕ) (h : Heard) (ps : List (List ℕ)) → ((p : List ℕ) → T (is_in p ps) → S p) → fair n h ps ≡ true → Honest S n h
honest S n Lost ps k e = silent
honest S n (Got p) ps k e =
    elim (or_cases (is_in p ps) (not (eqb (file_of p) n)) e) [ inl i ↦ sent p (k p (holds (is_in p ps) i)) | inr o ↦ other p (eqb-false (file_of p) n (not-true (eqb (file_of p) n) o)) ]

-- ---- one lemma for each operation
pub good_start : (n : ℕ) (f : List ℕ) → Good n f (start n f)
good_start n f =
    record {
      sends = record { file = refl; bytes = refl; place = omega arith };
      received = received-new n f;
      down = λ p t. absurd (none_in p t);
      up = λ p t. absurd (none_in p t);
      done = λ t. absurd t;
    }

pub good-says : (n : ℕ) (f : List ℕ) (w : World) → Good n f w → Good n f (step Says w)
good-says n f w g =
    record {
      sends = s.sends;
      received = g.received;
      down = λ p t. elim (in-cons p (says w.sender) w.down t) [ inl e ↦ subst (λ (q : List ℕ). Sent n f q) (sym e) (says-sent n f w.sender g.sends) | inr i ↦ g.down p i ];
      up = g.up;
      done = λ t. g.done (subst (λ (b : Bool). T b) s.done t);
    }
  where
    s : Said n f w.sender (after_saying w.sender)
    s = after-sends n f w.sender g.sends

pub good-answers : (n : ℕ) (f : List ℕ) (w : World) → Good n f w → Good n f (step Asks w)
good-answers n f w g =
    record { sends = g.sends; received = g.received; down = g.down; up = λ p t. go p (cases_Bool (ltb 0 w.receiver.size)) t; done = g.done }
  where
    go :
        (p : List ℕ) → (ltb 0 w.receiver.size ≡ true) ⊎ (ltb 0 w.receiver.size ≡ false) →
        T (is_in p (cond (ltb 0 w.receiver.size) (answers w.receiver ∷ w.up) w.up)) → Back n f w.receiver p
    go p (inl e) t =
        elim (in-cons p (answers w.receiver) w.up
        (subst (λ (l : List (List ℕ)). T (is_in p l)) (cond-true (ltb 0 w.receiver.size) (answers w.receiver ∷ w.up) w.up e) t)) [
          | inl q ↦ subst (λ (x : List ℕ). Back n f w.receiver x) (sym q) (answers-back n f w.receiver g.received (ltb-true 0 w.receiver.size e))
          | inr i ↦ g.up p i
        ]
    go p (inr e) t =
        g.up p (subst (λ (l : List (List ℕ)). T (is_in p l)) (cond-false (ltb 0 w.receiver.size) (answers w.receiver ∷ w.up) w.up e) t)

back-stays : (n : ℕ) (f : List ℕ) (v u : Receiver) → (AllThere f v → AllThere f u) → (p : List ℕ) → Back n f v p → Back n f u p
back-stays n f v u k p (inl x) = inl x
back-stays n f v u k p (inr (e, a)) = inr (e, k a)

pub good-hears : (n : ℕ) (f : List ℕ) (w : World) (h : Heard) → length f ≤ 214000 → Good n f w → Honest (Sent n f) n h → Good n f (step (Down h) w)
good-hears n f w h b g o =
    record {
      sends = g.sends;
      received = k.received;
      down = g.down;
      up = λ p t. back-stays n f w.receiver (hears h w.receiver) k.stays p (g.up p t);
      done = λ t. k.stays (g.done t);
    }
  where
    k : Kept n f w.receiver (hears h w.receiver)
    k = hears-keeps n f w.receiver b g.received o

pub good-told : (n : ℕ) (f : List ℕ) (w : World) (h : Heard) → Good n f w → Honest (Back n f w.receiver) n h → Good n f (step (Up h) w)
good-told n f w h g o =
    record { sends = k.sends; received = g.received; down = g.down; up = g.up; done = λ t. elim (k.done t) [ inl d ↦ g.done d | inr a ↦ a ] }
  where
    k : Heeds n f w.receiver w.sender (told h w.sender)
    k = told-keeps n f w.receiver w.sender g.sends o

-- every run with nothing false is good
pub run-good : (n : ℕ) (f : List ℕ) {c : Bool} {w : World} → length f ≤ 214000 → Run n f c w → c ≡ true → Good n f w
run-good n f b begins e = good_start n f
run-good n f b (spoke {w = w} r) e = good-says n f w (run-good n f b r e)
run-good n f b (replied {w = w} r) e = good-answers n f w (run-good n f b r e)
run-good n f b (below {c = c} {w = w} r h) e =
    let t = and_parts c (fair n h w.down) e in
    let g = run-good n f b r t.0 in
    good-hears n f w h b g (honest (Sent n f) n h w.down g.down t.1)
run-good n f b (above {c = c} {w = w} r h) e =
    let t = and_parts c (fair n h w.up) e in
    let g = run-good n f b r t.0 in
    good-told n f w h g (honest (Back n f w.receiver) n h w.up g.up t.1)

-- ---- the promises
pub file-right : FileRight
file-right n f m i w r =
    let g = run-good n f i.0 r refl in (
      g.received.right,
      (λ t. all-handed n f w.receiver i.0 g.received (complete-all n f w.receiver g.received t)),
      λ t. holds (complete w.receiver) (all-complete f w.receiver (g.done t)),
    )

pub foreign-is-nothing : ForeignIsNothing
foreign-is-nothing = (told-foreign, hears-foreign)

pub length-right : LengthRight
length-right n f m i w r = (run-good n f i.0 r refl).received.size

pub complete-stays : CompleteStays
complete-stays n f m i w r h o t =
    let g = run-good n f i.0 r refl in
    let k = hears-keeps n f w.receiver i.0 g.received (honest (Sent n f) n h w.down g.down (is_true (fair n h w.down) o)) in
    holds (complete (hears h w.receiver)) (all-complete f (hears h w.receiver) (k.stays (complete-all n f w.receiver g.received t)))
