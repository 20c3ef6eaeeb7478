-- A bad evening: what lies between good pairs of rounds takes nothing away, and each pair brings something. Assumes nothing.
use Rattle.std.proofs.Common.{◌≡◌, ℕ, zero, suc, ◌+◌, ◌-◌, ◌<◌, ◌≤◌, Bool, true, false, T, ◌⊎◌, List, length, sym, refl, ap, ◌∙◌, subst, inl, inr, arith}
use Rattle.std.proofs.lemmas.Bool.{cases_lt}
use Rattle.bits.specs.Heard.{Heard, Got}
use Rattle.transfer_theory.specs.Parts.{IsFile, parts}
use Rattle.transfer_theory.specs.Sender.{Sender, after_saying, told}
use Rattle.transfer_theory.specs.Receiver.{Receiver, hears, empty_of, slot_at}
use Rattle.transfer_theory.specs.World.{World, step, Says, Asks, Down, Up, fair, Run}
use Rattle.transfer_theory.specs.World as world
use Rattle.transfer_theory.specs.Invariant.{Received, Sent, Back, Sends, Good}
use Rattle.transfer_theory.specs.Onward.{Faithful, Arrived}
use Rattle.transfer_theory.specs.Evening.{Meanwhile, nothing, spoke, replied, below, above, Evening, dusk, spell, pair}
use Rattle.transfer_theory.proofs.Slots.{is_true}
use Rattle.transfer_theory.proofs.Hearing.{hears-lost, hears-foreign}
use Rattle.transfer_theory.proofs.Telling.{told-lost, told-foreign}
use Rattle.transfer_theory.proofs.Receiving.{Honest, silent, sent, other}
use Rattle.transfer_theory.proofs.Answering.{after-sends, after-file-part, after-file-end, told-file-ask, told-file-done}
use Rattle.transfer_theory.proofs.Safety.{honest, run-good}
use Rattle.transfer_theory.proofs.Moves.{all-arrived}
use Rattle.transfer_theory.proofs.Following.{then-run, run-below, run-above}
use Rattle.transfer_theory.proofs.Counting.{gaps, gaps-most, gaps-next, gaps-less}
use Rattle.transfer_theory.proofs.Turns.{Turn, turn-done, round-then, round-moves}
use Rattle.transfer_theory.proofs.Phases.{gaps_in, gaps_of, Phase, settled, synced, sized, early, phase-turn, phase-over}
use Rattle.transfer_theory.proofs.Effects.{hears-keeps-filled}
use Rattle.transfer_theory.proofs.Fresh.{run-fresh, size-stays, quiet_told}

-- ---- k more pairs suffice: as with rounds, but wherever the sender is
pub data Left (f : List ℕ) (k : ℕ) (w : World) : Type 0 where
  over : T w.sender.done → Left f k w
  long : w.receiver.size ≡ length f + 1 → gaps_of w (parts f) + 1 ≤ k → Left f k w
  short : w.receiver.size ≡ 0 → (parts f - w.sender.place) + gaps_of w w.sender.place + 1 ≤ k → Left f k w

left-phase : (f : List ℕ) (k : ℕ) (w : World) → Left f k w → Phase f k w
left-phase f k w (over d) = settled d
left-phase f k w (long s h) = sized s h
left-phase f k w (short s h) = early s h

phase-left : (f : List ℕ) (k : ℕ) (w : World) → Phase f k w → Left f (suc k) w
phase-left f k w (settled d) = over d
phase-left f k w (synced s l e h) = long s (omega arith)
phase-left f k w (sized s h) = long s (omega arith)
phase-left f k w (early s h) = short s (omega arith)

left-any : (n : ℕ) (f : List ℕ) (k : ℕ) (w : World) → Good n f w → parts f + 1 ≤ k → Left f k w
left-any n f k w g h = go g.received.size
  where
    go : (w.receiver.size ≡ 0) ⊎ (w.receiver.size ≡ length f + 1) → Left f k w
    go (inl e) =
        let a = gaps-most (λ (j : ℕ). empty_of (slot_at w.receiver j)) w.sender.place in
        let b = g.sends.place in
        short e (omega arith)
    go (inr e) = let a = gaps-most (λ (j : ℕ). empty_of (slot_at w.receiver j)) (parts f) in long e (omega arith)

-- ---- a pair of rounds
left-pair : (n : ℕ) (f : List ℕ) (k : ℕ) (w x v : World) → Good n f w → Left f (suc k) w → Turn n f w x → Turn n f x v → Left f k v
left-pair n f zero w x v g l s t = over (turn-done n f x v t (phase-over f x (phase-turn n f 0 w x g (left-phase f 1 w l) s)))
left-pair n f (suc k) w x v g l s t =
    phase-left f k v (phase-turn n f k x v s.good (phase-turn n f (suc k) w x g (left-phase f (suc (suc k)) w l) s) t)

-- ---- what lies between takes nothing away
-- slots that are filled stay so
pub honest-fills :
    (n : ℕ) (f : List ℕ) (v : Receiver) {h : Heard} → length f ≤ 214000 → Received n f v → Honest (Sent n f) n h → (k : ℕ) → empty_of (slot_at v k) ≡ false →
    empty_of (slot_at (hears h v) k) ≡ false
honest-fills n f v b r silent k o = ap (λ (u : Receiver). empty_of (slot_at u k)) (hears-lost v) ∙ o
honest-fills n f v b r (sent p s) k o = hears-keeps-filled n f v p b r s k o
honest-fills n f v b r (other p c) k o = ap (λ (u : Receiver). empty_of (slot_at u k)) (hears-foreign p v (λ e. c (e ∙ r.file))) ∙ o

pub honest-less :
    (n : ℕ) (f : List ℕ) (v : Receiver) {h : Heard} → length f ≤ 214000 → Received n f v → Honest (Sent n f) n h → (j : ℕ) → gaps_in (hears h v) j ≤ gaps_in v j
honest-less n f v {h = h} b r o j =
    gaps-less (λ (i : ℕ). empty_of (slot_at v i)) (λ (i : ℕ). empty_of (slot_at (hears h v) i)) j (λ k l e. honest-fills n f v {h = h} b r o k e)

-- a sender that is done stays so
told-stays-done :
    (n : ℕ) (f : List ℕ) (v : Receiver) (s : Sender) {h : Heard} → Sends n f s → Honest (Back n f v) n h → T s.done → T (told h s).done
told-stays-done n f v s b silent d = subst (λ (t : Sender). T t.done) (sym (told-lost s)) d
told-stays-done n f v s b (sent p (inl (i, l, e))) d =
    subst (λ (t : Sender). T t.done) (sym (ap (λ (q : List ℕ). told (Got q) s) e ∙ told-file-ask n f s i b l)) d
told-stays-done n f v s b (sent p (inr (e, a))) d =
    subst (λ (t : Sender). T t.done) (sym (ap (λ (q : List ℕ). told (Got q) s) e ∙ told-file-done n f s b)) tt
told-stays-done n f v s b (other p o) d = subst (λ (t : Sender). T t.done) (sym (told-foreign p s (λ e. o (e ∙ b.file)))) d

-- gaps further on
gaps-rest : (e : ℕ → Bool) (k d : ℕ) → gaps e (k + d) ≤ d + gaps e k
gaps-rest e k zero = let q : gaps e (k + 0) ≡ gaps e k = ap (λ (j : ℕ). gaps e j) (omega arith) in omega arith
gaps-rest e k (suc d) =
    let q : gaps e (k + suc d) ≡ gaps e (suc (k + d)) = ap (λ (j : ℕ). gaps e j) (omega arith) in
    let r = gaps-next e (k + d) in
    let s = gaps-rest e k d in
    omega arith

gaps-all : (e : ℕ → Bool) (k n : ℕ) → k ≤ n → gaps e n ≤ (n - k) + gaps e k
gaps-all e k n h =
    let q : gaps e (k + (n - k)) ≡ gaps e n = ap (λ (j : ℕ). gaps e j) (omega arith) in
    let r = gaps-rest e k (n - k) in
    omega arith

left-says : (n : ℕ) (f : List ℕ) (k : ℕ) (w : World) → Good n f w → Left f k w → Left f k (step Says w)
left-says n f k w g (over d) = over (subst (λ (b : Bool). T b) (sym (after-sends n f w.sender g.sends).done) d)
left-says n f k w g (long s h) = long s h
left-says n f k w g (short s h) = go (cases_lt w.sender.place (parts f))
  where
    go : (w.sender.place < parts f) ⊎ (parts f ≤ w.sender.place) → Left f k (step Says w)
    go (inl l) =
        let e : (after_saying w.sender).place ≡ suc w.sender.place =
        (let q = ap (λ (t : Sender). t.place) (after-file-part n f w.sender g.sends l) in omega arith) in
        let a = ap (λ (j : ℕ). gaps_of w j) e in
        let b = gaps-next (λ (j : ℕ). empty_of (slot_at w.receiver j)) w.sender.place in
        short s (omega arith)
    go (inr l) =
        let e : (after_saying w.sender).place ≡ w.sender.place = ap (λ (t : Sender). t.place) (after-file-end n f w.sender g.sends l) in
        let a = ap (λ (j : ℕ). gaps_of w j) e in
        short s (omega arith)

left-answers : (f : List ℕ) (k : ℕ) (w : World) → Left f k w → Left f k (step Asks w)
left-answers f k w (over d) = over d
left-answers f k w (long s h) = long s h
left-answers f k w (short s h) = short s h

left-hears :
    (n : ℕ) (f : List ℕ) (k : ℕ) (w : World) (h : Heard) → length f ≤ 214000 → Good n f w → Good n f (step (Down h) w) → Honest (Sent n f) n h → Left f k w →
    Left f k (step (Down h) w)
left-hears n f k w h b g q o (over d) = over d
left-hears n f k w h b g q o (long s l) =
    let a = honest-less n f w.receiver {h = h} b g.received o (parts f) in
    long (size-stays n f w.receiver {h = h} b g.received o s) (omega arith)
left-hears n f k w h b g q o (short s l) = go q.received.size
  where
    v : Receiver
    v = hears h w.receiver

    go : (v.size ≡ 0) ⊎ (v.size ≡ length f + 1) → Left f k (step (Down h) w)
    go (inl e) = let a = honest-less n f w.receiver {h = h} b g.received o w.sender.place in short e (omega arith)
    go (inr e) =
        let a = honest-less n f w.receiver {h = h} b g.received o w.sender.place in
        let c = gaps-all (λ (j : ℕ). empty_of (slot_at v j)) w.sender.place (parts f) g.sends.place in
        long e (omega arith)

left-told :
    (n : ℕ) (f : List ℕ) (k : ℕ) (w : World) (h : Heard) → length f ≤ 214000 → Run n f true w → fair n h w.up ≡ true → Left f k w → Left f k (step (Up h) w)
left-told n f k w h b r e (over d) =
    let g = run-good n f b r refl in
    over (told-stays-done n f w.receiver w.sender {h = h} g.sends (honest (Back n f w.receiver) n h w.up g.up e) d)
left-told n f k w h b r e (long s l) = long s l
left-told n f k w h b r e (short s l) =
    let q : (told h w.sender).place ≡ w.sender.place =
    ap (λ (t : Sender). t.place) (quiet_told n f w h (run-good n f b r refl) (run-fresh n f b r refl s) e) in
    let a = ap (λ (j : ℕ). gaps_of w j) q in
    short s (omega arith)

-- ---- the whole evening
meanwhile-run : (n : ℕ) (f : List ℕ) {w v : World} → Run n f true w → Meanwhile n w v → Run n f true v
meanwhile-run n f r nothing = r
meanwhile-run n f r (spoke t) = world.spoke (meanwhile-run n f r t)
meanwhile-run n f r (replied t) = world.replied (meanwhile-run n f r t)
meanwhile-run n f r (below {v = v} t h o) = run-below (meanwhile-run n f r t) h (is_true (fair n h v.down) o)
meanwhile-run n f r (above {v = v} t h o) = run-above (meanwhile-run n f r t) h (is_true (fair n h v.up) o)

meanwhile-left : (n : ℕ) (f : List ℕ) (k : ℕ) {w v : World} → length f ≤ 214000 → Run n f true w → Meanwhile n w v → Left f k w → Left f k v
meanwhile-left n f k b r nothing l = l
meanwhile-left n f k b r (spoke {v = v} t) l =
    left-says n f k v (run-good n f b (meanwhile-run n f r t) refl) (meanwhile-left n f k b r t l)
meanwhile-left n f k b r (replied {v = v} t) l = left-answers f k v (meanwhile-left n f k b r t l)
meanwhile-left n f k b r (below {v = v} t h o) l =
    let q = meanwhile-run n f r t in
    let g = run-good n f b q refl in
    let e = is_true (fair n h v.down) o in
    left-hears n f k v h b g (run-good n f b (run-below q h e) refl) (honest (Sent n f) n h v.down g.down e) (meanwhile-left n f k b r t l)
meanwhile-left n f k b r (above {v = v} t h o) l =
    left-told n f k v h b (meanwhile-run n f r t) (is_true (fair n h v.up) o) (meanwhile-left n f k b r t l)

module _ (C : List ℕ → Heard → Type 0) (x : Faithful C) (n : ℕ) (f : List ℕ) (m : n < 256) (i : IsFile f) where
  pub evening-run : {w v : World} {k : ℕ} → Run n f true w → Evening C n w k v → Run n f true v
  evening-run r dusk = r
  evening-run r (spell s t) = meanwhile-run n f (evening-run r s) t
  evening-run r (pair s a b) = then-run C x n f m i (then-run C x n f m i (evening-run r s) (round-then C a)) (round-then C b)

  evening-left : {w v : World} {k : ℕ} → Run n f true w → Evening C n w k v → (j : ℕ) → Left f (k + j) w → Left f j v
  evening-left {w = w} r dusk j l = let e : 0 + j ≡ j = omega arith in subst (λ (a : ℕ). Left f a w) e l
  evening-left r (spell s t) j l = meanwhile-left n f j i.0 (evening-run r s) t (evening-left r s j l)
  evening-left {w = w} r (pair {k = k} {v = v} {x = y} {u = u} s a b) j l =
      let e : suc k + j ≡ k + suc j = omega arith in
      let q = evening-left r s (suc j) (subst (λ (c : ℕ). Left f c w) e l) in
      let g = run-good n f i.0 (evening-run r s) refl in
      let t = round-moves C x n f m i g a in
      left-pair n f j v y u g q t (round-moves C x n f m i t.good b)

  pub evening-ends : (w v : World) (k : ℕ) → Run n f true w → parts f + 1 ≤ k → Evening C n w k v → Arrived f v
  evening-ends w v k r h s =
      let q = evening-left r s 0 (left-any n f (k + 0) w (run-good n f i.0 r refl) (omega arith)) in
      all-arrived n f v i.0 (run-good n f i.0 (evening-run r s) refl) (phase-over f v (left-phase f 0 v q))
