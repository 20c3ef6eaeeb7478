-- What follows when frames that were sent come: it can come about, and there is always a way on; the same with bits beneath. Assumes nothing.
use Rattle.std.proofs.Common.{◌≡◌, ℕ, ◌<◌, ◌≤◌, Bool, true, ◌||◌, T, eqb, ltb, List, [], ◌∷◌, sym, refl, ap, ◌∙◌, subst, arith}
use Rattle.std.proofs.lemmas.Bool.{and_from, or_left, eq-eqb, ltb-true, cond-true}
use Rattle.bits.specs.Distance.{distance}
use Rattle.bits.proofs.Hamming.{distance_self}
use Rattle.bits.specs.Heard.{Heard, Got}
use Rattle.transfer_theory.specs.Parts.{IsFile}
use Rattle.transfer_theory.specs.Sender.{says}
use Rattle.transfer_theory.specs.Receiver.{answers}
use Rattle.transfer_theory.specs.World.{World, step, Says, Asks, Down, Up, same_bytes, is_in, foreign, fair, Run, RunBits}
use Rattle.transfer_theory.specs.World as world
use Rattle.transfer_theory.specs.Invariant.{Good}
use Rattle.transfer_theory.specs.Onward.{IsPayload, Faithful, Carries, Arrived, Plays, arrived, forth, back, Then, here, spoke, replied, below, above, SaysPayloads, WayOn, Onward, Whole, WholeLine, Comes, Harmless, Framed, OnwardBits}
use Rattle.transfer_theory.proofs.Slots.{is_true, holds}
use Rattle.transfer_theory.proofs.Answering.{says-sent, answers-back}
use Rattle.transfer_theory.proofs.Safety.{run-good}
use Rattle.transfer_theory.proofs.Sizes.{sent-payload, back-payload}
use Rattle.transfer_theory.proofs.Strategy.{strategy-wins}

-- ---- what was said last is among what was said
same_self : (p : List ℕ) → same_bytes p p ≡ true
unfolding same_bytes
same_self [] = refl
same_self (x ∷ p) = and_from (eqb x x) (same_bytes p p) (eq-eqb x x refl) (same_self p)

pub in-here : (p : List ℕ) (ps : List (List ℕ)) → T (is_in p (p ∷ ps))
unfolding is_in
in-here p ps = holds (same_bytes p p || is_in p ps) (or_left (same_bytes p p) (is_in p ps) (same_self p))

pub in-answers : (w : World) → T (ltb 0 w.receiver.size) → T (is_in (answers w.receiver) (step Asks w).up)
in-answers w t =
    subst (λ (ps : List (List ℕ)). T (is_in (answers w.receiver) ps))
    (sym (cond-true (ltb 0 w.receiver.size) (answers w.receiver ∷ w.up) w.up (is_true (ltb 0 w.receiver.size) t))) (in-here (answers w.receiver) w.up)

-- ---- all that either side says is a payload
good-payloads :
    (n : ℕ) (f : List ℕ) → n < 256 → IsFile f → (w : World) → Good n f w →
    IsPayload (says w.sender) × (T (ltb 0 w.receiver.size) → IsPayload (answers w.receiver)) ×
    ((p : List ℕ) → T (is_in p w.down) → IsPayload p) × ((p : List ℕ) → T (is_in p w.up) → IsPayload p)
good-payloads n f m i w g = (
  sent-payload n f (says w.sender) m i (says-sent n f w.sender g.sends),
  (λ t. back-payload n f w.receiver (answers w.receiver) m i
      (answers-back n f w.receiver g.received (ltb-true 0 w.receiver.size (is_true (ltb 0 w.receiver.size) t)))),
  (λ p t. sent-payload n f p m i (g.down p t)),
  λ p t. back-payload n f w.receiver p m i (g.up p t),
)

pub says-payloads : SaysPayloads
says-payloads n f m i w r = good-payloads n f m i w (run-good n f i.0 r refl)

-- ---- what follows can come about
pub fair-in : (n : ℕ) (h : Heard) (p : List ℕ) (ps : List (List ℕ)) → h ≡ Got p → T (is_in p ps) → fair n h ps ≡ true
fair-in n h p ps e t =
    ap (λ (g : Heard). fair n g ps) e ∙ or_left (is_in p ps) (foreign n (Got p)) (is_true (is_in p ps) t)

pub run-below : {n : ℕ} {f : List ℕ} {w : World} → Run n f true w → (h : Heard) → fair n h w.down ≡ true → Run n f true (step (Down h) w)
run-below {n} {f} {w} r h e = subst (λ (b : Bool). Run n f b (step (Down h) w)) e (world.below r h)

pub run-above : {n : ℕ} {f : List ℕ} {w : World} → Run n f true w → (h : Heard) → fair n h w.up ≡ true → Run n f true (step (Up h) w)
run-above {n} {f} {w} r h e = subst (λ (b : Bool). Run n f b (step (Up h) w)) e (world.above r h)

pub then-run :
    (C : List ℕ → Heard → Type 0) → Faithful C → (n : ℕ) (f : List ℕ) → n < 256 → IsFile f → {w v : World} → Run n f true w → Then C w v → Run n f true v
then-run C x n f m i r here = r
then-run C x n f m i r (spoke t) = world.spoke (then-run C x n f m i r t)
then-run C x n f m i r (replied t) = world.replied (then-run C x n f m i r t)
then-run C x n f m i r (below {v = v} t p h o c) =
    let q = then-run C x n f m i r t in
    run-below q h (fair-in n h p v.down (x p h ((says-payloads n f m i v q).2 p o) c) o)
then-run C x n f m i r (above {v = v} t p h o c) =
    let q = then-run C x n f m i r t in
    run-above q h (fair-in n h p v.up (x p h ((says-payloads n f m i v q).3 p o) c) o)

-- ---- the strategy, played out
plays-on :
    (C : List ℕ → Heard → Type 0) → Faithful C → Carries C → (n : ℕ) (f : List ℕ) → n < 256 → IsFile f → {u : World} → Run n f true u →
    {k : ℕ} {w : World} → Plays C f k w → Then C u w → (v : World) × Then C u v × Arrived f v
plays-on C x o n f m i r {w = w} (arrived a) t = (w, t, a)
plays-on C x o n f m i r {w = w} (forth go) t =
    let s = says w.sender in
    let q = o s (says-payloads n f m i w (then-run C x n f m i r t)).0 in
    plays-on C x o n f m i r (go q.0 q.1) (below (spoke t) s q.0 (in-here s w.down) q.1)
plays-on C x o n f m i r {w = w} (back l go) t =
    let s = answers w.receiver in
    let q = o s ((says-payloads n f m i w (then-run C x n f m i r t)).1 l) in
    plays-on C x o n f m i r (go q.0 q.1) (above (replied t) s q.0 (in-answers w l) q.1)

pub way_on : (C : List ℕ → Heard → Type 0) → Faithful C → Carries C → WayOn C
way_on C x o n f m i w r = plays-on C x o n f m i r (strategy-wins C x n f m i w r) here

pub onward : (C : List ℕ → Heard → Type 0) → Onward C
onward C =
    record {
      wins = strategy-wins C;
      fair = λ x n f m i w v r t. then-run C x n f m i r t;
      exists = way_on C;
    }

pub whole-line : WholeLine
whole-line =
    record {
      faithful = λ p h q e. e;
      carries = λ p q. (Got p, refl);
      wins = strategy-wins Whole (λ p h q e. e);
      exists = way_on Whole (λ p h q e. e) (λ p q. (Got p, refl));
    }

-- ---- with bits beneath
module _ (Hears : List ℕ → Heard → Type 0) (frame : List ℕ → List ℕ) (bits e : ℕ) where
  comes-faithful : Harmless Hears frame bits e → Faithful (Comes Hears frame bits e)
  comes-faithful s p h q (r, l, b, d, c) = s.one r h (Got p) c (s.near p r q l b d)

  comes-carries : Harmless Hears frame bits e → Framed frame bits → Carries (Comes Hears frame bits e)
  comes-carries s w p q =
      let l = w p q in
      let d : distance (frame p) (frame p) ≤ e = omega (arith, distance_self (frame p)) in
      (Got p, (frame p, l.0, l.1, d, s.near p (frame p) q l.0 l.1 d))

  bits-run : (n : ℕ) (f : List ℕ) {c : Bool} {w : World} → RunBits Hears bits n f c w → Run n f c w
  bits-run n f world.RunBits.begins = world.begins
  bits-run n f (world.RunBits.spoke r) = world.spoke (bits-run n f r)
  bits-run n f (world.RunBits.replied r) = world.replied (bits-run n f r)
  bits-run n f (world.RunBits.below r b h l c) = world.below (bits-run n f r) h
  bits-run n f (world.RunBits.above r b h l c) = world.above (bits-run n f r) h

  then-bits :
      Harmless Hears frame bits e → (n : ℕ) (f : List ℕ) → n < 256 → IsFile f → {w v : World} → RunBits Hears bits n f true w →
      Then (Comes Hears frame bits e) w v → RunBits Hears bits n f true v
  then-bits s n f m i r here = r
  then-bits s n f m i r (spoke t) = world.RunBits.spoke (then-bits s n f m i r t)
  then-bits s n f m i r (replied t) = world.RunBits.replied (then-bits s n f m i r t)
  then-bits s n f m i r (below {v = v} t p h o c) =
      let q = then-bits s n f m i r t in
      let g : h ≡ Got p = comes-faithful s p h ((says-payloads n f m i v (bits-run n f q)).2 p o) c in
      subst (λ (k : Bool). RunBits Hears bits n f k (step (Down h) v)) (fair-in n h p v.down g o) (world.below q c.0 h c.1 c.4)
  then-bits s n f m i r (above {v = v} t p h o c) =
      let q = then-bits s n f m i r t in
      let g : h ≡ Got p = comes-faithful s p h ((says-payloads n f m i v (bits-run n f q)).3 p o) c in
      subst (λ (k : Bool). RunBits Hears bits n f k (step (Up h) v)) (fair-in n h p v.up g o) (world.above q c.0 h c.1 c.4)

pub onward-bits : (Hears : List ℕ → Heard → Type 0) (frame : List ℕ → List ℕ) (bits e : ℕ) → OnwardBits Hears frame bits e
onward-bits Hears frame bits e =
    record {
      faithful = comes-faithful Hears frame bits e;
      carries = comes-carries Hears frame bits e;
      wins = λ s. strategy-wins (Comes Hears frame bits e) (comes-faithful Hears frame bits e s);
      exists = λ s w. way_on (Comes Hears frame bits e) (comes-faithful Hears frame bits e s) (comes-carries Hears frame bits e s w);
      run = λ n f c w r. bits-run Hears frame bits e n f r;
      fair = λ s n f m i w v r t. then-bits Hears frame bits e s n f m i r t;
    }
