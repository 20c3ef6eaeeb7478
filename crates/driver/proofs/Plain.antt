-- Rounds over a line that keeps to one without a state are rounds over that one. Assumes nothing.
use Rattle.std.proofs.Common.{◌≡◌, ℕ, suc, Bool, true, false, List, ◌∷◌, length, Some, None, Option, sym, refl, ap, ◌∙◌, subst, inl, inr}
use Rattle.std.specs.Bool.{then_some}
use Rattle.bits.specs.Heard.{Heard, Lost, Got}
use Rattle.transfer_theory.specs.Sender.{Sender}
use Rattle.transfer_theory.specs.Receiver.{Receiver, complete}
use Rattle.transfer_theory.specs.World.{World, begins, start}
use Rattle.driver.specs.Log.{Exchange, Carried, silent, round, Spoken, sender_by, receiver_by, said_down, said_up, world_by, first_complete, noted}
use Rattle.driver.specs.Played.{Played, Sayable, Enough}
use Rattle.driver.specs.Driving.{PlainExchange, PlainLog, begun, still, first, later, PlainPlayed, EndsInRun, FaithfulLine, PlainEnough, Keeps, Brought, PlainRight}
use Rattle.driver.proofs.Worlds.{turn_is, rest-spoken, spoken-in, runs_on}

-- ---- the log
log-more :
    (C : Heard → Heard → Type 0) (w : World) (k : ℕ) (j : Option ℕ) (x y : World) → PlainLog C w k j x → PlainExchange C x y →
    PlainLog C w (suc k) (noted j (suc k) (complete y.receiver)) y
log-more C w k (Some j) x y l r = later l r
log-more C w k None x y l r = go (complete y.receiver) refl
  where
    go : (b : Bool) → complete y.receiver ≡ b → PlainLog C w (suc k) (then_some b (suc k)) y
    go true e = first l r e
    go false e = still l r e

-- a round more
exchanged :
    {L : Type 0} (C : Heard → Heard → Type 0) (F B : L → Heard → Heard → L → Type 0) → Keeps C F B → (w : World) (x : Exchange) (log : List Exchange) (m k o : L) →
    Spoken w.sender w.receiver (x ∷ log) → F m (Got x.forth) x.below k → B k x.back x.above o → PlainExchange C (world_by w log) (world_by w (x ∷ log))
unfolding Spoken receiver_by
exchanged C F B keeps w x log m k o (forth, back, rest) d u =
    record {
      below = x.below;
      above = x.above;
      down = subst (λ (p : List ℕ). C (Got p) x.below) forth (keeps.forth m k (Got x.forth) x.below d);
      up = subst (λ (h : Heard). C h x.above) back (keeps.back k o x.back x.above u);
      is = sym (turn_is w x log (forth, back, rest));
    }

plain-log :
    {L : Type 0} (C : Heard → Heard → Type 0) (F B : L → Heard → Heard → L → Type 0) → Keeps C F B → (w : World) (l : L) {log : List Exchange} {m : L} →
    Carried F B l log m → Spoken w.sender w.receiver log → PlainLog C w (length log) (first_complete w.receiver log) (world_by w log)
unfolding sender_by receiver_by said_down said_up first_complete
plain-log C F B keeps w l silent o = begun
plain-log C F B keeps w l (round {log = log} {m = m} {k = k} {o = e} c x d u) o =
    log-more C w (length log) (first_complete w.receiver log) (world_by w log) (world_by w (x ∷ log))
    (plain-log C F B keeps w l c (rest-spoken w.sender w.receiver x log o)) (exchanged C F B keeps w x log m k e o d u)

-- ---- what was promised of rounds over a line without a state
pub played-plain :
    {L : Type 0} {C : Heard → Heard → Type 0} {F B : L → Heard → Heard → L → Type 0} {l m : L} {s t : Sender} {v u : Receiver} {k : ℕ} {j : Option ℕ} →
    Keeps C F B → Played F B l m s t v u k j → PlainPlayed C s v k j t u
played-plain {C = C} {F = F} {B = B} {l = l} {s = s} {v = v} {k = k} keeps p w e q = (
  world_by w p.log,
  subst (λ (i : Option ℕ). PlainLog C w k i (world_by w p.log)) (ap (λ (a : Receiver). first_complete a p.log) q ∙ sym p.first)
      (subst (λ (i : ℕ). PlainLog C w i (first_complete w.receiver p.log) (world_by w p.log)) (sym p.rounds)
      (plain-log C F B keeps w l p.carried (spoken-in s v w p.log e q p.spoken))),
  ap (λ (a : Sender). sender_by a p.log) e ∙ sym p.sender,
  ap (λ (a : Receiver). receiver_by a p.log) q ∙ sym p.receiver,
)

pub played-run :
    {L : Type 0} {F B : L → Heard → Heard → L → Type 0} {l m : L} {s t : Sender} {v u : Receiver} {k : ℕ} {j : Option ℕ} →
    Played F B l m s t v u k j → EndsInRun s v t u
played-run {s = s} {v = v} p n f e q =
    let w = start n f in (
      _,
      world_by w p.log,
      runs_on s v p.log p.spoken n f true w begins (sym e) (sym q),
      ap (λ (a : Sender). sender_by a p.log) (sym e) ∙ sym p.sender,
      ap (λ (a : Receiver). receiver_by a p.log) (sym q) ∙ sym p.receiver,
    )

-- what a line without a state brings as itself, so does a line that keeps to it
heard-as-said : (C : Heard → Heard → Type 0) → FaithfulLine C → (s h : Heard) → Sayable s → C s h → h ≡ s
heard-as-said C (faithful, quiet) Lost h i c = quiet h c
heard-as-said C (faithful, quiet) (Got p) h i c = faithful p h i c

pub enough-plain :
    {L : Type 0} {C : Heard → Heard → Type 0} {F B : L → Heard → Heard → L → Type 0} → Keeps C F B → (s : Sender) (v : Receiver) (budget : ℕ) (d : Bool) →
    Enough F B s v budget d → PlainEnough C s v budget d
enough-plain {C = C} keeps s v budget d enough faithful n f small file e q l =
    enough (λ a b x h i c. heard-as-said C faithful x h i (keeps.forth a b x h c)) (λ a b x h i c. heard-as-said C faithful x h i (keeps.back a b x h c)) n f (start n f)
    (record { number = small; file = file; run = begins; sender = sym e; receiver = sym q }) l

-- each line keeps to what it makes of what was said
pub keeps-brought : {L : Type 0} (F B : L → Heard → Heard → L → Type 0) → Keeps (Brought F B) F B
keeps-brought F B = record { forth = λ l m s h c. inl (l, m, c); back = λ l m s h c. inr (l, m, c) }

pub plain_right : {L : Type 0} (C : Heard → Heard → Type 0) (F B : L → Heard → Heard → L → Type 0) → PlainRight C F B
plain_right C F B = record { played = λ keeps l m s t v u k j p. played-plain keeps p; run = λ l m s t v u k j p. played-run p; enough = enough-plain }
