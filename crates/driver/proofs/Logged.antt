-- A round more in the driver's log, and what the log promises. Assumes nothing.
use Rattle.std.proofs.Common.{◌≡◌, ℕ, suc, Option, Some, None, is_some, IfSome, cond, ◌+◌, ◌<◌, ◌≤◌, Bool, true, false, not, ◌&&◌, T, ltb, List, [], ◌∷◌, length, sym, refl, ap, ◌∙◌, subst, inl, inr, arith}
use Rattle.std.proofs.lemmas.Bool.{cases_lt, lt-ltb, ltb-true, and_parts, not-true}
use Rattle.bits.specs.Heard.{Heard, Lost, Got, heard_of}
use Rattle.transfer_theory.specs.Parts.{parts}
use Rattle.transfer_theory.specs.Sender.{Sender, says, after_saying, told}
use Rattle.transfer_theory.specs.Receiver.{Receiver, hears, answers, complete}
use Rattle.transfer_theory.specs.World.{World}
use Rattle.transfer_theory.specs.Onward.{Faithful}
use Rattle.transfer_theory.specs.Rounds.{Rounds, none, more}
use Rattle.transfer_theory.proofs.Slots.{is_true}
use Rattle.transfer_theory.proofs.InStep.{lockstep}
use Rattle.driver.specs.Log.{Exchange, replies, ongoing, Carried, silent, round, Spoken, Ongoing, sender_by, receiver_by, said_down, said_up, world_by, first_complete, noted}
use Rattle.driver.specs.Played.{Played, PlayedOn, Turned, DriverRight, Brings, Enough}
use Rattle.driver.specs.Driving.{Brought, OfPayload}
use Rattle.driver.proofs.Worlds.{runs_on, rest-spoken, spoken-in}
use Rattle.driver.proofs.InARow.{Answered, exchange-round, keeps-file, ends-in-time}

-- ---- one round
-- a station's answer, or none, is what it replies
pub reply_is : (o : Option (List ℕ)) (v : Receiver) → is_some o ≡ ltb 0 v.size → IfSome o (λ p. p ≡ answers v) → heard_of o ≡ replies v
reply_is None v e a = ap (λ (b : Bool). cond b (Got (answers v)) Lost) e
reply_is (Some p) v e a = ap (λ (q : List ℕ). Got q) a ∙ ap (λ (b : Bool). cond b (Got (answers v)) Lost) e

-- nothing heard changes nothing
pub hears_nothing : (o : Option (List ℕ)) (v : Receiver) → o ≡ None → hears (heard_of o) v ≡ v
unfolding hears
hears_nothing o v e = ap (λ (p : Option (List ℕ)). hears (heard_of p) v) e

pub told_nothing : (o : Option (List ℕ)) (s : Sender) → o ≡ None → told (heard_of o) s ≡ s
unfolding told
told_nothing o s e = ap (λ (p : Option (List ℕ)). told (heard_of p) s) e

-- ---- the loop's test, b: the budget is not spent, and the ship is not done
pub going : {b : Bool} (k n : ℕ) (s : Sender) → b ≡ ongoing k n s → b ≡ true → (k < n) × (s.done ≡ false)
going k n s e t = let p = and_parts (ltb k n) (not s.done) (sym e ∙ t) in (ltb-true k n p.0, not-true s.done p.1)

over : (b d : Bool) → b ≡ true → (b && not d) ≡ false → d ≡ true
over true true l e = refl
over true false l e = sym e
over false d l e = absurd (subst (λ (t : Bool). T t) (sym l) tt)

-- no round more with budget left: the ship is done
pub ongoing-over : (k n : ℕ) (s : Sender) → ongoing k n s ≡ false → k < n → s.done ≡ true
ongoing-over k n s e l = over (ltb k n) s.done (lt-ltb k n l) e

-- ---- the log as it grows
pub played-none :
    {L : Type 0} (F B : L → Heard → Heard → L → Type 0) (l : L) (s : Sender) (v : Receiver) {k : ℕ} {j : Option ℕ} → k ≡ 0 → j ≡ None → Played F B l l s s v v k j
unfolding Spoken Ongoing sender_by receiver_by first_complete
played-none F B l s v e n =
    record { log = []; carried = silent; spoken = tt; ongoing = tt; sender = refl; receiver = refl; rounds = e; first = n }

pub played-more :
    {L : Type 0} {F B : L → Heard → Heard → L → Type 0} {l m o : L} {s a t : Sender} {v b u : Receiver} {k : ℕ} {j i : Option ℕ} {r : ℕ} →
    Played F B l m s a v b k j → a.done ≡ false → Turned F B m o a t b u → r ≡ k + 1 → i ≡ noted j r (complete u) → Played F B l o s t v u r i
unfolding Spoken Ongoing sender_by receiver_by first_complete
played-more {a = a} {v = v} {u = u} {j = j} {r = r} p d q e n =
    record {
      log = x ∷ p.log;
      carried = round p.carried x q.down q.up;
      spoken = (ap (λ (y : Sender). says y) p.sender, ap (λ (y : Receiver). replies y) now, p.spoken);
      ongoing = (ap (λ (y : Sender). y.done) (sym p.sender) ∙ d, p.ongoing);
      sender = q.sender ∙ ap (λ (y : Sender). told q.above (after_saying y)) p.sender;
      receiver = now;
      rounds = count;
      first =
          n ∙ ap (λ (y : Option ℕ). noted y r (complete u)) p.first ∙ ap (λ (y : ℕ). noted (first_complete v p.log) y (complete u)) count ∙
          ap (λ (y : Receiver). noted (first_complete v p.log) (suc (length p.log)) (complete y)) now;
    }
  where
    x : Exchange
    x = record { forth = says a; below = q.below; back = replies u; above = q.above }

    now : u ≡ hears q.below (receiver_by v p.log)
    now = q.receiver ∙ ap (λ (y : Receiver). hears q.below y) p.receiver

    count : r ≡ suc (length p.log)
    count = let z = p.rounds in omega arith

pub played-on :
    {L : Type 0} {F B : L → Heard → Heard → L → Type 0} {h m o : L} {c a t : Sender} {d b u : Receiver} {k : ℕ} {j i : Option ℕ} {r x : ℕ} {y : Option ℕ} →
    PlayedOn F B h m c a d b x y k j → a.done ≡ false → Turned F B m o a t b u → r ≡ k + 1 → i ≡ noted j r (complete u) → PlayedOn F B h o c t d u x y r i
played-on p e q z n l s v g = played-more (p l s v g) e q z n

-- ---- what it promises
pub promised : DriverRight
promised s v log o = record { run = runs_on s v log o; file = keeps-file s v log o; ends = ends-in-time s v log o }

-- ---- enough rounds over a line that brings what is said
either-faithful : {L : Type 0} (F B : L → Heard → Heard → L → Type 0) → Brings F → Brings B → Faithful (OfPayload (Brought F B))
either-faithful F B f b p h i (inl (l, m, c)) = f l m (Got p) h i c
either-faithful F B f b p h i (inr (l, m, c)) = b l m (Got p) h i c

answered :
    {L : Type 0} (F B : L → Heard → Heard → L → Type 0) → Brings B → (l m : L) (s h : Heard) → B l s h m → Answered (OfPayload (Brought F B)) s h
answered F B b l m Lost h c = b l m Lost h tt c
answered F B b l m (Got p) h c = inr (l, m, c)

carried-rounds :
    {L : Type 0} (F B : L → Heard → Heard → L → Type 0) → Brings B → (w : World) (l : L) {log : List Exchange} {m : L} → Carried F B l log m →
    Spoken w.sender w.receiver log → Rounds (OfPayload (Brought F B)) (world_by w []) (length log) (world_by w log)
carried-rounds F B b w l silent o = none
carried-rounds F B b w l (round {log = log} {m = m} {k = k} {o = e} c x d u) o =
    more (carried-rounds F B b w l c (rest-spoken w.sender w.receiver x log o))
    (exchange-round (OfPayload (Brought F B)) w x log o (inl (m, k, d)) (answered F B b k e x.back x.above u))

pub played-enough :
    {L : Type 0} {F B : L → Heard → Heard → L → Type 0} {l m : L} {s t : Sender} {v u : Receiver} {k : ℕ} {j : Option ℕ} {budget : ℕ} → Played F B l m s t v u k j →
    (k < budget → t.done ≡ true) → Enough F B s v budget t.done
unfolding sender_by receiver_by said_down said_up
played-enough {F = F} {B = B} {l = l} {s = s} {t = t} {v = v} {k = k} {budget = budget} p stopped f b n g w r h = elim (cases_lt k budget) [ inl a ↦ stopped a | inr a ↦ spent (let z = p.rounds in omega arith) ]
  where
    o : Spoken w.sender w.receiver p.log
    o = spoken-in s v w p.log r.sender r.receiver p.spoken

    spent : parts g + 1 ≤ length p.log → t.done ≡ true
    spent c =
        let q = carried-rounds F B b w l p.carried o in
        let a =
        (lockstep (OfPayload (Brought F B))).ends (either-faithful F B f b) n g r.number r.file w (world_by w p.log) (length p.log) r.run c q in
        ap (λ (y : Sender). y.done) (p.sender ∙ ap (λ (y : Sender). sender_by y p.log) (sym r.sender)) ∙
        is_true (sender_by w.sender p.log).done a.done
