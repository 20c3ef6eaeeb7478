-- The world that a log leads to: a round more is four steps, and a log is a run with its mark. Assumes nothing.
use Rattle.std.proofs.Common.{◌≡◌, ℕ, Bool, true, false, cond, ◌&&◌, ltb, List, [], ◌∷◌, sym, refl, ap, ◌∙◌, subst}
use Rattle.std.proofs.Math.Bool.{and-true, and_assoc}
use Rattle.bits.specs.Heard.{Heard, Lost, Got}
use Rattle.transfer_theory.specs.Sender.{Sender, after_saying, told}
use Rattle.transfer_theory.specs.Receiver.{Receiver, hears, answers}
use Rattle.transfer_theory.specs.World.{World, Run, spoke, replied, below, above, step, Says, Asks, Down, fair}
use Rattle.driver.specs.Log.{Exchange, replies, with_answer, Spoken, sender_by, receiver_by, said_down, said_up, clean, world_by}
use Rattle.driver.specs.Played.{RunsOn}
use Rattle.driver.specs.Driving.{turn}

-- an answer, if there is one, is said
answer-said : (b : Bool) (p : List ℕ) (ps : List (List ℕ)) → cond b (p ∷ ps) ps ≡ with_answer (cond b (Got p) Lost) ps
answer-said true p ps = refl
answer-said false p ps = refl

up-said : (x : Exchange) (v : Receiver) (ps : List (List ℕ)) → x.back ≡ replies v → cond (ltb 0 v.size) (answers v ∷ ps) ps ≡ with_answer x.back ps
up-said x v ps e = answer-said (ltb 0 v.size) (answers v) ps ∙ ap (λ (s : Heard). with_answer s ps) (sym e)

pub turn_is :
    (w : World) (x : Exchange) (log : List Exchange) → Spoken w.sender w.receiver (x ∷ log) →
    turn x.below x.above (world_by w log) ≡ world_by w (x ∷ log)
unfolding sender_by receiver_by said_down said_up Spoken
turn_is w x log (forth, back, rest) =
    let s = told x.above (after_saying (sender_by w.sender log)) in
    let v = hears x.below (receiver_by w.receiver log) in
    let ps = cond (ltb 0 v.size) (answers v ∷ said_up w.up log) (said_up w.up log) in
    ap (λ (p : List ℕ). record { sender = s; receiver = v; down = p ∷ said_down w.down log; up = ps }) (sym forth) ∙
    ap (λ (us : List (List ℕ)). record { sender = s; receiver = v; down = x.forth ∷ said_down w.down log; up = us })
    (up-said x v (said_up w.up log) back)

-- ---- the run that a log is
-- the mark of one round more
mark-more :
    (n : ℕ) (c : Bool) (w : World) (x : Exchange) (log : List Exchange) → Spoken w.sender w.receiver (x ∷ log) →
    (((c && clean n w.down w.up log) && fair n x.below (step Says (world_by w log)).down) &&
    fair n x.above (step Asks (step (Down x.below) (step Says (world_by w log)))).up) ≡
    (c && clean n w.down w.up (x ∷ log))
unfolding sender_by receiver_by said_down said_up Spoken clean
mark-more n c w x log (forth, back, rest) =
    let d = said_down w.down log in
    let u = said_up w.up log in
    let v = hears x.below (receiver_by w.receiver log) in
    let k = c && clean n w.down w.up log in
    ap (λ (p : List ℕ). (k && fair n x.below (p ∷ d)) && fair n x.above (cond (ltb 0 v.size) (answers v ∷ u) u)) (sym forth) ∙
    ap (λ (us : List (List ℕ)). (k && fair n x.below (x.forth ∷ d)) && fair n x.above us) (up-said x v u back) ∙
    and_assoc k (fair n x.below (x.forth ∷ d)) (fair n x.above (with_answer x.back u)) ∙
    and_assoc c (clean n w.down w.up log) (fair n x.below (x.forth ∷ d) && fair n x.above (with_answer x.back u))

pub rest-spoken : (s : Sender) (v : Receiver) (x : Exchange) (log : List Exchange) → Spoken s v (x ∷ log) → Spoken s v log
unfolding Spoken
rest-spoken s v x log (forth, back, rest) = rest

pub log-run :
    (n : ℕ) (f : List ℕ) (c : Bool) (w : World) (log : List Exchange) → Spoken w.sender w.receiver log → Run n f c w →
    Run n f (c && clean n w.down w.up log) (world_by w log)
unfolding sender_by receiver_by said_down said_up clean
log-run n f c w [] o r = subst (λ (b : Bool). Run n f b w) (sym (and-true c)) r
log-run n f c w (x ∷ log) o r =
    let q = log-run n f c w log (rest-spoken w.sender w.receiver x log o) r in
    let v = world_by w log in
    let k = c && clean n w.down w.up log in
    let m = (k && fair n x.below (step Says v).down) && fair n x.above (step Asks (step (Down x.below) (step Says v))).up in
    let t : Run n f m (turn x.below x.above v) = above (replied (below (spoke q) x.below)) x.above in
    subst (λ (b : Bool). Run n f b (world_by w (x ∷ log))) (mark-more n c w x log o) (subst (λ (u : World). Run n f m u) (turn_is w x log o) t)

-- what was said by two sides is said by a world that has them
pub spoken-in : (s : Sender) (v : Receiver) (w : World) (log : List Exchange) → w.sender ≡ s → w.receiver ≡ v → Spoken s v log → Spoken w.sender w.receiver log
spoken-in s v w log e q o = subst (λ (t : Sender). Spoken t w.receiver log) (sym e) (subst (λ (u : Receiver). Spoken s u log) (sym q) o)

pub runs_on : (s : Sender) (v : Receiver) (log : List Exchange) → Spoken s v log → RunsOn s v log
runs_on s v log o n f c w r e q = log-run n f c w log (spoken-in s v w log e q o) r
