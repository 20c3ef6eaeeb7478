-- Rounds of a log that came through are rounds in a row: enough of them end it. Assumes nothing.
use Rattle.std.proofs.Common.{◌≡◌, ℕ, ◌+◌, Bool, true, false, cond, T, ltb, List, [], ◌∷◌, ◌++◌, length, sym, refl, ap, ◌∙◌, subst}
use Rattle.std.proofs.lemmas.Bool.{cond-false, and_parts}
use Rattle.bits.specs.Heard.{Heard, Lost, Got}
use Rattle.transfer_theory.specs.Sender.{Sender, says, after_saying, told, asks, tells_done, at_part, with_place, finished}
use Rattle.transfer_theory.specs.Payload.{number_of}
use Rattle.transfer_theory.specs.Receiver.{Receiver, hears, answers, complete}
use Rattle.transfer_theory.specs.World.{World, Run, step, Says, Asks, Down}
use Rattle.transfer_theory.specs.Onward.{Whole, Arrived}
use Rattle.transfer_theory.specs.Rounds.{Round, both, mute, Rounds, none, more}
use Rattle.transfer_theory.proofs.Slots.{is_true, holds}
use Rattle.transfer_theory.proofs.Safety.{file-right}
use Rattle.transfer_theory.proofs.Telling.{told-lost}
use Rattle.transfer_theory.proofs.Following.{whole-line}
use Rattle.transfer_theory.proofs.InStep.{lockstep}
use Rattle.driver.specs.Log.{Exchange, Spoken, sender_by, receiver_by, clean, world_by, AllThrough}
use Rattle.driver.specs.Played.{Reached, FileKept, KeepsFile, EndsInTime}
use Rattle.driver.specs.Driving.{turn}
use Rattle.driver.proofs.Worlds.{turn_is, log-run, rest-spoken, spoken-in}

-- what comes of an answer or nothing, on a line C
abbrev pub Answered : (List ℕ → Heard → Type 0) → Heard → Heard → Type 0
Answered C Lost h = h ≡ Lost
Answered C (Got p) h = C p h

-- no answer, and nothing heard above: nothing changes
mute-turn : (b : Heard) (w : World) → ltb 0 (hears b w.receiver).size ≡ false → turn b Lost w ≡ step (Down b) (step Says w)
mute-turn b w e =
    let x = step (Down b) (step Says w) in
    ap (λ (s : Sender). record { sender = s; receiver = x.receiver; down = x.down; up = (step Asks x).up }) (told-lost x.sender) ∙
    ap (λ (ps : List (List ℕ)). record { sender = x.sender; receiver = x.receiver; down = x.down; up = ps })
    (cond-false (ltb 0 x.receiver.size) (answers x.receiver ∷ x.up) x.up e)

-- a round more of a log, as a round
pub exchange-round :
    (C : List ℕ → Heard → Type 0) (w : World) (x : Exchange) (log : List Exchange) → Spoken w.sender w.receiver (x ∷ log) →
    C x.forth x.below → Answered C x.back x.above → Round C (world_by w log) (world_by w (x ∷ log))
unfolding Spoken receiver_by
exchange-round C w x log (forth, back, rest) d a =
    subst (λ (u : World). Round C (world_by w log) u) (turn_is w x log (forth, back, rest)) (go (ltb 0 v.size) refl back)
  where
    v : Receiver
    v = hears x.below (receiver_by w.receiver log)

    down : C (says (sender_by w.sender log)) x.below
    down = subst (λ (p : List ℕ). C p x.below) forth d

    go : (b : Bool) → ltb 0 v.size ≡ b → x.back ≡ cond b (Got (answers v)) Lost → Round C (world_by w log) (turn x.below x.above (world_by w log))
    go true e z = both x.below x.above down (holds (ltb 0 v.size) e) (subst (λ (s : Heard). Answered C s x.above) z a)
    go false e z =
        let q : x.above ≡ Lost = subst (λ (s : Heard). Answered C s x.above) z a in
        subst (λ (u : World). Round C (world_by w log) u)
        (sym (ap (λ (h : Heard). turn x.below h (world_by w log)) q ∙ mute-turn x.below (world_by w log) e)) (mute x.below down e)

-- ---- rounds that came through
answered-whole : (s h : Heard) → h ≡ s → Answered Whole s h
answered-whole Lost h e = e
answered-whole (Got p) h e = e

through-rounds :
    (w : World) (middle earlier : List Exchange) → Spoken w.sender w.receiver (middle ++ earlier) → AllThrough middle →
    Rounds Whole (world_by w earlier) (length middle) (world_by w (middle ++ earlier))
unfolding AllThrough
through-rounds w [] earlier o t = none
through-rounds w (x ∷ middle) earlier o ((d, a), t) =
    more (through-rounds w middle earlier (rest-spoken w.sender w.receiver x (middle ++ earlier) o) t)
    (exchange-round Whole w x (middle ++ earlier) o d (answered-whole x.back x.above a))

-- ---- the earlier part of a log
pub earlier-spoken : (s : Sender) (v : Receiver) (later log : List Exchange) → Spoken s v (later ++ log) → Spoken s v log
earlier-spoken s v [] log o = o
earlier-spoken s v (x ∷ later) log o = earlier-spoken s v later log (rest-spoken s v x (later ++ log) o)

pub earlier-clean : (n : ℕ) (ds us : List (List ℕ)) (later log : List Exchange) → clean n ds us (later ++ log) ≡ true → clean n ds us log ≡ true
unfolding clean
earlier-clean n ds us [] log c = c
earlier-clean n ds us (x ∷ later) log c = earlier-clean n ds us later log (and_parts (clean n ds us (later ++ log)) _ c).0

-- ---- done stays
told-keeps : (a b : Bool) (i : ℕ) (s : Sender) → T s.done → T (cond a (with_place i s) (cond b (finished s) s)).done
told-keeps true b i s t = t
told-keeps false true i s t = tt
told-keeps false false i s t = t

told-done : (h : Heard) (s : Sender) → T s.done → T (told h s).done
unfolding told
told-done Lost s t = t
told-done (Got p) s t = told-keeps (asks p s) (tells_done p s) (number_of p) s t

after-keeps : (b : Bool) (i : ℕ) (s : Sender) → T s.done → T (cond b (with_place i s) s).done
after-keeps true i s t = t
after-keeps false i s t = t

after-done : (s : Sender) → T s.done → T (after_saying s).done
unfolding after_saying
after-done s t = after-keeps (at_part s) (s.place + 1) s t

done-stays : (s : Sender) (later log : List Exchange) → T (sender_by s log).done → T (sender_by s (later ++ log)).done
unfolding sender_by
done-stays s [] log t = t
done-stays s (x ∷ later) log t =
    told-done x.above (after_saying (sender_by s (later ++ log))) (after-done (sender_by s (later ++ log)) (done-stays s later log t))

-- ---- the promises
clean_run :
    (n : ℕ) (f : List ℕ) (s : Sender) (v : Receiver) (w : World) (log : List Exchange) → Reached n f s v w → Spoken w.sender w.receiver log →
    clean n w.down w.up log ≡ true → Run n f true (world_by w log)
clean_run n f s v w log r o c = subst (λ (b : Bool). Run n f b (world_by w log)) c (log-run n f true w log o r.run)

pub keeps-file : (s : Sender) (v : Receiver) (log : List Exchange) → Spoken s v log → KeepsFile s v log
keeps-file s v log o n f w r c =
    let q = clean_run n f s v w log r (spoken-in s v w log r.sender r.receiver o) (is_true (clean n w.down w.up log) c) in
    let p = file-right n f r.number r.file (world_by w log) q in
    subst (λ (a : Sender). FileKept f (sender_by a log) (receiver_by v log)) r.sender
    (subst (λ (b : Receiver). FileKept f (sender_by w.sender log) (receiver_by b log)) r.receiver p)

pub ends-in-time : (s : Sender) (v : Receiver) (log : List Exchange) → Spoken s v log → EndsInTime s v log
ends-in-time s v log o n f w r c later middle earlier e t l =
    record { complete = done-complete; handed = p.1 done-complete; done = done }
  where
    spoken : Spoken w.sender w.receiver log
    spoken = spoken-in s v w log r.sender r.receiver o

    late : Spoken w.sender w.receiver (later ++ (middle ++ earlier))
    late = subst (λ (xs : List Exchange). Spoken w.sender w.receiver xs) e spoken

    most : Spoken w.sender w.receiver (middle ++ earlier)
    most = earlier-spoken w.sender w.receiver later (middle ++ earlier) late

    fair : clean n w.down w.up log ≡ true
    fair = is_true (clean n w.down w.up log) c

    fairly : clean n w.down w.up earlier ≡ true
    fairly =
        earlier-clean n w.down w.up middle earlier
        (earlier-clean n w.down w.up later (middle ++ earlier) (subst (λ (xs : List Exchange). clean n w.down w.up xs ≡ true) e fair))

    arrived : Arrived f (world_by w (middle ++ earlier))
    arrived =
        (lockstep Whole).ends whole-line.faithful n f r.number r.file (world_by w earlier) (world_by w (middle ++ earlier)) (length middle)
        (clean_run n f s v w earlier r (earlier-spoken w.sender w.receiver middle earlier most) fairly) l (through-rounds w middle earlier most t)

    done : T (sender_by w.sender log).done
    done = subst (λ (xs : List Exchange). T (sender_by w.sender xs).done) (sym e) (done-stays w.sender later (middle ++ earlier) arrived.done)

    p : FileKept f (sender_by w.sender log) (receiver_by w.receiver log)
    p = file-right n f r.number r.file (world_by w log) (clean_run n f s v w log r spoken fair)

    done-complete : T (complete (receiver_by w.receiver log))
    done-complete = p.2 done
