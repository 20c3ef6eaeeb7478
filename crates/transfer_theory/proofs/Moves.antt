-- What one frame that comes does to both sides, forth and back: all that is said of ways on and of rounds uses these moves only. Assumes nothing.
use Rattle.std.proofs.Common.{◌≡◌, ℕ, ◌+◌, ◌<◌, ◌≤◌, T, ◌⊎◌, List, length, sym, refl, ap, ◌∙◌, subst, inl, inr, arith}
use Rattle.std.proofs.lemmas.Bool.{cases_lt}
use Rattle.bits.specs.Heard.{Heard, Got}
use Rattle.transfer_theory.specs.Parts.{IsFile, parts}
use Rattle.transfer_theory.specs.Sender.{Sender, says, told}
use Rattle.transfer_theory.specs.Receiver.{hears, answers, with_length}
use Rattle.transfer_theory.specs.World.{World, step, Says, Asks, Down, Up}
use Rattle.transfer_theory.specs.Invariant.{AllThere, Good}
use Rattle.transfer_theory.specs.Onward.{Faithful, Arrived}
use Rattle.transfer_theory.proofs.Slots.{holds}
use Rattle.transfer_theory.proofs.Receiving.{sent, Brought, part-comes, hears-file-end, all-complete, all-handed}
use Rattle.transfer_theory.proofs.Answering.{Asking, Telling, answer, answers-back, says-sent, says-file-part, says-file-end, after-file-part, after-file-end, told-file-ask, told-file-done}
use Rattle.transfer_theory.proofs.Safety.{good-says, good-answers, good-hears, good-told}
use Rattle.transfer_theory.proofs.Sizes.{sent-payload, back-payload}

-- ---- forth: the sender says, and the receiver hears it
pub record PartMove (n : ℕ) (f : List ℕ) (w v : World) : Type 0 where
  pub within : w.sender.place < parts f
  pub good : Good n f v
  pub place : v.sender.place ≡ w.sender.place + 1
  pub done : v.sender.done ≡ w.sender.done
  pub brought : Brought w.sender.place w.receiver v.receiver

pub record EndMove (n : ℕ) (f : List ℕ) (w v : World) : Type 0 where
  pub past : w.sender.place ≡ parts f
  pub good : Good n f v
  pub sender : v.sender ≡ w.sender
  pub receiver : v.receiver ≡ with_length (length f) w.receiver

abbrev pub forth_by : Heard → World → World
forth_by h w = step (Down h) (step Says w)

pub forth-good : (n : ℕ) (f : List ℕ) (w : World) → length f ≤ 214000 → Good n f w → Good n f (forth_by (Got (says w.sender)) w)
forth-good n f w b g =
    good-hears n f (step Says w) (Got (says w.sender)) b (good-says n f w g) (sent (says w.sender) (says-sent n f w.sender g.sends))

forth-whole :
    (n : ℕ) (f : List ℕ) (w : World) → length f ≤ 214000 → Good n f w →
    PartMove n f w (forth_by (Got (says w.sender)) w) ⊎ EndMove n f w (forth_by (Got (says w.sender)) w)
forth-whole n f w b g = go (cases_lt w.sender.place (parts f))
  where
    s : Sender
    s = w.sender

    go :
        (s.place < parts f) ⊎ (parts f ≤ s.place) →
        PartMove n f w (forth_by (Got (says w.sender)) w) ⊎ EndMove n f w (forth_by (Got (says w.sender)) w)
    go (inl h) =
        let a = after-file-part n f s g.sends h in
        inl (record {
          within = h;
          good = forth-good n f w b g;
          place = ap (λ (t : Sender). t.place) a;
          done = ap (λ (t : Sender). t.done) a;
          brought =
              subst (λ (p : List ℕ). Brought s.place w.receiver (hears (Got p) w.receiver)) (sym (says-file-part n f s g.sends h))
              (part-comes n f w.receiver s.place b h g.received).brought;
        })
    go (inr h) =
        let l = g.sends.place in
        inr (record {
          past = omega arith;
          good = forth-good n f w b g;
          sender = after-file-end n f s g.sends h;
          receiver =
              ap (λ (p : List ℕ). hears (Got p) w.receiver) (says-file-end n f s g.sends h) ∙ hears-file-end n f w.receiver g.received.file b;
        })

abbrev pub Forth : ℕ → List ℕ → World → World → Type 0
Forth n f w v = PartMove n f w v ⊎ EndMove n f w v

-- on a line that is faithful
pub forth-moves :
    (C : List ℕ → Heard → Type 0) → Faithful C → (n : ℕ) (f : List ℕ) → n < 256 → IsFile f → (w : World) (h : Heard) → Good n f w →
    C (says w.sender) h → Forth n f w (forth_by h w)
forth-moves C x n f m i w h g c =
    subst (λ (k : Heard). Forth n f w (forth_by k w)) (sym (x (says w.sender) h (sent-payload n f (says w.sender) m i (says-sent n f w.sender g.sends)) c))
    (forth-whole n f w i.0 g)

-- ---- back: the receiver, which has a length, answers, and the sender hears it
pub record DoneMove (n : ℕ) (f : List ℕ) (w v : World) : Type 0 where
  pub good : Good n f v
  pub receiver : v.receiver ≡ w.receiver
  pub all : AllThere f w.receiver
  pub done : T v.sender.done

pub record AskMove (n : ℕ) (f : List ℕ) (w v : World) : Type 0 where
  pub good : Good n f v
  pub receiver : v.receiver ≡ w.receiver
  pub gap : ℕ
  pub asking : Asking n f w.receiver gap
  pub place : v.sender.place ≡ gap
  pub done : v.sender.done ≡ w.sender.done

abbrev pub back_by : Heard → World → World
back_by h w = step (Up h) (step Asks w)

abbrev pub Backward : ℕ → List ℕ → World → World → Type 0
Backward n f w v = DoneMove n f w v ⊎ AskMove n f w v

pub back-good : (n : ℕ) (f : List ℕ) (w : World) → Good n f w → 0 < w.receiver.size → Good n f (back_by (Got (answers w.receiver)) w)
back-good n f w g l =
    good-told n f (step Asks w) (Got (answers w.receiver)) (good-answers n f w g)
    (sent (answers w.receiver) (answers-back n f w.receiver g.received l))

back_whole : (n : ℕ) (f : List ℕ) (w : World) → Good n f w → 0 < w.receiver.size → Backward n f w (back_by (Got (answers w.receiver)) w)
back_whole n f w g l = go (answer n f w.receiver g.received l)
  where
    s : Sender
    s = w.sender

    a : List ℕ
    a = answers w.receiver

    go : Telling n f w.receiver ⊎ ((i : ℕ) × Asking n f w.receiver i) → Backward n f w (back_by (Got a) w)
    go (inl t) =
        inl (record {
          good = back-good n f w g l;
          receiver = refl;
          all = t.all;
          done = subst (λ (r : Sender). T r.done) (sym (ap (λ (p : List ℕ). told (Got p) s) t.says ∙ told-file-done n f s g.sends)) tt;
        })
    go (inr (i, q)) =
        let e = ap (λ (p : List ℕ). told (Got p) s) q.says ∙ told-file-ask n f s i g.sends q.within in
        inr (record {
          good = back-good n f w g l;
          receiver = refl;
          gap = i;
          asking = q;
          place = ap (λ (r : Sender). r.place) e;
          done = ap (λ (r : Sender). r.done) e;
        })

pub back-moves :
    (C : List ℕ → Heard → Type 0) → Faithful C → (n : ℕ) (f : List ℕ) → n < 256 → IsFile f → (w : World) (h : Heard) → Good n f w →
    0 < w.receiver.size → C (answers w.receiver) h → Backward n f w (back_by h w)
back-moves C x n f m i w h g l c =
    subst (λ (k : Heard). Backward n f w (back_by k w))
    (sym (x (answers w.receiver) h (back-payload n f w.receiver (answers w.receiver) m i (answers-back n f w.receiver g.received l)) c))
    (back_whole n f w g l)

-- ---- the aim
pub all-arrived : (n : ℕ) (f : List ℕ) (w : World) → length f ≤ 214000 → Good n f w → T w.sender.done → Arrived f w
all-arrived n f w b g t =
    let a = g.done t in
    record { complete = holds _ (all-complete f w.receiver a); handed = all-handed n f w.receiver b g.received a; done = t }
