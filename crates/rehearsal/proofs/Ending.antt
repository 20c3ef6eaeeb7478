-- Frames with at most four bits wrong come through, so enough rounds of them end a rehearsal. Assumes nothing.
use Rattle.std.proofs.Common.{◌≡◌, ℕ, ◌<◌, Bool, true, false, cond, T, ltb, List, [], ◌∷◌, ◌++◌, Option, sym, refl, ◌∙◌, subst}
use Rattle.bits.specs.Heard.{Heard, Lost, Got}
use Rattle.frame_theory.specs.Frame.{frame, Hears}
use Rattle.transfer_theory.specs.Parts.{IsFile}
use Rattle.transfer_theory.specs.Sender.{new_sender}
use Rattle.transfer_theory.specs.Receiver.{new_receiver, hears, answers, complete, handed}
use Rattle.transfer_theory.specs.World.{Run, begins, start}
use Rattle.transfer_theory.specs.Onward.{IsPayload}
use Rattle.transfer_theory.proofs.Slots.{is_true}
use Rattle.transfer_theory.proofs.Following.{says-payloads}
use Rattle.driver.specs.Log.{Exchange, Spoken, sender_by, receiver_by, clean, world_by, Through, AllThrough}
use Rattle.driver.specs.Played.{Reached, Sayable}
use Rattle.driver.proofs.Worlds.{log-run, rest-spoken}
use Rattle.driver.proofs.InARow.{earlier-spoken, earlier-clean}
use Rattle.link.proofs.Whole.{main}
use Rattle.rehearsal.specs.declared.noisy.Noisy.{Noisy}
use Rattle.rehearsal.specs.Noisy.{HeardIn, Crosses, new_line, line_by, Crossed}
use Rattle.rehearsal.specs.Rehearsed.{Table}
use Rattle.rehearsal.specs.Laws.{Fine, FineRounds, EndsInTime, HandsOver, RehearsalRight}
use Rattle.rehearsal.proofs.Arriving.{arrived-bits, arrived-long}
use Rattle.rehearsal.proofs.Folded.{repeatable}

-- what arrives with at most four bits wrong is heard as what was said
fine-heard : (p s : ℕ) (said h : Heard) → Sayable said → Crosses p s said h → Fine p s said → h ≡ said
fine-heard p s Lost h i c f = c
fine-heard p s (Got q) h i c (there, e, d) =
    let whole = main.frames.whole q i in
    let heard : Hears there h = subst (λ (o : Option (List ℕ)). HeardIn o h) e c in
    let bits = arrived-bits p s (frame q) there whole.1 e in
    let long = arrived-long p s (frame q) there e ∙ whole.0 in
    main.frames.one_thing there h (Got q) heard (main.frames.four_bits q there i (long, bits) d)

-- a log in which nothing false was heard, from the start of a file
abbrev Fair : ℕ → List ℕ → List Exchange → Type 0
Fair n f log = Spoken (new_sender n f) (new_receiver n) log × (clean n [] [] log ≡ true)

fair-run : (n : ℕ) (f : List ℕ) (log : List Exchange) → Fair n f log → Run n f true (world_by (start n f) log)
fair-run n f log (o, c) = subst (λ (b : Bool). Run n f b (world_by (start n f) log)) c (log-run n f true (start n f) log o begins)

fair-rest : (n : ℕ) (f : List ℕ) (x : Exchange) (log : List Exchange) → Fair n f (x ∷ log) → Fair n f log
fair-rest n f x log (o, c) = (rest-spoken (new_sender n f) (new_receiver n) x log o, earlier-clean n [] [] (x ∷ []) log c)

-- an answer is a payload, or nothing
reply-sayable : (b : Bool) (p : List ℕ) → (T b → IsPayload p) → Sayable (cond b (Got p) Lost)
reply-sayable true p i = i tt
reply-sayable false p i = tt

-- a round with at most four bits wrong each way came through
fine-through :
    (n : ℕ) (f : List ℕ) (l : Noisy) (x : Exchange) (log : List Exchange) → n < 256 → IsFile f → Fair n f (x ∷ log) → Crossed l (x ∷ log) →
    Fine (line_by l log).p (line_by l log).forth.state (Got x.forth) → Fine (line_by l log).p (line_by l log).back.state x.back → Through x
unfolding Spoken Crossed sender_by receiver_by
fine-through n f l x log m i ((forth, back, rest), c) (d, u, more) a b =
    let before = says-payloads n f m i (world_by (start n f) log) (fair-run n f log (fair-rest n f x log ((forth, back, rest), c))) in
    let after = says-payloads n f m i (world_by (start n f) (x ∷ log)) (fair-run n f (x ∷ log) ((forth, back, rest), c)) in
    let v = hears x.below (receiver_by (new_receiver n) log) in
    let said : IsPayload x.forth = subst (λ (p : List ℕ). IsPayload p) (sym forth) before.0 in
    let answered : Sayable x.back = subst (λ (h : Heard). Sayable h) (sym back) (reply-sayable (ltb 0 v.size) (answers v) after.1) in (
      fine-heard (line_by l log).p (line_by l log).forth.state (Got x.forth) x.below said d a,
      fine-heard (line_by l log).p (line_by l log).back.state x.back x.above answered u b,
    )

rest-crossed : (l : Noisy) (later log : List Exchange) → Crossed l (later ++ log) → Crossed l log
unfolding Crossed
rest-crossed l [] log c = c
rest-crossed l (x ∷ later) log (d, u, c) = rest-crossed l later log c

all-through :
    (n : ℕ) (f : List ℕ) (l : Noisy) (middle earlier : List Exchange) → n < 256 → IsFile f → Fair n f (middle ++ earlier) →
    Crossed l (middle ++ earlier) → FineRounds l middle earlier → AllThrough middle
unfolding AllThrough FineRounds
all-through n f l [] earlier m i o c g = tt
all-through n f l (x ∷ middle) earlier m i o c (a, b, g) = (
  fine-through n f l x (middle ++ earlier) m i o c a b,
  all-through n f l middle earlier m i (fair-rest n f x (middle ++ earlier) o) (rest-crossed l (x ∷ []) (middle ++ earlier) c) g,
)

-- ---- the laws
reached : (n : ℕ) (f : List ℕ) → n < 256 → IsFile f → Reached n f (new_sender n f) (new_receiver n) (start n f)
reached n f m i = record { number = m; file = i; run = begins; sender = refl; receiver = refl }

hands-over : HandsOver
hands-over n f seed p w r m i c =
    let k = r.promised.file n f (start n f) (reached n f m i) c in
    subst (λ (y : Table). (T (complete y.receiver) → handed y.receiver ≡ f) × (T y.sender.done → T (complete y.receiver))) (sym r.table) (k.1, k.2)

ends-in-time : EndsInTime
ends-in-time n f seed p w r m i c later middle earlier e g h =
    let k = r.promised.ends n f (start n f) (reached n f m i) c later middle earlier e through h in
    subst (λ (y : Table). T (complete y.receiver) × (handed y.receiver ≡ f) × T y.sender.done) (sym r.table) (k.complete, k.handed, k.done)
  where
    whole : Fair n f (later ++ (middle ++ earlier))
    whole = subst (λ (log : List Exchange). Fair n f log) e (r.spoken, is_true (clean n [] [] r.log) c)

    crossed : Crossed (new_line seed p) (later ++ (middle ++ earlier))
    crossed = subst (λ (log : List Exchange). Crossed (new_line seed p) log) e r.crossed

    most : Fair n f (middle ++ earlier)
    most =
        (earlier-spoken (new_sender n f) (new_receiver n) later (middle ++ earlier) whole.0, earlier-clean n [] [] later (middle ++ earlier) whole.1)

    through : AllThrough middle
    through = all-through n f (new_line seed p) middle earlier m i most (rest-crossed (new_line seed p) later (middle ++ earlier) crossed) g

pub rehearsal_right : RehearsalRight
rehearsal_right = record { repeatable = repeatable; hands_over = hands-over; ends = ends-in-time }
