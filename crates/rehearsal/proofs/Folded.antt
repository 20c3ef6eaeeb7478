-- The line after rounds is what the log says, and the log is decided by the file, the seed, P and the count of rounds. Assumes nothing.
use Rattle.std.proofs.Common.{◌≡◌, ℕ, List, [], ◌∷◌, length, Some, None, Option, sym, refl, ap, ◌∙◌, subst, arith}
use Rattle.bits.specs.Heard.{Heard, Lost, Got}
use Rattle.frame_theory.specs.Frame.{frame}
use Rattle.text.specs.Noise.{arriving}
use Rattle.transfer_theory.specs.Sender.{Sender, new_sender, says}
use Rattle.transfer_theory.specs.Receiver.{Receiver, new_receiver, hears}
use Rattle.driver.specs.Log.{Exchange, replies, Carried, silent, round, Spoken, Ongoing, sender_by, receiver_by, first_complete}
use Rattle.driver.specs.Played.{Played, PlayedOn}
use Rattle.driver.proofs.Logged.{promised}
use Rattle.link.proofs.Whole.{main}
use Rattle.rehearsal.specs.declared.noisy.Noisy.{Noisy}
use Rattle.rehearsal.specs.Noisy.{HeardIn, Crosses, Forth, Back, went_forth, went_back, new_line, line_by, Crossed}
use Rattle.rehearsal.specs.Rehearsed.{Table, table_by, Rehearsed, GoesOn}
use Rattle.rehearsal.specs.Laws.{Repeatable}

-- ---- the line's own log, as a fold
pub record Fold (l : Noisy) (log : List Exchange) (m : Noisy) : Type 0 where
  pub line : m ≡ line_by l log
  pub crossed : Crossed l log

pub carried-fold : (l : Noisy) {log : List Exchange} {m : Noisy} → Carried Forth Back l log m → Fold l log m
unfolding line_by Crossed
carried-fold l silent = record { line = refl; crossed = tt }
carried-fold l (round {log = log} {m = m} {k = k} {o = o} c x f b) =
    let d = carried-fold l c in
    let e : k ≡ went_forth (line_by l log) (Got x.forth) x.below = f.1 ∙ ap (λ (y : Noisy). went_forth y (Got x.forth) x.below) d.line in
    record {
      line = b.1 ∙ ap (λ (y : Noisy). went_back y x.back x.above) e;
      crossed = (
        subst (λ (y : Noisy). Crosses y.p y.forth.state (Got x.forth) x.below) d.line f.0,
        subst (λ (y : Noisy). Crosses y.p y.back.state x.back x.above) e b.0,
        d.crossed,
      );
    }

-- and back again
pub fold-carried : (l : Noisy) (log : List Exchange) → Crossed l log → Carried Forth Back l log (line_by l log)
unfolding line_by Crossed
fold-carried l [] c = silent
fold-carried l (x ∷ log) (f, b, c) = round (fold-carried l log c) x (f, refl) (b, refl)

-- ---- a rehearsal goes on
-- a table of equal parts
table_of :
    {s t : Sender} {v u : Receiver} {l m : Noisy} {k j : ℕ} {i h : Option ℕ} → s ≡ t → v ≡ u → l ≡ m → k ≡ j → i ≡ h →
    ◌≡◌ {A = Table} (record { sender = s; receiver = v; line = l; rounds = k; first = i }) (record { sender = t; receiver = u; line = m; rounds = j; first = h })
table_of a b c d e = cc

-- nothing played yet
pub begun :
    {n : ℕ} {f : List ℕ} {seed p : ℕ} {w : Table} → w.sender ≡ new_sender n f → w.receiver ≡ new_receiver n → w.line ≡ new_line seed p →
    w.rounds ≡ 0 → w.first ≡ None → Rehearsed n f seed p w
unfolding Spoken Ongoing Crossed sender_by receiver_by line_by first_complete
begun {n = n} {f = f} {seed = seed} {p = p} {w = w} a b c d e =
    record {
      log = [];
      table = table_of a b c d e;
      spoken = tt;
      crossed = tt;
      ongoing = tt;
      promised = promised (new_sender n f) (new_receiver n) [] tt;
    }

played-of :
    (n : ℕ) (f : List ℕ) (seed p : ℕ) (w : Table) → Rehearsed n f seed p w →
    Played Forth Back (new_line seed p) w.line (new_sender n f) w.sender (new_receiver n) w.receiver w.rounds w.first
played-of n f seed p w r =
    record {
      log = r.log;
      carried =
          subst (λ (y : Table). Carried Forth Back (new_line seed p) r.log y.line) (sym r.table)
          (fold-carried (new_line seed p) r.log r.crossed);
      spoken = r.spoken;
      ongoing = r.ongoing;
      sender = ap (λ (y : Table). y.sender) r.table;
      receiver = ap (λ (y : Table). y.receiver) r.table;
      rounds = ap (λ (y : Table). y.rounds) r.table;
      first = ap (λ (y : Table). y.first) r.table;
    }

pub goes_on :
    {v w u : Table} → w ≡ v → PlayedOn Forth Back w.line u.line w.sender u.sender w.receiver u.receiver w.rounds w.first u.rounds u.first →
    GoesOn v u
goes_on {w = w} e on n f seed p a =
    let b = on (new_line seed p) (new_sender n f) (new_receiver n) (played-of n f seed p w (subst (λ (y : Table). Rehearsed n f seed p y) (sym e) a)) in
    let d = carried-fold (new_line seed p) b.carried in
    record {
      log = b.log;
      table = table_of b.sender b.receiver d.line b.rounds b.first;
      spoken = b.spoken;
      crossed = d.crossed;
      ongoing = b.ongoing;
      promised = promised (new_sender n f) (new_receiver n) b.log b.spoken;
    }

-- ---- what crosses is one thing
heard-once : (o : Option (List ℕ)) (h g : Heard) → HeardIn o h → HeardIn o g → h ≡ g
heard-once None h g a b = a ∙ sym b
heard-once (Some bits) h g a b = main.frames.one_thing bits h g a b

crosses-once : (p s : ℕ) (said h g : Heard) → Crosses p s said h → Crosses p s said g → h ≡ g
crosses-once p s Lost h g a b = a ∙ sym b
crosses-once p s (Got q) h g a b = heard-once (arriving p s (frame q)) h g a b

-- an exchange of equal parts
exchange_of :
    {p q : List ℕ} {a b c d e f : Heard} → p ≡ q → a ≡ b → c ≡ d → e ≡ f →
    ◌≡◌ {A = Exchange} (record { forth = p; below = a; back = c; above = e }) (record { forth = q; below = b; back = d; above = f })
exchange_of x y z w = cc

-- one round more, where what came before is the same
one_more :
    (s : Sender) (v : Receiver) (l : Noisy) (log : List Exchange) (x y : Exchange) → x.forth ≡ says (sender_by s log) → y.forth ≡ says (sender_by s log) →
    x.back ≡ replies (hears x.below (receiver_by v log)) → y.back ≡ replies (hears y.below (receiver_by v log)) →
    Crosses (line_by l log).p (line_by l log).forth.state (Got x.forth) x.below →
    Crosses (line_by l log).p (line_by l log).forth.state (Got y.forth) y.below →
    Crosses (line_by l log).p (line_by l log).back.state x.back x.above →
    Crosses (line_by l log).p (line_by l log).back.state y.back y.above → x ≡ y
one_more s v l log x y xf yf xb yb xd yd xu yu = exchange_of forth below back above
  where
    p : ℕ
    p = (line_by l log).p

    forth : x.forth ≡ y.forth
    forth = xf ∙ sym yf

    below : x.below ≡ y.below
    below =
        crosses-once p (line_by l log).forth.state (Got y.forth) x.below y.below
        (subst (λ (q : List ℕ). Crosses p (line_by l log).forth.state (Got q) x.below) forth xd) yd

    back : x.back ≡ y.back
    back = xb ∙ ap (λ (h : Heard). replies (hears h (receiver_by v log))) below ∙ sym yb

    above : x.above ≡ y.above
    above =
        crosses-once p (line_by l log).back.state y.back x.above y.above
        (subst (λ (h : Heard). Crosses p (line_by l log).back.state h x.above) back xu) yu

same_log :
    (s : Sender) (v : Receiver) (l : Noisy) (xs ys : List Exchange) → length xs ≡ length ys → Spoken s v xs → Spoken s v ys → Crossed l xs →
    Crossed l ys → xs ≡ ys
unfolding Spoken Crossed receiver_by
same_log s v l [] [] e a b c d = refl
same_log s v l [] (y ∷ ys) e a b c d = let z : ⊥ = omega arith in absurd z
same_log s v l (x ∷ xs) [] e a b c d = let z : ⊥ = omega arith in absurd z
same_log s v l (x ∷ xs) (y ∷ ys) e (xf, xb, a) (yf, yb, b) (xd, xu, c) (yd, yu, d) =
    let long : length xs ≡ length ys = omega arith in
    let i = sym (same_log s v l xs ys long a b c d) in
    let z =
    one_more s v l xs x y xf (yf ∙ ap (λ (zs : List Exchange). says (sender_by s zs)) i) xb
    (yb ∙ ap (λ (zs : List Exchange). replies (hears y.below (receiver_by v zs))) i) xd
    (subst (λ (zs : List Exchange). Crosses (line_by l zs).p (line_by l zs).forth.state (Got y.forth) y.below) i yd) xu
    (subst (λ (zs : List Exchange). Crosses (line_by l zs).p (line_by l zs).back.state y.back y.above) i yu) in
    ap (λ (q : Exchange). q ∷ xs) z ∙ ap (λ (zs : List Exchange). y ∷ zs) (sym i)

pub repeatable : Repeatable
repeatable n f seed p w u a b e =
    let long : length a.log ≡ length b.log = sym (ap (λ (y : Table). y.rounds) a.table) ∙ e ∙ ap (λ (y : Table). y.rounds) b.table in
    let same = same_log (new_sender n f) (new_receiver n) (new_line seed p) a.log b.log long a.spoken b.spoken a.crossed b.crossed in
    a.table ∙ ap (λ (log : List Exchange). table_by n f seed p log) same ∙ sym b.table
