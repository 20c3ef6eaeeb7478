-- What is heard in a line is one thing, and all that is printed follows from it. Assumes nothing.
use Rattle.std.proofs.Common.{◌≡◌, ℕ, Bool, true, false, cond, T, List, [], ◌∷◌, is_some, Some, None, Option, sym, refl, ap, ◌∙◌, subst, true≢false}
use mathlib.Core.Bool.{false≢true}
use Rattle.bits.specs.Heard.{Heard}
use Rattle.link.proofs.Whole.{main}
use Rattle.text.specs.Lines.{Said, Nothing, Bits, Unknown, said}
use Rattle.transfer_theory.specs.Sender.{Sender, new_sender, after_saying, told}
use Rattle.transfer_theory.specs.Receiver.{Receiver, new_receiver, hears, complete, handed}
use Rattle.ends.specs.Hearing.{HeardOf, HeardIn}
use Rattle.ends.specs.Turns.{says_line, answer_line, Heeded, ShipTurn, due}
use Rattle.ends.specs.Transcripts.{done_line, refused_line, written, ShipPrints, ended, turned, finished, refused, ShipTranscript, StationPrints, silent, answered, declined, StationTranscript}
use Rattle.ends.specs.Laws.{EndsRight}

one_of : (s : Said) (h g : Heard) → HeardOf s h → HeardOf s g → h ≡ g
one_of Nothing h g a b = a ∙ sym b
one_of (Bits r) h g a b = main.frames.one_thing r h g a b
one_of Unknown h g a b = absurd a

one-thing : (line : List ℕ) (h g : Heard) → HeardIn line h → HeardIn line g → h ≡ g
one-thing line h g a b = one_of (said 4092 line) h g a b

ship-turn :
    (was is : Sender) (old new : List ℕ) (d : Bool) → ShipTurn was is old new d → (h : Heard) → HeardIn old h →
    (new ≡ says_line (told h was)) × (is ≡ after_saying (told h was)) × (d ≡ (told h was).done)
ship-turn was is old new d t h a =
    let heard = t.heard in
    let e : t.between ≡ told h was = heard.2 ∙ ap (λ (x : Heard). told x was) (one-thing old heard.0 h heard.1 a) in (
      t.said ∙ ap says_line e,
      t.after ∙ ap after_saying e,
      t.done ∙ ap (λ (s : Sender). s.done) e,
    )

station-turn : (was is : Receiver) (line : List ℕ) → Heeded line was is → (h : Heard) → HeardIn line h → is ≡ hears h was
station-turn was is line t h a = t.2 ∙ ap (λ (x : Heard). hears x was) (one-thing line t.0 h t.1 a)

some-none : (x : List ℕ) → Some x ≡ None → ⊥
some-none x e = true≢false (ap is_some e)

held : (b : Bool) (x : List ℕ) → T b → cond b (Some x) None ≡ None → ⊥
held true x t e = some-none x e
held false x t e = absurd t

in-time : (file : Option (List ℕ)) (v : Receiver) → T (complete v) → written file v ≡ None → ⊥
in-time (Some f) v t e = some-none f e
in-time None v t e = held (complete v) (handed v) t e

writes : (file : Option (List ℕ)) (v : Receiver) → written file v ≡ cond (due (is_some file) v) (Some (handed v)) file
writes (Some f) v = refl
writes None v = refl

known : (line : List ℕ) (h : Heard) → HeardIn line h → said 4092 line ≡ Unknown → ⊥
known line h a e = subst (λ (x : Said). HeardOf x h) e a

-- ---- the ship's lines, by the first that is read
data ShipStep (s : Sender) (line : List ℕ) (lines outs : List (List ℕ)) : Type 0 where
  goes : (t : Sender) (out : List ℕ) (more : List (List ℕ)) → ShipTurn s t line out false → ShipPrints t lines more → outs ≡ out ∷ more → ShipStep s line lines outs
  stops : (t : Sender) (out : List ℕ) → ShipTurn s t line out true → outs ≡ out ∷ done_line ∷ [] → ShipStep s line lines outs
  balks : said 4092 line ≡ Unknown → outs ≡ refused_line ∷ [] → ShipStep s line lines outs

abbrev ShipShape : Sender → List (List ℕ) → List (List ℕ) → Type 0
ShipShape s [] outs = outs ≡ []
ShipShape s (line ∷ lines) outs = ShipStep s line lines outs

ship-shape : {s : Sender} {lines outs : List (List ℕ)} → ShipPrints s lines outs → ShipShape s lines outs
ship-shape ended = refl
ship-shape (turned {t = t} {out = out} {outs = outs} a p) = goes t out outs a p refl
ship-shape (finished {t = t} {out = out} a) = stops t out a refl
ship-shape (refused n) = balks n refl

same_turn :
    (s t u : Sender) (line out other : List ℕ) (d e : Bool) → ShipTurn s t line out d → ShipTurn s u line other e →
    (out ≡ other) × (t ≡ u) × (d ≡ e)
same_turn s t u line out other d e a b =
    let x = ship-turn s t line out d a b.heard.0 b.heard.1 in
    let y = ship-turn s u line other e b b.heard.0 b.heard.1 in
    (x.0 ∙ sym y.0, x.1 ∙ sym y.1, x.2 ∙ sym y.2)

abbrev ShipOnce : List (List ℕ) → Type 0
ShipOnce lines = (s : Sender) (outs others : List (List ℕ)) → ShipPrints s lines outs → ShipPrints s lines others → outs ≡ others

ship-steps :
    (line : List ℕ) (lines : List (List ℕ)) → ShipOnce lines → (s : Sender) (outs others : List (List ℕ)) → ShipStep s line lines outs →
    ShipStep s line lines others → outs ≡ others
ship-steps line lines once s outs others (goes t out more a p e) (goes u other rest b q f) =
    let same = same_turn s t u line out other false false a b in
    e
    ∙ ap (λ (x : List ℕ). x ∷ more) same.0
    ∙ ap (λ (xs : List (List ℕ)). other ∷ xs) (once u more rest (subst (λ (v : Sender). ShipPrints v lines more) same.1 p) q)
    ∙ sym f
ship-steps line lines once s outs others (goes t out more a p e) (stops u other b f) = absurd (false≢true (same_turn s t u line out other false true a b).2)
ship-steps line lines once s outs others (goes t out more a p e) (balks n f) = absurd (known line a.heard.0 a.heard.1 n)
ship-steps line lines once s outs others (stops t out a e) (goes u other rest b q f) = absurd (true≢false (same_turn s t u line out other true false a b).2)
ship-steps line lines once s outs others (stops t out a e) (stops u other b f) =
    e ∙ ap (λ (x : List ℕ). x ∷ done_line ∷ []) (same_turn s t u line out other true true a b).0 ∙ sym f
ship-steps line lines once s outs others (stops t out a e) (balks n f) = absurd (known line a.heard.0 a.heard.1 n)
ship-steps line lines once s outs others (balks m e) (goes u other rest b q f) = absurd (known line b.heard.0 b.heard.1 m)
ship-steps line lines once s outs others (balks m e) (stops u other b f) = absurd (known line b.heard.0 b.heard.1 m)
ship-steps line lines once s outs others (balks m e) (balks n f) = e ∙ sym f

ship-once : (lines : List (List ℕ)) → ShipOnce lines
ship-once [] s outs others p q = ship-shape p ∙ sym (ship-shape q)
ship-once (line ∷ lines) s outs others p q = ship-steps line lines (ship-once lines) s outs others (ship-shape p) (ship-shape q)

ship-lines : (n : ℕ) (f : List ℕ) (lines outs others : List (List ℕ)) → ShipTranscript n f lines outs → ShipTranscript n f lines others → outs ≡ others
ship-lines n f lines outs others p q =
    p.1 ∙ ap (λ (xs : List (List ℕ)). says_line (new_sender n f) ∷ xs) (ship-once lines (after_saying (new_sender n f)) p.0 q.0 p.2 q.2) ∙ sym q.1

-- ---- the station's lines, by the first that is read
data StationStep (v : Receiver) (file : Option (List ℕ)) (line : List ℕ) (lines outs : List (List ℕ)) (last : Option (List ℕ)) : Type 0 where
  hearkens : (w : Receiver) (more : List (List ℕ)) → Heeded line v w → StationPrints w (written file w) lines more last → outs ≡ answer_line w ∷ more → StationStep v file line lines outs last
  quits : said 4092 line ≡ Unknown → outs ≡ refused_line ∷ [] → last ≡ file → StationStep v file line lines outs last

abbrev StationShape : Receiver → Option (List ℕ) → List (List ℕ) → List (List ℕ) → Option (List ℕ) → Type 0
StationShape v file [] outs last = (outs ≡ []) × (last ≡ file)
StationShape v file (line ∷ lines) outs last = StationStep v file line lines outs last

station-shape :
    {v : Receiver} {file : Option (List ℕ)} {lines outs : List (List ℕ)} {last : Option (List ℕ)} → StationPrints v file lines outs last →
    StationShape v file lines outs last
station-shape silent = (refl, refl)
station-shape (answered {w = w} {outs = outs} a p) = hearkens w outs a p refl
station-shape (declined n) = quits n refl refl

abbrev StationOnce : List (List ℕ) → Type 0
StationOnce lines =
    (v : Receiver) (file : Option (List ℕ)) (outs others : List (List ℕ)) (last other : Option (List ℕ)) → StationPrints v file lines outs last →
    StationPrints v file lines others other → (outs ≡ others) × (last ≡ other)

station-steps :
    (line : List ℕ) (lines : List (List ℕ)) → StationOnce lines → (v : Receiver) (file : Option (List ℕ)) (outs others : List (List ℕ)) (last other : Option (List ℕ)) →
    StationStep v file line lines outs last → StationStep v file line lines others other → (outs ≡ others) × (last ≡ other)
station-steps line lines once v file outs others last other (hearkens w more a p e) (hearkens u rest b q f) =
    let same : w ≡ u = station-turn v w line a b.0 b.1 ∙ sym b.2 in
    let then = once u (written file u) more rest last other (subst (λ (x : Receiver). StationPrints x (written file x) lines more last) same p) q in (
      e ∙ ap (λ (x : Receiver). answer_line x ∷ more) same ∙ ap (λ (xs : List (List ℕ)). answer_line u ∷ xs) then.0 ∙ sym f,
      then.1,
    )
station-steps line lines once v file outs others last other (hearkens w more a p e) (quits n f g) = absurd (known line a.0 a.1 n)
station-steps line lines once v file outs others last other (quits m e d) (hearkens u rest b q f) = absurd (known line b.0 b.1 m)
station-steps line lines once v file outs others last other (quits m e d) (quits n f g) = (e ∙ sym f, d ∙ sym g)

station-once : (lines : List (List ℕ)) → StationOnce lines
station-once [] v file outs others last other p q =
    let x = station-shape p in
    let y = station-shape q in
    (x.0 ∙ sym y.0, x.1 ∙ sym y.1)
station-once (line ∷ lines) v file outs others last other p q =
    station-steps line lines (station-once lines) v file outs others last other (station-shape p) (station-shape q)

station-lines :
    (n : ℕ) (lines outs others : List (List ℕ)) (file other : Option (List ℕ)) → StationTranscript n lines outs file →
    StationTranscript n lines others other → (outs ≡ others) × (file ≡ other)
station-lines n lines outs others file other p q = station-once lines (new_receiver n) None outs others file other p q

pub ends_right : EndsRight
ends_right =
    record { one_thing = one-thing; ship = ship-turn; station = station-turn; ship_lines = ship-lines; station_lines = station-lines; writes = writes; in_time = in-time }
