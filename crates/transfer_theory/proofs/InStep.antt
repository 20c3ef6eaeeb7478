-- Rounds in a row: parts + 1 of them end it, parts from the start do not, and more change nothing. Assumes nothing.
use Rattle.std.proofs.Common.{◌≡◌, ℕ, suc, ◌+◌, ◌<◌, ◌≤◌, true, false, T, eqb, ltb, ◌⊎◌, List, sym, refl, ap, ◌∙◌, subst, inl, inr, arith}
use Rattle.std.proofs.lemmas.Bool.{cases_eq, and_left, le-ltb}
use Rattle.bits.specs.Heard.{Heard}
use Rattle.transfer_theory.specs.Parts.{IsFile, parts}
use Rattle.transfer_theory.specs.Receiver.{receiver_of, empty_of, slot_at, complete, first_gap, wanted}
use Rattle.transfer_theory.specs.World.{World, start, Run}
use Rattle.transfer_theory.specs.Invariant.{AllThere, Good}
use Rattle.transfer_theory.specs.Onward.{Faithful, Arrived}
use Rattle.transfer_theory.specs.Rounds.{Rounds, none, more, Lockstep}
use Rattle.transfer_theory.proofs.Safety.{good_start, run-good}
use Rattle.transfer_theory.proofs.Moves.{Forth, Backward, all-arrived}
use Rattle.transfer_theory.proofs.Sameness.{received-same}
use Rattle.transfer_theory.proofs.Turns.{Turn, turn-done, round-moves, rounds-run, rounds-played}
use Rattle.transfer_theory.proofs.Phases.{Phase, phase-turn, phase-any, phase-over}

-- ---- a round after the end
pub turn-same : (n : ℕ) (f : List ℕ) (w v : World) → Good n f w → AllThere f w.receiver → Turn n f w v → v.receiver ≡ w.receiver
turn-same n f w v g a t = second t.back ∙ first t.forth
  where
    first : Forth n f w t.middle → t.middle.receiver ≡ w.receiver
    first (inl p) =
        received-same n f t.middle.receiver w.receiver p.good.received g.received p.brought.size (λ k l. at k (cases_eq k w.sender.place))
      where
        at : (k : ℕ) → (k ≡ w.sender.place) ⊎ (k ≡ w.sender.place → ⊥) → empty_of (slot_at t.middle.receiver k) ≡ empty_of (slot_at w.receiver k)
        at k (inl e) =
            ap (λ (j : ℕ). empty_of (slot_at t.middle.receiver j)) e ∙ p.brought.there ∙ sym (a.full w.sender.place p.within) ∙
            ap (λ (j : ℕ). empty_of (slot_at w.receiver j)) (sym e)
        at k (inr e) = ap empty_of (p.brought.others k e)
    first (inr p) = p.receiver ∙ ap (λ (s : ℕ). receiver_of w.receiver.file w.receiver.slots s) (sym a.size)

    second : ((0 < t.middle.receiver.size) × Backward n f t.middle v) ⊎ ((t.middle.receiver.size ≡ 0) × (v ≡ t.middle)) → v.receiver ≡ t.middle.receiver
    second (inl (l, inl b)) = b.receiver
    second (inl (l, inr b)) = b.receiver
    second (inr (e, q)) = ap (λ (x : World). x.receiver) q

-- what holds after rounds from an end
record Ended (n : ℕ) (f : List ℕ) (w v : World) : Type 0 where
  good : Good n f v
  done : T v.sender.done
  receiver : v.receiver ≡ w.receiver

-- what holds after k rounds from the start
record Begun (n : ℕ) (f : List ℕ) (k : ℕ) (v : World) : Type 0 where
  good : Good n f v
  size : v.receiver.size ≡ 0
  place : v.sender.place ≡ k
  done : v.sender.done ≡ false

begun-turn : (n : ℕ) (f : List ℕ) (k : ℕ) (w v : World) → k < parts f → Begun n f k w → Turn n f w v → Begun n f (suc k) v
begun-turn n f k w v h b t = go t.forth
  where
    go : Forth n f w t.middle → Begun n f (suc k) v
    go (inl p) = on t.back
      where
        on : ((0 < t.middle.receiver.size) × Backward n f t.middle v) ⊎ ((t.middle.receiver.size ≡ 0) × (v ≡ t.middle)) → Begun n f (suc k) v
        on (inl (l, c)) = let x = p.brought.size in let y = b.size in let z : ⊥ = omega arith in absurd z
        on (inr (z, q)) =
            subst (λ (x : World). Begun n f (suc k) x) (sym q)
            (record { good = p.good; size = z; place = (let x = p.place in let y = b.place in omega arith); done = p.done ∙ b.done })
    go (inr p) = let x = p.past in let y = b.place in let z : ⊥ = omega arith in absurd z

module _ (C : List ℕ → Heard → Type 0) (x : Faithful C) (n : ℕ) (f : List ℕ) (m : n < 256) (i : IsFile f) where
  rounds-phase : {w v : World} {k : ℕ} → Rounds C w k v → (j : ℕ) → Good n f w → Phase f (k + j) w → Good n f v × Phase f j v
  rounds-phase {w = w} none j g p = let e : 0 + j ≡ j = omega arith in (g, subst (λ (a : ℕ). Phase f a w) e p)
  rounds-phase {w = w} (more {k = k} {v = v} {u = u} s t) j g p =
      let e : suc k + j ≡ k + suc j = omega arith in
      let q = rounds-phase s (suc j) g (subst (λ (a : ℕ). Phase f a w) e p) in
      let r = round-moves C x n f m i q.0 t in
      (r.good, phase-turn n f j v u q.0 q.1 r)

  rounds-end : (w v : World) (k : ℕ) → Run n f true w → parts f + 1 ≤ k → Rounds C w k v → Arrived f v
  rounds-end w v k r h s =
      let g = run-good n f i.0 r refl in
      let q = rounds-phase s 0 g (phase-any n f (k + 0) w g (omega arith)) in
      all-arrived n f v i.0 q.0 (phase-over f v q.1)

  rounds-begun : {v : World} {k : ℕ} → Rounds C (start n f) k v → k ≤ parts f → Begun n f k v
  rounds-begun none h = record { good = good_start n f; size = refl; place = refl; done = refl }
  rounds-begun (more {k = k} {v = v} {u = u} s t) h =
      let b = rounds-begun s (omega arith) in
      begun-turn n f k v u (omega arith) b (round-moves C x n f m i b.good t)

  rounds-early : (v : World) (k : ℕ) → k ≤ parts f → Rounds C (start n f) k v → (complete v.receiver ≡ false) × (v.sender.done ≡ false)
  rounds-early v k h s =
      let b = rounds-begun s h in
      let z = b.size in
      (and_left (ltb 0 v.receiver.size) (eqb (first_gap v.receiver) (wanted v.receiver)) (le-ltb 0 v.receiver.size (omega arith)), b.done)

  rounds-ended : {w v : World} {k : ℕ} → Good n f w → T w.sender.done → Rounds C w k v → Ended n f w v
  rounds-ended g d none = record { good = g; done = d; receiver = refl }
  rounds-ended g d (more {v = v} {u = u} s t) =
      let b = rounds-ended g d s in
      let r = round-moves C x n f m i b.good t in
      record { good = r.good; done = turn-done n f v u r b.done; receiver = turn-same n f v u b.good (b.good.done b.done) r ∙ b.receiver }

  rounds-stay : (w v : World) (k : ℕ) → Run n f true w → Arrived f w → Rounds C w k v → Arrived f v × (v.receiver ≡ w.receiver)
  rounds-stay w v k r a s =
      let b = rounds-ended (run-good n f i.0 r refl) a.done s in
      (all-arrived n f v i.0 b.good b.done, b.receiver)

pub lockstep : (C : List ℕ → Heard → Type 0) → Lockstep C
lockstep C =
    record {
      ends = λ x n f m i w v k. rounds-end C x n f m i w v k;
      not_before = λ x n f m i v k. rounds-early C x n f m i v k;
      stays = λ x n f m i w v k. rounds-stay C x n f m i w v k;
      fair = λ x n f m i w v k r s. rounds-run C x n f m i r s;
      played = λ x o n f m i w k r. rounds-played C x o n f m i w k r;
    }
