-- The strategy: say all that is left and the end, ask, say from the first gap on, and ask again. Assumes nothing.
use Rattle.std.proofs.Common.{◌≡◌, ℕ, zero, suc, ◌+◌, ◌-◌, ◌<◌, ◌≤◌, false, ltb, ◌⊎◌, List, length, sym, refl, ap, ◌∙◌, subst, inl, inr, arith}
use Rattle.std.proofs.lemmas.Bool.{cases_lt, cases_eq, lt-ltb, both_ways}
use Rattle.bits.specs.Heard.{Heard}
use Rattle.transfer_theory.specs.Parts.{IsFile, parts}
use Rattle.transfer_theory.specs.Receiver.{Receiver, empty_of, slot_at}
use Rattle.transfer_theory.specs.World.{World}
use Rattle.transfer_theory.specs.Invariant.{AllThere, Good}
use Rattle.transfer_theory.specs.Onward.{Faithful, Plays, arrived, forth, back, StrategyWins}
use Rattle.transfer_theory.proofs.Slots.{holds}
use Rattle.transfer_theory.proofs.Receiving.{brought-stays}
use Rattle.transfer_theory.proofs.Safety.{run-good}
use Rattle.transfer_theory.proofs.Moves.{Forth, PartMove, Backward, forth_by, back_by, forth-moves, back-moves, all-arrived}

-- with more frames it wins too
pub plays-more : (C : List ℕ → Heard → Type 0) (f : List ℕ) {k : ℕ} {w : World} → Plays C f k w → (j : ℕ) → k ≤ j → Plays C f j w
plays-more C f (arrived a) j h = arrived a
plays-more C f (forth {k = k} go) zero h = let z : ⊥ = omega arith in absurd z
plays-more C f (forth {k = k} go) (suc j) h = forth (λ x c. plays-more C f (go x c) j (omega arith))
plays-more C f (back {k = k} t go) zero h = let z : ⊥ = omega arith in absurd z
plays-more C f (back {k = k} t go) (suc j) h = back t (λ x c. plays-more C f (go x c) j (omega arith))

-- slots of a receiver, filled
abbrev pub FilledAt : World → ℕ → Type 0
FilledAt w k = empty_of (slot_at w.receiver k) ≡ false

module _ (C : List ℕ → Heard → Type 0) (x : Faithful C) (n : ℕ) (f : List ℕ) (m : n < 256) (i : IsFile f) where
  -- all is there: one answer
  finish : (w : World) → Good n f w → AllThere f w.receiver → Plays C f 1 w
  finish w g a =
      let l : 0 < w.receiver.size = let e = a.size in omega arith in
      back (holds (ltb 0 w.receiver.size) (lt-ltb 0 w.receiver.size l)) (λ h c. go h (back-moves C x n f m i w h g l c))
    where
      go : (h : Heard) → Backward n f w (back_by h w) → Plays C f 0 (back_by h w)
      go h (inl d) = arrived (all-arrived n f (back_by h w) i.0 d.good d.done)
      go h (inr q) = absurd (both_ways (empty_of (slot_at w.receiver q.gap)) (a.full q.gap q.asking.within) q.asking.gap)

  -- a part that comes is there, and the others stay
  pub after-part : (w v : World) → PartMove n f w v → (k : ℕ) → FilledAt w k ⊎ (k ≡ w.sender.place) → FilledAt v k
  after-part w v p k (inl e) = brought-stays w.sender.place w.receiver v.receiver p.brought k e
  after-part w v p k (inr e) = subst (λ (j : ℕ). FilledAt v j) (sym e) p.brought.there

  -- the gaps are within d places of the sender's: so many frames, and the answer
  abbrev Fills : ℕ → Type 0
  Fills d =
      (w : World) → Good n f w → w.receiver.size ≡ length f + 1 →
      ((k : ℕ) → k < parts f → (k < w.sender.place) ⊎ (w.sender.place + d ≤ k) → FilledAt w k) → Plays C f (suc d) w

  fill : (d : ℕ) → Fills d
  fill zero w g s full = finish w g (record { size = s; full = λ k h. full k h (elim (cases_lt k w.sender.place) [ inl l ↦ inl l | inr l ↦ inr (omega arith) ]) })
  fill (suc d) w g s full = forth (λ h c. go (fill d) h (forth-moves C x n f m i w h g c))
    where
      go : Fills d → (h : Heard) → Forth n f w (forth_by h w) → Plays C f (suc d) (forth_by h w)
      go on h (inl p) =
          on (forth_by h w) p.good (p.brought.size ∙ s) (λ k l o. after-part w (forth_by h w) p k (where-is k l o))
        where
          where-is :
              (k : ℕ) → k < parts f → (k < (forth_by h w).sender.place) ⊎ ((forth_by h w).sender.place + d ≤ k) → FilledAt w k ⊎ (k ≡ w.sender.place)
          where-is k l (inl o) =
              let e = p.place in
              elim (cases_eq k w.sender.place) [ inl q ↦ inr q | inr q ↦ inl (full k l (inl (omega arith))) ]
          where-is k l (inr o) = let e = p.place in inl (full k l (inr (omega arith)))
      go on h (inr p) =
          let e = p.receiver in
          plays-more C f
          (finish (forth_by h w) p.good
          (subst (λ (v : Receiver). AllThere f v) (sym e)
          (record { size = refl; full = λ k l. full k l (inl (let q = p.past in omega arith)) }))) (suc d) (omega arith)

  -- from t on all is there, and a length: an answer, at most t parts, and an answer
  asked :
      (t : ℕ) (v : World) → Good n f v → v.receiver.size ≡ length f + 1 → ((k : ℕ) → t ≤ k → k < parts f → FilledAt v k) → Plays C f (suc (suc t)) v
  asked t v q s all =
      let pos : 0 < v.receiver.size = omega arith in
      back (holds (ltb 0 v.receiver.size) (lt-ltb 0 v.receiver.size pos)) (λ h c. told h (back-moves C x n f m i v h q pos c))
    where
      told : (h : Heard) → Backward n f v (back_by h v) → Plays C f (suc t) (back_by h v)
      told h (inl b) = arrived (all-arrived n f (back_by h v) i.0 b.good b.done)
      told h (inr b) =
          plays-more C f
          (fill (t - b.gap) (back_by h v) b.good (ap (λ (r : Receiver). r.size) b.receiver ∙ s) (λ k o c. cover k o c))
          (suc t) (omega arith)
        where
          low : b.gap < t
          low =
              elim (cases_lt b.gap t) [ inl o ↦ o | inr o ↦ absurd (both_ways (empty_of (slot_at v.receiver b.gap)) (all b.gap o b.asking.within) b.asking.gap) ]

          cover : (k : ℕ) → k < parts f → (k < (back_by h v).sender.place) ⊎ ((back_by h v).sender.place + (t - b.gap) ≤ k) → FilledAt (back_by h v) k
          cover k o (inl c) = let y = b.place in b.asking.before k (omega arith)
          cover k o (inr c) = let y = b.place in let z = low in all k (omega arith) o

  -- d parts are still to be said; from t on all that were said are there
  abbrev Says : ℕ → Type 0
  Says d =
      (t : ℕ) (w : World) → Good n f w → w.sender.place + d ≡ parts f → t ≤ w.sender.place →
      ((k : ℕ) → t ≤ k → k < w.sender.place → FilledAt w k) → Plays C f (suc (d + suc (suc t))) w

  run_on : (d : ℕ) → Says d
  run_on zero t w g e l full = forth (λ h c. go h (forth-moves C x n f m i w h g c))
    where
      go : (h : Heard) → Forth n f w (forth_by h w) → Plays C f (0 + suc (suc t)) (forth_by h w)
      go h (inl p) = let o = p.within in let z : ⊥ = omega arith in absurd z
      go h (inr p) =
          let r = p.receiver in
          plays-more C f
          (asked t (forth_by h w) p.good (ap (λ (v : Receiver). v.size) r)
          (λ k o q. ap (λ (v : Receiver). empty_of (slot_at v k)) r ∙ full k o (let y = p.past in omega arith)))
          (0 + suc (suc t)) (omega arith)
  run_on (suc d) t w g e l full = forth (λ h c. go (run_on d) h (forth-moves C x n f m i w h g c))
    where
      go : Says d → (h : Heard) → Forth n f w (forth_by h w) → Plays C f (suc d + suc (suc t)) (forth_by h w)
      go on h (inl p) =
          let y = p.place in
          plays-more C f
          (on t (forth_by h w) p.good (omega arith) (omega arith) (λ k o q. after-part w (forth_by h w) p k (where-is k o q)))
          (suc d + suc (suc t)) (omega arith)
        where
          where-is : (k : ℕ) → t ≤ k → k < (forth_by h w).sender.place → FilledAt w k ⊎ (k ≡ w.sender.place)
          where-is k o q =
              let y = p.place in
              elim (cases_eq k w.sender.place) [ inl z ↦ inr z | inr z ↦ inl (full k o (omega arith)) ]
      go on h (inr p) = let o = p.past in let z : ⊥ = omega arith in absurd z

  pub good-plays : (w : World) → Good n f w → Plays C f (parts f + 3) w
  good-plays w g =
      let l = g.sends.place in
      plays-more C f
      (run_on (parts f - w.sender.place) w.sender.place w g (omega arith) (omega arith) (λ k o q. let z : ⊥ = omega arith in absurd z))
      (parts f + 3) (omega arith)

pub strategy-wins : (C : List ℕ → Heard → Type 0) → Faithful C → StrategyWins C
strategy-wins C x n f m i w r = good-plays C x n f m i w (run-good n f i.0 r refl)
