-- Two good rounds in a row end it, or bring a part that was missing; and all that is promised of a bad evening. Assumes nothing.
use Rattle.std.proofs.Common.{◌≡◌, ℕ, zero, suc, ◌+◌, ◌<◌, ◌≤◌, true, false, T, ◌⊎◌, List, length, sym, refl, ap, ◌∙◌, subst, inl, inr, arith}
use Rattle.std.proofs.lemmas.Bool.{cases_Bool, both_ways}
use Rattle.bits.specs.Heard.{Heard}
use Rattle.transfer_theory.specs.Parts.{IsFile, parts}
use Rattle.transfer_theory.specs.Receiver.{Receiver, empty_of, slot_at}
use Rattle.transfer_theory.specs.World.{World, Run}
use Rattle.transfer_theory.specs.Onward.{Faithful, Carries, Arrived}
use Rattle.transfer_theory.specs.Evening.{Evening, dusk, pair, PairBrings, BadEvening}
use Rattle.transfer_theory.proofs.Receiving.{brought-stays}
use Rattle.transfer_theory.proofs.Safety.{run-good}
use Rattle.transfer_theory.proofs.Moves.{Forth, Backward, all-arrived}
use Rattle.transfer_theory.proofs.Turns.{Turn, turn-done, round-then, round-moves, round-played}
use Rattle.transfer_theory.proofs.Following.{then-run}
use Rattle.transfer_theory.proofs.Phases.{end-size}
use Rattle.transfer_theory.proofs.Fresh.{run-fresh}
use Rattle.transfer_theory.proofs.Evenings.{evening-run, evening-ends}

-- the sender is at a gap
abbrev AtGap : List ℕ → World → Type 0
AtGap f x = (x.sender.place < parts f) × (empty_of (slot_at x.receiver x.sender.place) ≡ true)

-- after an answer it is told, or at a gap
turn_gap : (n : ℕ) (f : List ℕ) (w x : World) (t : Turn n f w x) → 0 < t.middle.receiver.size → T x.sender.done ⊎ AtGap f x
turn_gap n f w x t s = go t.back
  where
    go :
        ((0 < t.middle.receiver.size) × Backward n f t.middle x) ⊎ ((t.middle.receiver.size ≡ 0) × (x ≡ t.middle)) → T x.sender.done ⊎ AtGap f x
    go (inl (l, inl d)) = inl d.done
    go (inl (l, inr q)) =
        inr (
          subst (λ (j : ℕ). j < parts f) (sym q.place) q.asking.within,
          ap (λ (r : Receiver). empty_of (slot_at r x.sender.place)) q.receiver ∙
              ap (λ (j : ℕ). empty_of (slot_at t.middle.receiver j)) q.place ∙ q.asking.gap,
        )
    go (inr (z, q)) = let y : ⊥ = omega arith in absurd y

-- the way back leaves the receiver
back-same : (n : ℕ) (f : List ℕ) (w x : World) (t : Turn n f w x) → x.receiver ≡ t.middle.receiver
back-same n f w x t = go t.back
  where
    go : ((0 < t.middle.receiver.size) × Backward n f t.middle x) ⊎ ((t.middle.receiver.size ≡ 0) × (x ≡ t.middle)) → x.receiver ≡ t.middle.receiver
    go (inl (l, inl d)) = d.receiver
    go (inl (l, inr q)) = q.receiver
    go (inr (z, q)) = ap (λ (v : World). v.receiver) q

forth-fills : (n : ℕ) (f : List ℕ) (w v : World) → Forth n f w v → (k : ℕ) → empty_of (slot_at w.receiver k) ≡ false → empty_of (slot_at v.receiver k) ≡ false
forth-fills n f w v (inl p) k o = brought-stays w.sender.place w.receiver v.receiver p.brought k o
forth-fills n f w v (inr p) k o = ap (λ (r : Receiver). empty_of (slot_at r k)) p.receiver ∙ o

turn-fills : (n : ℕ) (f : List ℕ) (w v : World) → Turn n f w v → (k : ℕ) → empty_of (slot_at w.receiver k) ≡ false → empty_of (slot_at v.receiver k) ≡ false
turn-fills n f w v t k o = ap (λ (r : Receiver). empty_of (slot_at r k)) (back-same n f w v t) ∙ forth-fills n f w t.middle t.forth k o

-- from a gap, a round fills it
gap-brought : (n : ℕ) (f : List ℕ) (x v : World) → Turn n f x v → AtGap f x → empty_of (slot_at v.receiver x.sender.place) ≡ false
gap-brought n f x v t a = ap (λ (r : Receiver). empty_of (slot_at r x.sender.place)) (back-same n f x v t) ∙ go t.forth
  where
    go : Forth n f x t.middle → empty_of (slot_at t.middle.receiver x.sender.place) ≡ false
    go (inl p) = p.brought.there
    go (inr p) = let e = p.past in let h = a.0 in let y : ⊥ = omega arith in absurd y

abbrev Brings : List ℕ → World → World → Type 0
Brings f w v = Arrived f v ⊎ ((i : ℕ) × (i < parts f) × (empty_of (slot_at w.receiver i) ≡ true) × (empty_of (slot_at v.receiver i) ≡ false))

-- with a length in the first round
pair-sized : (n : ℕ) (f : List ℕ) (w x v : World) → length f ≤ 214000 → (t : Turn n f w x) → Turn n f x v → 0 < t.middle.receiver.size → Brings f w v
pair-sized n f w x v b t u s = go (turn_gap n f w x t s)
  where
    was : (j : ℕ) → empty_of (slot_at x.receiver j) ≡ true → (empty_of (slot_at w.receiver j) ≡ true) ⊎ (empty_of (slot_at w.receiver j) ≡ false) → empty_of (slot_at w.receiver j) ≡ true
    was j e (inl o) = o
    was j e (inr o) = absurd (both_ways (empty_of (slot_at x.receiver j)) (turn-fills n f w x t j o) e)

    go : T x.sender.done ⊎ AtGap f x → Brings f w v
    go (inl d) = inl (all-arrived n f v b u.good (turn-done n f x v u d))
    go (inr a) =
        let j = x.sender.place in
        inr (j, a.0, was j a.1 (cases_Bool (empty_of (slot_at w.receiver j))), gap-brought n f x v u a)

pair_turns : (n : ℕ) (f : List ℕ) (w x v : World) → length f ≤ 214000 → Run n f true w → Turn n f w x → Turn n f x v → Brings f w v
pair_turns n f w x v b r t u = go t.forth (run-good n f b r refl).received.size
  where
    go : Forth n f w t.middle → (w.receiver.size ≡ 0) ⊎ (w.receiver.size ≡ length f + 1) → Brings f w v
    go (inr p) _ = let e = end-size n f w t.middle p in pair-sized n f w x v b t u (omega arith)
    go (inl p) (inr s) = let e = p.brought.size in pair-sized n f w x v b t u (omega arith)
    go (inl p) (inl z) =
        let j = w.sender.place in
        inr (
          j,
          p.within,
          (run-fresh n f b r refl z).ahead j (omega arith),
          turn-fills n f x v u j (ap (λ (q : Receiver). empty_of (slot_at q j)) (back-same n f w x t) ∙ p.brought.there),
        )

pub pair-brings : (C : List ℕ → Heard → Type 0) → Faithful C → PairBrings C
pair-brings C c n f m i w x v r a b =
    let t = round-moves C c n f m i (run-good n f i.0 r refl) a in
    pair_turns n f w x v i.0 r t (round-moves C c n f m i t.good b)

evening-played :
    (C : List ℕ → Heard → Type 0) → Faithful C → Carries C → (n : ℕ) (f : List ℕ) → n < 256 → IsFile f → (w : World) (k : ℕ) → Run n f true w →
    (v : World) × Evening C n w k v
evening-played C c o n f m i w zero r = (w, dusk)
evening-played C c o n f m i w (suc k) r =
    let s = evening-played C c o n f m i w k r in
    let q = evening-run C c n f m i r s.1 in
    let a = round-played C c o n f m i s.0 q in
    let b = round-played C c o n f m i a.0 (then-run C c n f m i q (round-then C a.1)) in
    (b.0, pair s.1 a.1 b.1)

pub bad-evening : (C : List ℕ → Heard → Type 0) → BadEvening C
bad-evening C =
    record {
      brings = pair-brings C;
      ends = λ x n f m i w v k. evening-ends C x n f m i w v k;
      fair = λ x n f m i w v k r s. evening-run C x n f m i r s;
      played = λ x o n f m i w k r. evening-played C x o n f m i w k r;
    }
