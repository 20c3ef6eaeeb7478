-- How many rounds are still wanted, from the gaps: each round that comes through makes it one less. Assumes nothing.
use Rattle.std.proofs.Common.{◌≡◌, ℕ, suc, ◌+◌, ◌-◌, ◌<◌, ◌≤◌, true, T, ◌⊎◌, List, length, sym, ap, ◌∙◌, subst, inl, inr, arith}
use Rattle.transfer_theory.specs.Parts.{parts}
use Rattle.transfer_theory.specs.Receiver.{Receiver, empty_of, slot_at}
use Rattle.transfer_theory.specs.World.{World}
use Rattle.transfer_theory.specs.Invariant.{Good}
use Rattle.transfer_theory.proofs.Receiving.{brought-stays}
use Rattle.transfer_theory.proofs.Moves.{Forth, Backward, PartMove, EndMove}
use Rattle.transfer_theory.proofs.Counting.{gaps, gaps-full, gaps-most, gaps-less, gaps-fewer, gaps-some}
use Rattle.transfer_theory.proofs.Turns.{Turn, turn-done}

-- the gaps among the first k parts
abbrev pub gaps_in : Receiver → ℕ → ℕ
gaps_in v k = gaps (λ (j : ℕ). empty_of (slot_at v j)) k

abbrev pub gaps_of : World → ℕ → ℕ
gaps_of w k = gaps_in w.receiver k

-- k more rounds suffice: the sender is told; it is at a gap; there is a length; or there is none yet
pub data Phase (f : List ℕ) (k : ℕ) (w : World) : Type 0 where
  settled : T w.sender.done → Phase f k w
  synced :
      w.receiver.size ≡ length f + 1 → w.sender.place < parts f → empty_of (slot_at w.receiver w.sender.place) ≡ true → gaps_of w (parts f) ≤ k →
      Phase f k w
  sized : w.receiver.size ≡ length f + 1 → gaps_of w (parts f) + 1 ≤ k → Phase f k w
  early : w.receiver.size ≡ 0 → (parts f - w.sender.place) + gaps_of w w.sender.place + 1 ≤ k → Phase f k w

-- ---- gaps after a move
pub part-less : (n : ℕ) (f : List ℕ) (w v : World) → PartMove n f w v → (b : ℕ) → gaps_of v b ≤ gaps_of w b
part-less n f w v p b =
    gaps-less (λ (j : ℕ). empty_of (slot_at w.receiver j)) (λ (j : ℕ). empty_of (slot_at v.receiver j)) b
    (λ k l o. brought-stays w.sender.place w.receiver v.receiver p.brought k o)

pub part-fewer :
    (n : ℕ) (f : List ℕ) (w v : World) → PartMove n f w v → empty_of (slot_at w.receiver w.sender.place) ≡ true →
    gaps_of v (parts f) + 1 ≤ gaps_of w (parts f)
part-fewer n f w v p e =
    gaps-fewer (λ (j : ℕ). empty_of (slot_at w.receiver j)) (λ (j : ℕ). empty_of (slot_at v.receiver j)) (parts f) w.sender.place
    (λ k l o. brought-stays w.sender.place w.receiver v.receiver p.brought k o) p.within e p.brought.there

pub end_same : (n : ℕ) (f : List ℕ) (w v : World) → EndMove n f w v → (b : ℕ) → gaps_of v b ≡ gaps_of w b
end_same n f w v p b = ap (λ (r : Receiver). gaps_in r b) p.receiver

pub end-size : (n : ℕ) (f : List ℕ) (w v : World) → EndMove n f w v → v.receiver.size ≡ length f + 1
end-size n f w v p = ap (λ (r : Receiver). r.size) p.receiver

-- the part at the sender's place came: no more gaps up to the next place than before up to this one
pub part-place : (n : ℕ) (f : List ℕ) (w v : World) → PartMove n f w v → gaps_of v v.sender.place ≤ gaps_of w w.sender.place
part-place n f w v p =
    let y : v.sender.place ≡ suc w.sender.place = let e = p.place in omega arith in
    let a = ap (λ (j : ℕ). gaps_of v j) y in
    let b = gaps-full (λ (j : ℕ). empty_of (slot_at v.receiver j)) w.sender.place p.brought.there in
    let c = part-less n f w v p w.sender.place in
    omega arith

-- ---- after an answer the sender is told, or at a gap
answered :
    (n : ℕ) (f : List ℕ) (k : ℕ) (x v : World) → x.receiver.size ≡ length f + 1 → gaps_of x (parts f) ≤ k → Backward n f x v → Phase f k v
answered n f k x v s h (inl d) = settled d.done
answered n f k x v s h (inr q) =
    synced (ap (λ (r : Receiver). r.size) q.receiver ∙ s) (subst (λ (j : ℕ). j < parts f) (sym q.place) q.asking.within)
    (ap (λ (r : Receiver). empty_of (slot_at r v.sender.place)) q.receiver ∙ ap (λ (j : ℕ). empty_of (slot_at x.receiver j)) q.place ∙ q.asking.gap)
    (subst (λ (r : Receiver). gaps_in r (parts f) ≤ k) (sym q.receiver) h)

-- a round in whose middle there is a length
pub turn-sized :
    (n : ℕ) (f : List ℕ) (k : ℕ) (w v : World) (t : Turn n f w v) → t.middle.receiver.size ≡ length f + 1 → gaps_of t.middle (parts f) ≤ k → Phase f k v
turn-sized n f k w v t s h = go t.back
  where
    go : ((0 < t.middle.receiver.size) × Backward n f t.middle v) ⊎ ((t.middle.receiver.size ≡ 0) × (v ≡ t.middle)) → Phase f k v
    go (inl (l, b)) = answered n f k t.middle v s h b
    go (inr (e, q)) = let z : ⊥ = omega arith in absurd z

-- ---- a round brings the next phase
pub phase-turn : (n : ℕ) (f : List ℕ) (k : ℕ) (w v : World) → Good n f w → Phase f (suc k) w → Turn n f w v → Phase f k v
phase-turn n f k w v g (settled d) t = settled (turn-done n f w v t d)
phase-turn n f k w v g (synced s l e h) t = go t.forth
  where
    go : Forth n f w t.middle → Phase f k v
    go (inl p) = turn-sized n f k w v t (p.brought.size ∙ s) (let a = part-fewer n f w t.middle p e in omega arith)
    go (inr p) = let a = p.past in let z : ⊥ = omega arith in absurd z
phase-turn n f k w v g (sized s h) t = go t.forth
  where
    go : Forth n f w t.middle → Phase f k v
    go (inl p) = turn-sized n f k w v t (p.brought.size ∙ s) (let a = part-less n f w t.middle p (parts f) in omega arith)
    go (inr p) = turn-sized n f k w v t (end-size n f w t.middle p) (let a = end_same n f w t.middle p (parts f) in omega arith)
phase-turn n f k w v g (early s h) t = go t.forth
  where
    go : Forth n f w t.middle → Phase f k v
    go (inl p) = on t.back
      where
        on : ((0 < t.middle.receiver.size) × Backward n f t.middle v) ⊎ ((t.middle.receiver.size ≡ 0) × (v ≡ t.middle)) → Phase f k v
        on (inl (l, b)) = let a = p.brought.size in let z : ⊥ = omega arith in absurd z
        on (inr (z, q)) =
            let a = part-place n f w t.middle p in
            let b = p.place in
            let c = p.within in
            subst (λ (x : World). Phase f k x) (sym q) (early z (omega arith))
    go (inr p) =
        let a = end_same n f w t.middle p (parts f) in
        let b = ap (λ (j : ℕ). gaps_of w j) p.past in
        turn-sized n f k w v t (end-size n f w t.middle p) (omega arith)

-- ---- at first, and at last
pub phase-any : (n : ℕ) (f : List ℕ) (k : ℕ) (w : World) → Good n f w → parts f + 1 ≤ k → Phase f k w
phase-any n f k w g h = go g.received.size
  where
    go : (w.receiver.size ≡ 0) ⊎ (w.receiver.size ≡ length f + 1) → Phase f k w
    go (inl e) =
        let a = gaps-most (λ (j : ℕ). empty_of (slot_at w.receiver j)) w.sender.place in
        let b = g.sends.place in
        early e (omega arith)
    go (inr e) = let a = gaps-most (λ (j : ℕ). empty_of (slot_at w.receiver j)) (parts f) in sized e (omega arith)

pub phase-over : (f : List ℕ) (w : World) → Phase f 0 w → T w.sender.done
phase-over f w (settled d) = d
phase-over f w (synced s l e h) =
    let a = gaps-some (λ (j : ℕ). empty_of (slot_at w.receiver j)) (parts f) w.sender.place l e in
    let z : ⊥ = omega arith in
    absurd z
phase-over f w (sized s h) = let z : ⊥ = omega arith in absurd z
phase-over f w (early s h) = let z : ⊥ = omega arith in absurd z
