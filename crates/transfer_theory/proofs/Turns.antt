-- What one round does: a move forth, and, once there is a length, a move back. Assumes nothing.
use Rattle.std.proofs.Common.{◌≡◌, ℕ, zero, suc, ◌<◌, ◌≤◌, Bool, true, false, T, ltb, ◌⊎◌, List, sym, refl, subst, inl, inr, arith}
use Rattle.std.proofs.lemmas.Bool.{cases_Bool, ltb-true, ltb-false}
use Rattle.bits.specs.Heard.{Heard}
use Rattle.transfer_theory.specs.Parts.{IsFile}
use Rattle.transfer_theory.specs.Sender.{Sender, says}
use Rattle.transfer_theory.specs.Receiver.{hears, answers}
use Rattle.transfer_theory.specs.World.{World, Run}
use Rattle.transfer_theory.specs.Invariant.{Good}
use Rattle.transfer_theory.specs.Onward.{Faithful, Carries, Then, here, spoke, replied, below, above}
use Rattle.transfer_theory.specs.Rounds.{Round, both, mute, Rounds, none, more}
use Rattle.transfer_theory.proofs.Slots.{is_true, holds}
use Rattle.transfer_theory.proofs.Moves.{Forth, Backward, forth_by, back_by, forth-moves, back-moves}
use Rattle.transfer_theory.proofs.Following.{in-here, in-answers, then-run, says-payloads}

-- ---- rounds are among what can follow when all goes well
pub round-then : (C : List ℕ → Heard → Type 0) {w v : World} → Round C w v → Then C w v
round-then C {w = w} (both h g c l d) =
    above (replied (below (spoke here) (says w.sender) h (in-here (says w.sender) w.down) c)) (answers (hears h w.receiver)) g (in-answers (forth_by h w) l) d
round-then C {w = w} (mute h c l) = below (spoke here) (says w.sender) h (in-here (says w.sender) w.down) c

pub rounds-run :
    (C : List ℕ → Heard → Type 0) → Faithful C → (n : ℕ) (f : List ℕ) → n < 256 → IsFile f → {w v : World} {k : ℕ} → Run n f true w → Rounds C w k v → Run n f true v
rounds-run C x n f m i r none = r
rounds-run C x n f m i r (more s t) = then-run C x n f m i (rounds-run C x n f m i r s) (round-then C t)

-- ---- a round can always be played
pub round-played :
    (C : List ℕ → Heard → Type 0) → Faithful C → Carries C → (n : ℕ) (f : List ℕ) → n < 256 → IsFile f → (w : World) → Run n f true w → (v : World) × Round C w v
round-played C x o n f m i w r = go (cases_Bool (ltb 0 (forth_by q.0 w).receiver.size))
  where
    q : (h : Heard) × C (says w.sender) h
    q = o (says w.sender) (says-payloads n f m i w r).0

    u : Run n f true (forth_by q.0 w)
    u = then-run C x n f m i r (below (spoke here) (says w.sender) q.0 (in-here (says w.sender) w.down) q.1)

    go : (ltb 0 (forth_by q.0 w).receiver.size ≡ true) ⊎ (ltb 0 (forth_by q.0 w).receiver.size ≡ false) → (v : World) × Round C w v
    go (inl e) =
        let l = holds (ltb 0 (forth_by q.0 w).receiver.size) e in
        let p = o (answers (forth_by q.0 w).receiver) ((says-payloads n f m i (forth_by q.0 w) u).1 l) in
        (back_by p.0 (forth_by q.0 w), both q.0 p.0 q.1 l p.1)
    go (inr e) = (forth_by q.0 w, mute q.0 q.1 e)

pub rounds-played :
    (C : List ℕ → Heard → Type 0) → Faithful C → Carries C → (n : ℕ) (f : List ℕ) → n < 256 → IsFile f → (w : World) (k : ℕ) → Run n f true w →
    (v : World) × Rounds C w k v
rounds-played C x o n f m i w zero r = (w, none)
rounds-played C x o n f m i w (suc k) r =
    let s = rounds-played C x o n f m i w k r in
    let t = round-played C x o n f m i s.0 (rounds-run C x n f m i r s.1) in
    (t.0, more s.1 t.1)

-- ---- the moves of a round
pub record Turn (n : ℕ) (f : List ℕ) (w v : World) : Type 0 where
  pub middle : World
  pub good : Good n f v
  pub forth : Forth n f w middle
  pub back : ((0 < middle.receiver.size) × Backward n f middle v) ⊎ ((middle.receiver.size ≡ 0) × (v ≡ middle))

pub forth-is-good : (n : ℕ) (f : List ℕ) (w v : World) → Forth n f w v → Good n f v
forth-is-good n f w v (inl p) = p.good
forth-is-good n f w v (inr p) = p.good

back-is-good : (n : ℕ) (f : List ℕ) (w v : World) → Backward n f w v → Good n f v
back-is-good n f w v (inl p) = p.good
back-is-good n f w v (inr p) = p.good

pub round-moves :
    (C : List ℕ → Heard → Type 0) → Faithful C → (n : ℕ) (f : List ℕ) → n < 256 → IsFile f → {w v : World} → Good n f w → Round C w v → Turn n f w v
round-moves C x n f m i {w = w} g (both h k c l d) =
    let a = forth-moves C x n f m i w h g c in
    let s : 0 < (forth_by h w).receiver.size = ltb-true 0 (forth_by h w).receiver.size (is_true (ltb 0 (forth_by h w).receiver.size) l) in
    let b = back-moves C x n f m i (forth_by h w) k (forth-is-good n f w (forth_by h w) a) s d in
    record { middle = forth_by h w; good = back-is-good n f (forth_by h w) (back_by k (forth_by h w)) b; forth = a; back = inl (s, b) }
round-moves C x n f m i {w = w} g (mute h c l) =
    let a = forth-moves C x n f m i w h g c in
    let s : (forth_by h w).receiver.size ≤ 0 = ltb-false 0 (forth_by h w).receiver.size l in
    record { middle = forth_by h w; good = forth-is-good n f w (forth_by h w) a; forth = a; back = inr (omega arith, refl) }

-- the sender stays done
pub turn-done : (n : ℕ) (f : List ℕ) (w v : World) → Turn n f w v → T w.sender.done → T v.sender.done
turn-done n f w v t d = second t.back (first t.forth)
  where
    first : Forth n f w t.middle → T t.middle.sender.done
    first (inl p) = subst (λ (b : Bool). T b) (sym p.done) d
    first (inr p) = subst (λ (s : Sender). T s.done) (sym p.sender) d

    second :
        ((0 < t.middle.receiver.size) × Backward n f t.middle v) ⊎ ((t.middle.receiver.size ≡ 0) × (v ≡ t.middle)) →
        T t.middle.sender.done → T v.sender.done
    second (inl (s, inl b)) e = b.done
    second (inl (s, inr b)) e = subst (λ (x : Bool). T x) (sym b.done) e
    second (inr (s, q)) e = subst (λ (x : World). T x.sender.done) (sym q) e
