-- The cases at the edges, from the general lemmas. Assumes nothing.
use Rattle.std.proofs.Common.{◌≡◌, ℕ, zero, suc, ◌+◌, ◌-◌, ◌/◌, ◌<◌, Bool, true, false, cond, ◌⊎◌, List, [], ◌∷◌, length, get_or, take, drop, sym, refl, ap, ◌∙◌, inl, inr, arith, length-drop, take_all, drop-cons}
use Rattle.bits.specs.Heard.{Got}
use Rattle.transfer_theory.specs.Parts.{part, part_payload, end_payload, ask_payload}
use Rattle.transfer_theory.specs.Receiver.{Receiver, new_receiver, first_missing, joined, empty_of, slot_at, hears, complete, handed, answers, with_length}
use Rattle.transfer_theory.specs.Invariant.{Received}
use Rattle.transfer_theory.specs.Cases.{EmptyFile, LastPart, Gap, CasesHold}
use Rattle.transfer_theory.proofs.Slots.{missing_at}
use Rattle.transfer_theory.proofs.Receiving.{hears-file-end, received-new, received-length, part-comes, Came}
use Rattle.transfer_theory.proofs.Answering.{answer, Asking, Telling}

after-end : (n : ℕ) → hears (Got (end_payload n [])) (new_receiver n) ≡ with_length 0 (new_receiver n)
after-end n = hears-file-end n [] (new_receiver n) refl (omega arith)

empty-file : EmptyFile
unfolding first_missing joined
empty-file n h =
    (refl, refl, refl, ap complete (after-end n), ap handed (after-end n))

-- one more byte than a part
nothing_left : (xs : List ℕ) → length xs ≡ 0 → xs ≡ []
nothing_left [] e = refl
nothing_left (x ∷ xs) e = let z : ⊥ = omega arith in absurd z

last-part : LastPart
last-part = (
  (λ f e. (ap (λ (m : ℕ). (m + 213) / 214) e, take_all 214 f (omega arith))),
  λ f e. (ap (λ (m : ℕ). (m + 213) / 214) e, second f e),
)
  where
    second : (f : List ℕ) → length f ≡ 215 → part f 1 ≡ get_or f 214 0 ∷ []
    second f e =
        ap (λ (xs : List ℕ). take 214 xs) (drop-cons f 214 0 (omega arith) ∙ ap (λ (xs : List ℕ). get_or f 214 0 ∷ xs) (nothing_left (drop 215 f) (length-drop 215 f ∙ ap (λ (m : ℕ). m - 215) e)))

both_ways : (b : Bool) → b ≡ true → b ≡ false → ⊥
both_ways b x y = let z : ◌≡◌ {A = ℕ} 0 1 = ap (λ (t : Bool). cond t 0 1) (sym x ∙ y) in omega arith

-- a receiver that has part 0 and not part 1 of three asks for part 1
asks-one :
    (n : ℕ) (f : List ℕ) (v : Receiver) → length f ≡ 600 → Received n f v → 0 < v.size → empty_of (slot_at v 0) ≡ false → empty_of (slot_at v 1) ≡ true →
    answers v ≡ ask_payload n 1
asks-one n f v e r s full gone = go (answer n f v r s)
  where
    go : Telling n f v ⊎ ((i : ℕ) × Asking n f v i) → answers v ≡ ask_payload n 1
    go (inl t) = absurd (both_ways (empty_of (slot_at v 1)) gone (t.all.full 1 (omega arith)))
    go (inr (zero, a)) = absurd (both_ways (empty_of (slot_at v 0)) a.gap full)
    go (inr (suc zero, a)) = a.says
    go (inr (suc (suc i), a)) = absurd (both_ways (empty_of (slot_at v 1)) gone (a.before 1 (omega arith)))

gap : Gap
gap n f m e i =
    ap answers (hears-file-end n f v c.received.file i.0) ∙
    asks-one n f (with_length (length f) v) e (received-length n f v c.received) (omega arith)
    (ap empty_of (c.brought.others 0 (omega arith)) ∙ b.brought.there)
    (ap empty_of (c.brought.others 1 (omega arith) ∙ b.brought.others 1 (omega arith) ∙ missing_at 1000 1))
  where
    u : Receiver
    u = hears (Got (part_payload n f 0)) (new_receiver n)

    v : Receiver
    v = hears (Got (part_payload n f 2)) u

    b : Came n f 0 (new_receiver n) u
    b = part-comes n f (new_receiver n) 0 i.0 (omega arith) (received-new n f)

    c : Came n f 2 u v
    c = part-comes n f u 2 i.0 (omega arith) b.received

pub cases-hold : CasesHold
cases-hold = record { empty = empty-file; last = last-part; gap = gap }
