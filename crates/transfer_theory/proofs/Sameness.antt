-- Two receivers of one file that have the same parts, and both a length or none, are equal. Assumes nothing.
use Rattle.std.proofs.Common.{◌≡◌, ℕ, ◌<◌, Bool, cond, List, sym, refl, ap, ◌∙◌, arith, ext_get_or}
use Rattle.transfer_theory.specs.Receiver.{Slot, Missing, Have, Receiver, receiver_of, empty_of, slot_at}
use Rattle.transfer_theory.specs.Invariant.{PartRight, Received}

pub slots_same : (f : List ℕ) (k : ℕ) (s t : Slot) → PartRight f k s → PartRight f k t → empty_of s ≡ empty_of t → s ≡ t
slots_same f k Missing Missing a b e = refl
slots_same f k Missing (Have bs) a b e = let z : ◌≡◌ {A = ℕ} 0 1 = ap (λ (t : Bool). cond t 0 1) e in let y : ⊥ = omega arith in absurd y
slots_same f k (Have bs) Missing a b e = let z : ◌≡◌ {A = ℕ} 1 0 = ap (λ (t : Bool). cond t 0 1) e in let y : ⊥ = omega arith in absurd y
slots_same f k (Have bs) (Have cs) a b e = ap Have (a ∙ sym b)

pub received-same :
    (n : ℕ) (f : List ℕ) (u v : Receiver) → Received n f u → Received n f v → u.size ≡ v.size →
    ((k : ℕ) → k < 1000 → empty_of (slot_at u k) ≡ empty_of (slot_at v k)) → u ≡ v
received-same n f u v a b s e =
    ap (λ (x : ℕ). receiver_of x u.slots u.size) (a.file ∙ sym b.file) ∙
    ap (λ (x : List Slot). receiver_of v.file x u.size) slots ∙ ap (λ (x : ℕ). receiver_of v.file v.slots x) s
  where
    slots : u.slots ≡ v.slots
    slots =
        ext_get_or Missing u.slots v.slots (a.long ∙ sym b.long)
        (λ k h. let l : k < 1000 = let q = a.long in omega arith in slots_same f k (slot_at u k) (slot_at v k) (a.right k l) (b.right k l) (e k l))
