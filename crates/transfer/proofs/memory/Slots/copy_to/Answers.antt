-- Slot after slot, what was copied is what the slots hold.
use Rattle.std.proofs.Common.{◌≡◌, ℕ, ◌+◌, ◌-◌, List, [], ◌++◌, length, take, drop, get_or, sym, refl, ap, ◌∙◌}
use lib.Seq.{take-nil}
use Rattle.transfer_theory.specs.Receiver.{joined}
use Rattle.transfer.specs.Memory.{slot_read, overwritten}
use Rattle.transfer.proofs.Copying.{held-bytes, joined-slot, copied_more, copied-count}
use Rattle.transfer.proofs.memory.Slots.copy_to.Goals as goal

pub loop-slot-init : goal.loop-slot-init
unfolding joined
loop-slot-init c =
    (sym (ap (λ (xs : List ℕ). length xs) (take-nil (length c.args.out.now))), sym (ap (λ (xs : List ℕ). xs ++ c.args.out.now) (take-nil (length c.args.out.now))))

pub loop-slot-preserved : goal.loop-slot-preserved
loop-slot-preserved c =
    let ss = c.args.self.now in
    let i = c.loop-slot.slot-index in
    let at = c.loop-slot.at in
    let old = c.args.out.now in
    let bs = c.unwrap_or.result.now in
    let n = length old in
    let k : length c.loop-slot.out ≡ n = c.loop-slot.auto.out in
    let more : joined (i + 1) ss ≡ joined i ss ++ bs =
    joined-slot i c.from.result c.all.result.now ss bs c.loop-slot-test.true c.all.ensures.slots
    (held-bytes (slot_read (get_or (take c.from.result c.all.result.now) i [])) c.part.result c.unwrap_or.result _ c.part.ensures refl c.unwrap_or.ensures)
    in
    let next : c.write-at.result ≡ at + length (take (n - at) bs) = c.write-at.ensures.next ∙ ap (λ (m : ℕ). at + length (take (m - at) bs)) k in (
      next ∙ copied-count n (joined i ss) bs at c.loop-slot.invariant.0 ∙ ap (λ (xs : List ℕ). length (take n xs)) (sym more),
      c.write-at.ensures.written ∙ ap (λ (m : ℕ). overwritten at (take (m - at) bs) c.loop-slot.out) k ∙
          copied_more n (joined i ss) bs old c.loop-slot.out at c.loop-slot.invariant.0 c.loop-slot.invariant.1 ∙
          ap (λ (xs : List ℕ). take n xs ++ drop (at + length (take (n - at) bs)) old) (sym more) ∙
          ap (λ (m : ℕ). take n (joined (i + 1) ss) ++ drop m old) (sym next),
    )
