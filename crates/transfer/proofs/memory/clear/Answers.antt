-- One more count byte is 0; when all are, no slot has a part.
use Rattle.std.proofs.Common.{ℕ, ◌*◌, List, length, get_or, ap, ◌∙◌, arith, length-set, get_or-set_other, get_or-set_same, below_more}
use Rattle.transfer.proofs.Slotted.{cleared}
use Rattle.transfer.proofs.memory.clear.Goals as goal

pub loop-slot-preserved : goal.loop-slot-preserved
loop-slot-preserved c =
    let m = c.loop-slot.memory in
    let i = c.loop-slot.slot in
    let e = c.write_count.ensures in (
      ap length e ∙ length-set m (215 * i) 0 ∙ c.loop-slot.invariant.0,
      below_more _ _
          (λ k h. ap (λ (xs : List ℕ). get_or xs (215 * k) 0) e ∙ get_or-set_other m (215 * i) (215 * k) 0 0 (λ q. let z : ⊥ = omega arith in absurd z) ∙ c.loop-slot.invariant.1 k h)
          (ap (λ (xs : List ℕ). get_or xs (215 * i) 0) e ∙ get_or-set_same m (215 * i) 0 0 (let l = c.loop-slot.invariant.0 in omega arith)),
    )

pub returns : goal.returns
returns c = cleared c.loop-slot.memory (λ k h. c.loop-slot.invariant.1 k (omega arith))
