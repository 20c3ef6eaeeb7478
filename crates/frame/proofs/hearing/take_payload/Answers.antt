-- No code word within reach, or what is taken from it.
use Rattle.std.proofs.Common.{ℕ, List, Option, sym, subst}
use Rattle.bits.specs.Heard.{heard_of}
use Rattle.frame_theory.specs.Frame.{Taken, far}
use Rattle.frame.proofs.Taking.{taken}
use Rattle.frame.proofs.hearing.take_payload.Goals as goal

pub returns-in_err-repair : goal.returns-in_err-repair
returns-in_err-repair c = subst (λ (r : Option (List ℕ)). Taken c.args.word.bytes (heard_of r)) (sym c.from_residual.ensures) (far c.in_err-repair.ensures.repaired.1)

pub returns : goal.returns
returns c =
    taken c.args.word.bytes c.repair.new.self.bytes c.payload.result _ c.check_is_right.result c.then_some.result c.in_ok-repair.ensures.repaired
    c.check_is_right.ensures c.payload.ensures c.then_some.ensures
