-- Zeros stand in the place of the text.
use Rattle.std.proofs.Common.{arith}
use Rattle.std.proofs.lemmas.List.{length-take-le}
use Rattle.text.proofs.Held.{filled_none}
use Rattle.text.proofs.line.Line.clear.Goals as goal

pub invariant_of-self : goal.invariant_of-self
invariant_of-self c =
    let h = c.self.invariant in
    let count = c.self.inside.count in
    filled_none c.self.inside.bytes c.fill.new.self count _ h (c.fill.ensures.after (λ y e. e)) (omega (arith, h.within, h.long, length-take-le count c.self.inside.bytes))
