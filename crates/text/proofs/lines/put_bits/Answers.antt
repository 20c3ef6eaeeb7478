-- Each turn writes one place more.
use Rattle.std.proofs.Common.{ℕ, ◌+◌, set, sym, ap, ◌∙◌, arith}
use Rattle.text.specs.Lines.{bit_of}
use Rattle.text.proofs.Loops.{mapped, mapped-more, mapped-all}
use Rattle.text.proofs.lines.put_bits.Goals as goal

pub loop-i-preserved : goal.loop-i-preserved
loop-i-preserved c =
    ap (λ (y : ℕ). mapped bit_of (c.loop-i.i + 1) c.args.line.now (set c.loop-i.out c.loop-i.i y)) c.saturating_sub.ensures
    ∙ mapped-more bit_of c.args.line.now c.loop-i.out c.loop-i.i (omega arith) (omega arith) ∙ c.loop-i.invariant

pub returns : goal.returns
returns c = sym (mapped-all bit_of c.args.line.now c.loop-i.out c.loop-i.i (omega arith) (omega arith)) ∙ c.loop-i.invariant
