-- Each turn writes one place more.
use Rattle.std.proofs.Common.{sym, ◌∙◌, arith}
use Rattle.text.specs.Lines.{digit_of}
use Rattle.text.proofs.Loops.{mapped-more, mapped-all}
use Rattle.text.proofs.lines.put_digits.Goals as goal

pub loop-i-preserved : goal.loop-i-preserved
loop-i-preserved c =
    mapped-more digit_of c.args.bits.now c.loop-i.out c.loop-i.i (omega arith) (omega arith) ∙ c.loop-i.invariant

pub returns : goal.returns
returns c = sym (mapped-all digit_of c.args.bits.now c.loop-i.out c.loop-i.i (omega arith) (omega arith)) ∙ c.loop-i.invariant
