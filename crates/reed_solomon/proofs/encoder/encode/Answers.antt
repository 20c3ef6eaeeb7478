-- The message and its remainder are the encoding, by its definition. Assumes nothing.
use Rattle.std.proofs.Common.{ℕ, List, ◌++◌, ap, ◌∙◌}
use Rattle.rs_theory.specs.Code.{encode}
use Rattle.reed_solomon.proofs.encoder.encode.Goals as goal

pub returns : goal.returns
unfolding encode
returns c = c.joined.ensures ∙ ap (λ (r : List ℕ). c.args.message.now ++ r) c.divided.ensures
