-- What is read back along the decisions is what the search finds.
use Rattle.std.proofs.Common.{ℕ, map, length, get_or, ap, ◌∙◌}
use Rattle.std.proofs.lemmas.List.{length-map}
use Rattle.conv_theory.specs.Columns.{costs_after}
use Rattle.conv_theory.proofs.Columns.{end-cost}
use Rattle.convolutional.proofs.decoder.search.Goals as goal

pub returns-clause-cost : goal.returns-clause-cost
returns-clause-cost g c =
    let cs = map g.H.Heard.costs c.args.heard.now in
    let long = length-map c.args.heard.now g.H.Heard.costs ∙ c.requires.heard in
    c.forward-least.ensures.cost ∙ ap (λ (k : ℕ). get_or (costs_after cs k) 0 0) c.requires.columns ∙ end-cost (length c.args.out.now) cs long
