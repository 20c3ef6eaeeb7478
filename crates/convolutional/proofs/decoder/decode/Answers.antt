-- What is found is the cheapest.
use Rattle.std.proofs.Common.{◌≡◌, ◌+◌, ◌*◌, length, arith}
use Rattle.std.proofs.lemmas.Grind.{common_steps}
use Rattle.convolutional.proofs.Decoding.{cheapest_found}
use Rattle.convolutional.proofs.decoder.decode.Goals as goal

pub returns-clause-cheapest : goal.returns-clause-cheapest
returns-clause-cheapest c =
    let long : length c.args.costs.now ≡ 2 * (length c.args.out.now + 6) = grind (arith, common_steps) in
    cheapest_found _ _ _ long c.search.ensures.found
