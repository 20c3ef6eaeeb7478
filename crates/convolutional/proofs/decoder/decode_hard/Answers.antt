-- What is found is the nearest, and what it costs is at how many bits it differs.
use Rattle.std.proofs.Common.{◌≡◌, ◌+◌, ◌*◌, length, ◌∙◌, arith}
use Rattle.std.proofs.lemmas.Grind.{common_steps}
use Rattle.convolutional.proofs.Decoding.{nearest_found, hard_distance}
use Rattle.convolutional.proofs.decoder.decode_hard.Goals as goal

pub returns-clause-found : goal.returns-clause-found
returns-clause-found c =
    let long : length c.args.bits.now ≡ 2 * (length c.args.out.now + 6) = grind (arith, common_steps) in (
      c.search-distance.ensures.found,
      c.from.ensures ∙ c.search-distance.ensures.cost ∙ hard_distance _ _ long c.in_ok-all_bits.ensures,
    )

pub returns-clause-nearest : goal.returns-clause-nearest
returns-clause-nearest c =
    let long : length c.args.bits.now ≡ 2 * (length c.args.out.now + 6) = grind (arith, common_steps) in
    nearest_found _ _ _ long c.in_ok-all_bits.ensures c.search-distance.ensures.found
