-- Each place has its locator. Assumes nothing.
use Rattle.std.proofs.Common.{rules}
use Rattle.rs_decoding.proofs.polynomial.places.Goals as goal

pub returns : goal.returns
returns c = λ p h. let k = (c.from_fn.ensures.items.at p 0 h).2 in search rules
