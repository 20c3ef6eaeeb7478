use Rattle.std.proofs.Common.{◌≡◌, ◌≢◌, ℕ, Bool, true, false, eqb, List, MatchBool, sym}
use lib.Pointwise.{pointwise, bytes_decides}
use Rattle.bits.specs.Lists.{zeros}
use Rattle.reed_solomon.proofs.decoder.all_zero.Goals as goal

-- what the comparison with zeros says
zero-test : (b : Bool) (s zs : List ℕ) → b ≡ pointwise eqb s zs → MatchBool b (s ≡ zs) (s ≢ zs)
zero-test true s zs e = (bytes_decides s zs).0 (sym e)
zero-test false s zs e = λ z. let t : pointwise eqb s zs ≡ true = (bytes_decides s zs).1 z in cc

pub returns : goal.returns
unfolding zeros
returns c = zero-test c.eq.result c.args.s.now _ c.eq.ensures
