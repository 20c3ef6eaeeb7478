-- The bytes written over zeros.
use Rattle.std.proofs.Common.{List, ℕ, ap, ◌∙◌, ◌≡◌, ◌∷◌, ◌++◌, ◌/◌, ◌%◌, get_or, arith}
use Rattle.bits.specs.Lists.{zeros}
use Rattle.transfer.proofs.message.head.Goals as goal

pub returns : goal.returns
unfolding zeros
returns c =
    let q : c.args.number / 256 % 256 ≡ c.args.number / 256 = let r = c.ranges.number.fits in omega arith in
    ap (λ (xs : List ℕ). xs ++ 0 ∷ 0 ∷ zeros 214) c.copy_from_slice.ensures.after ∙
    ap (λ (ws : List ℕ). c.args.kind ∷ c.args.file ∷ get_or ws 0 0 ∷ get_or ws 1 0 ∷ c.args.count ∷ 0 ∷ 0 ∷ zeros 214) c.to_be_bytes.ensures ∙
    ap (λ (high : ℕ). c.args.kind ∷ c.args.file ∷ high ∷ c.args.number % 256 ∷ c.args.count ∷ 0 ∷ 0 ∷ zeros 214) q
