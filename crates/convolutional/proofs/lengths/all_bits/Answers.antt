-- The greatest decides.
use Rattle.std.proofs.Common.{◌≡◌, max, fold, refl, rules, arith}
use Rattle.convolutional.proofs.Greatest.{greatest_of_bits, greatest_of_others}
use Rattle.convolutional.proofs.lengths.all_bits.Goals as goal

pub returns-then-fold-lt2 : goal.returns-then-fold-lt2
returns-then-fold-lt2 c = let e : c.fold.result ≡ fold (λ a x. max a x) 0 c.args.bits.now = search rules in greatest_of_bits _ _ e c.if-fold-lt2.true

pub returns-else-fold-lt2 : goal.returns-else-fold-lt2
returns-else-fold-lt2 c = let e : c.fold.result ≡ fold (λ a x. max a x) 0 c.args.bits.now = search rules in (greatest_of_others _ _ e (omega (arith, c.if-fold-lt2.false)), refl)
