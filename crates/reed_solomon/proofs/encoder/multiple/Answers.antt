-- The tables have the multiples of the generator by each half of a byte. Assumes nothing.
use Rattle.std.proofs.Common.{◌≡◌, ℕ, ◌*◌, ◌%◌, [], get_or, ap, ◌∙◌, arith}
use lib.Bits.{bit_and, and_mask}
use Rattle.gf256.specs.Field.{product, product_by}
use Rattle.rs_theory.specs.Code.{generator, feed}
use Rattle.rs_theory.proofs.Generator.{coefficients}
use Rattle.rs_theory.proofs.Register.{rows_from, low-at, high-at, multiple-is}
use Rattle.reed_solomon.proofs.encoder.multiple.Goals as goal

pub returns : goal.returns
unfolding rows_from feed coefficients product product_by
returns c =
    let mask : bit_and c.args.f 15 ≡ c.args.f % 16 = and_mask c.args.f 4 in
    multiple-is c.args.f (get_or (rows_from 16 0 1) c.from.result []) (get_or (rows_from 16 0 16) c.from-2.result []) c.add.new.sum c.ranges.f.fits
    (low-at c.from.result (omega (arith, c.from.ensures, mask)) ∙ ap (λ (n : ℕ). feed n (generator 32) []) (c.from.ensures ∙ mask))
    (high-at c.from-2.result (omega (arith, c.from-2.ensures)) ∙ ap (λ (n : ℕ). feed (16 * n) (generator 32) []) c.from-2.ensures)
    c.add.array_long (λ k h. c.add.ensures k)
