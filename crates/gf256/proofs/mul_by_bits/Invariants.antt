use Rattle.std.proofs.Common.{◌≡◌, ◌-◌, ◌≤◌}
use lib.Bits.{bit_xor}
use Rattle.gf256.specs.Field.{product, product_by}
use Rattle.gf256.proofs.mul_by_bits.Given as goal

-- with what the bits that are left add, the sum is the product
abbrev pub invariant-loop : goal.invariant-loop
invariant-loop l = (l.counter ≤ 8) × (bit_xor l.sum (product_by (8 - l.counter) l.multiple l.rest) ≡ product l.fn.a l.fn.b)
