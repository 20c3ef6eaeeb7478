-- The count of a number's ones, modulo 2, is its parity. Assumes nothing.
use Rattle.std.proofs.Common.{◌≡◌, ℕ, zero, suc, ◌/◌, ◌%◌, ◌^◌, ◌<◌, ap, pow-suc, arith}
use lib.Count.{ones, ones_step}
use Rattle.conv_theory.specs.Code.{parity}

half-below : (n w : ℕ) → w < 2 ^ suc n → w / 2 < 2 ^ n
half-below n w h = omega (arith, pow-suc 2 n)

pub ones-parity : (n w : ℕ) → w < 2 ^ n → ones w % 2 ≡ parity n w
unfolding parity ones
ones-parity zero w h = let e : w ≡ 0 = omega arith in ap (λ (v : ℕ). ones v % 2) e
ones-parity (suc n) w h =
    let i = ones-parity n (w / 2) (half-below n w h) in
    let s = ones_step w in
    omega (arith, i, s)
