-- A message and a register written one behind the other. Assumes nothing.
use Rattle.std.proofs.Common.{◌≡◌, ℕ, ◌≤◌, List, [], ◌++◌, length, drop, ap, ◌∙◌, ap₂, arith, length-append}
use borrow.Rule.Slice.PartMut.{put_mid}
use Rattle.std.proofs.lemmas.List.{append-nil, take_at, drop_at, drop_all}

pub long_enough : (n : ℕ) (x z : List ℕ) → length x ≡ 223 → length z ≡ 32 → n ≤ 255 → n ≤ length (x ++ z)
long_enough n x z h k l = omega (arith, length-append x z)

pub both_written : (x z y m r : List ℕ) → length x ≡ 223 → length z ≡ 32 → x ≡ m → y ≡ r → put_mid 223 32 (x ++ z) y ≡ m ++ r
both_written x z y m r h k e f =
    let back : drop 32 (drop 223 (x ++ z)) ≡ [] = ap (drop 32) (drop_at x z 223 h) ∙ drop_all 32 z (omega arith) in
    ap₂ ◌++◌ (take_at x z 223 h ∙ e) (ap₂ ◌++◌ f back ∙ append-nil r)
