-- The value of decimal digits, one digit further. Assumes nothing.
use Rattle.std.proofs.Common.{◌≡◌, ℕ, ◌+◌, ◌-◌, ◌*◌, ◌<◌, ◌≤◌, true, ◌&&◌, T, List, [], ◌∷◌, length, get_or, drop, sym, ap, ◌∙◌, arith}
use Rattle.std.proofs.lemmas.List.{drop_more, drop_all}
use Rattle.std.proofs.lemmas.Bool.{and_parts}
use Rattle.bits.proofs.Tests.{holds-true}
use Rattle.text.specs.Numbers.{is_decimal, are_decimal, decimal_from, decimal}

pub are_decimal_more : (xs : List ℕ) (i : ℕ) → i < length xs → are_decimal (drop i xs) ≡ (is_decimal (get_or xs i 0) && are_decimal (drop (i + 1) xs))
are_decimal_more xs i h = ap are_decimal (drop_more xs i 0 h)

pub are_decimal_all : (xs : List ℕ) (i : ℕ) → length xs ≤ i → are_decimal (drop i xs) ≡ true
are_decimal_all xs i h = ap are_decimal (drop_all i xs h)

pub decimal_from_more : (xs : List ℕ) (i v : ℕ) → i < length xs → decimal_from v (drop i xs) ≡ decimal_from (10 * v + (get_or xs i 0 - 48)) (drop (i + 1) xs)
unfolding decimal_from
decimal_from_more xs i v h = ap (decimal_from v) (drop_more xs i 0 h)

pub decimal_from_all : (xs : List ℕ) (i v : ℕ) → length xs ≤ i → decimal_from v (drop i xs) ≡ v
unfolding decimal_from
decimal_from_all xs i v h = ap (decimal_from v) (drop_all i xs h)

-- more digits never stand for less
pub decimal_from-ge : (v : ℕ) (xs : List ℕ) → v ≤ decimal_from v xs
unfolding decimal_from
decimal_from-ge v [] = omega arith
decimal_from-ge v (x ∷ xs) = let h = decimal_from-ge (10 * v + (x - 48)) xs in omega arith

-- a digit that is none, or that leads past the bound, refuses the whole
pub refused_at : (xs : List ℕ) (i v most : ℕ) → i < length xs → decimal_from v (drop i xs) ≡ decimal xs → are_decimal (drop i xs) ≡ are_decimal xs →
    (is_decimal (get_or xs i 0) ≡ true → 10 * v + (get_or xs i 0 - 48) ≤ most → ⊥) → T (are_decimal xs) → decimal xs ≤ most → ⊥
refused_at xs i v most h value tested bad all within =
    let both = and_parts (is_decimal (get_or xs i 0)) (are_decimal (drop (i + 1) xs)) (sym (are_decimal_more xs i h) ∙ tested ∙ holds-true _ all) in
    let w = 10 * v + (get_or xs i 0 - 48) in
    let more = decimal_from-ge w (drop (i + 1) xs) in
    let step = decimal_from_more xs i v h in
    bad both.0 (omega arith)
