-- Numbers as arguments: decimal digits only, at least one, leading zeros allowed. Assumes nothing.
use Rattle.std.specs.Prelude.{◌≡◌, ℕ, ◌+◌, ◌-◌, ◌*◌, ◌<◌, ◌≤◌, Bool, true, ◌&&◌, T, List, [], ◌∷◌, length, Ok, Err, Result, nat_le}
use Rattle.std.specs.List.{list_all}
use Rattle.bits.specs.declared.Refusal.{Refusal}
use Rattle.bits.specs.declared.Refusal.TheVariants.{UnknownText}

-- whether a byte is a decimal digit
abbrev pub is_decimal : ℕ → Bool
is_decimal x = nat_le 48 x && nat_le x 57

abbrev pub are_decimal : List ℕ → Bool
are_decimal xs = list_all is_decimal xs

-- the value of decimal digits behind a number that stands there already, and of digits alone
unfoldable pub decimal_from : ℕ → List ℕ → ℕ
decimal_from v [] = v
decimal_from v (x ∷ xs) = decimal_from (10 * v + (x - 48)) xs

abbrev pub decimal : List ℕ → ℕ
decimal xs = decimal_from 0 xs

-- a text that stands for a number of at most `most`: one decimal digit or more, and nothing else
abbrev pub Numeral : List ℕ → ℕ → Type 0
Numeral text most = (0 < length text) × T (are_decimal text) × (decimal text ≤ most)

-- a text read as such a number: its value, or a refusal exactly where it is none
abbrev pub NumberRead : List ℕ → ℕ → Result ℕ Refusal → Type 0
NumberRead text most (Ok v) = Numeral text most × (v ≡ decimal text)
NumberRead text most (Err e) = (Numeral text most → ⊥) × (e ≡ UnknownText)

-- the same of digits of which there may be none
abbrev pub Counted : List ℕ → ℕ → Result ℕ Refusal → Type 0
Counted text most (Ok v) = T (are_decimal text) × (v ≡ decimal text) × (v ≤ most)
Counted text most (Err e) = (T (are_decimal text) → decimal text ≤ most → ⊥) × (e ≡ UnknownText)

-- the same of one digit more behind the number v
abbrev pub Appended : ℕ → ℕ → ℕ → Result ℕ Refusal → Type 0
Appended v x most (Ok w) = (is_decimal x ≡ true) × (w ≡ 10 * v + (x - 48)) × (w ≤ most)
Appended v x most (Err e) = (is_decimal x ≡ true → 10 * v + (x - 48) ≤ most → ⊥) × (e ≡ UnknownText)
