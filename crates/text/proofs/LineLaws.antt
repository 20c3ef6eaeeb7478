-- What is written is read back, and nothing else is read as a frame. Assumes nothing.
use Rattle.std.proofs.Common.{◌≡◌, ℕ, ◌%◌, ◌<◌, Bool, true, false, cond, ◌&&◌, T, eqb, List, [], ◌∷◌, length, take, sym, refl, ap, ◌∙◌, subst, ⊎_elim, arith}
use Rattle.std.proofs.lemmas.List.{length-map, take_all, length-take-le, nil_from_length}
use Rattle.std.proofs.lemmas.Bool.{eq-eqb, ne_eqb, eqb-true, and_parts, and_from, and_left, or_cases, or_left, or_right, cases_lt, cases_eq}
use Rattle.bits.specs.Lists.{are_bits}
use Rattle.bits.proofs.Tests.{under-nil, under-cons, under-head, under_tail}
use Rattle.text.specs.Lines.{Nothing, Bits, Unknown, digit_of, bit_of, digits, bits_in, is_digit, are_digits, said}
use Rattle.text.specs.Laws.{LineLaws}

digit-of : (b : ℕ) → is_digit (digit_of b) ≡ true
digit-of b =
    ⊎_elim
    (λ e. or_left (eqb (digit_of b) 48) (eqb (digit_of b) 49) (eq-eqb (digit_of b) 48 (omega arith)))
    (λ e. or_right (eqb (digit_of b) 48) (eqb (digit_of b) 49) (eq-eqb (digit_of b) 49 (omega arith)))
    (cases_eq (b % 2) 0)

all_digits : (bs : List ℕ) → are_digits (digits bs) ≡ true
all_digits [] = refl
all_digits (b ∷ bs) = and_from (is_digit (digit_of b)) (are_digits (digits bs)) (digit-of b) (all_digits bs)

bits_back : (bs : List ℕ) → T (are_bits bs) → bits_in (digits bs) ≡ bs
bits_back [] t = refl
bits_back (b ∷ bs) t =
    let h = under-head 2 b bs t in
    let e : bit_of (digit_of b) ≡ b = omega arith in
    ap (λ (x : ℕ). x ∷ bits_in (digits bs)) e ∙ ap (λ (xs : List ℕ). b ∷ xs) (bits_back bs (under_tail 2 b bs t))

read_back : (n : ℕ) (bs : List ℕ) → 0 < n → length bs ≡ n → T (are_bits bs) → said n (digits bs) ≡ Bits bs
read_back n bs h e t =
    let long : length (digits bs) ≡ n = length-map bs digit_of ∙ e in
    let some : eqb (length (digits bs)) 0 ≡ false = ne_eqb (length (digits bs)) 0 (λ z. omega arith) in
    let whole : (eqb (length (digits bs)) n && are_digits (digits bs)) ≡ true = and_from _ _ (eq-eqb (length (digits bs)) n long) (all_digits bs) in
    ap (λ (z : Bool). cond z Nothing (cond (eqb (length (digits bs)) n && are_digits (digits bs)) (Bits (bits_in (digits bs))) Unknown)) some
    ∙ ap (λ (z : Bool). cond z (Bits (bits_in (digits bs))) Unknown) whole
    ∙ ap Bits (bits_back bs t)

-- a digit is the digit of its bit, and that bit is 0 or 1
of-digit : (x : ℕ) → is_digit x ≡ true → (x ≡ digit_of (bit_of x)) × (bit_of x < 2)
of-digit x e =
    ⊎_elim
    (λ h. let k = eqb-true x 48 h in (omega arith, omega arith))
    (λ h. let k = eqb-true x 49 h in (omega arith, omega arith))
    (or_cases (eqb x 48) (eqb x 49) e)

digits-back : (xs : List ℕ) → are_digits xs ≡ true → (xs ≡ digits (bits_in xs)) × T (are_bits (bits_in xs))
digits-back [] e = (refl, under-nil 2)
digits-back (x ∷ xs) e =
    let parts = and_parts (is_digit x) (are_digits xs) e in
    let first = of-digit x parts.0 in
    let rest = digits-back xs parts.1 in (
      ap (λ (y : ℕ). y ∷ xs) first.0 ∙ ap (λ (ys : List ℕ). digit_of (bit_of x) ∷ ys) rest.0,
      under-cons 2 (bit_of x) (bits_in xs) first.1 rest.1,
    )

-- which of the three cases it was
was-bits : (z d : Bool) (xs bs : List ℕ) → cond z Nothing (cond d (Bits xs) Unknown) ≡ Bits bs → (d ≡ true) × (xs ≡ bs)
was-bits true d xs bs e = let z : ◌≡◌ {A = ℕ} 0 1 = cc in absurd (omega arith)
was-bits false true xs bs e = (refl, cc)
was-bits false false xs bs e = let z : ◌≡◌ {A = ℕ} 0 1 = cc in absurd (omega arith)

was-nothing : (z d : Bool) (xs : List ℕ) → cond z Nothing (cond d (Bits xs) Unknown) ≡ Nothing → z ≡ true
was-nothing true d xs e = refl
was-nothing false true xs e = let z : ◌≡◌ {A = ℕ} 0 1 = cc in absurd (omega arith)
was-nothing false false xs e = let z : ◌≡◌ {A = ℕ} 0 1 = cc in absurd (omega arith)

frames-only : (n : ℕ) (line bs : List ℕ) → said n line ≡ Bits bs → (line ≡ digits bs) × (length bs ≡ n) × T (are_bits bs)
frames-only n line bs e =
    let was = was-bits (eqb (length line) 0) (eqb (length line) n && are_digits line) (bits_in line) bs e in
    let parts = and_parts (eqb (length line) n) (are_digits line) was.0 in
    let back = digits-back line parts.1 in (
      back.0 ∙ ap digits was.1,
      ap (λ (ys : List ℕ). length ys) (sym was.1) ∙ length-map line bit_of ∙ eqb-true (length line) n parts.0,
      subst (λ (ys : List ℕ). T (are_bits ys)) was.1 back.1,
    )

only-silence : (n : ℕ) (line : List ℕ) → said n line ≡ Nothing → line ≡ []
only-silence n line e = nil_from_length line (eqb-true (length line) 0 (was-nothing (eqb (length line) 0) (eqb (length line) n && are_digits line) (bits_in line) e))

-- a line that is longer than a frame is unknown
too_long : (n : ℕ) (line : List ℕ) → n < length line → said n line ≡ Unknown
too_long n line h =
    let some : eqb (length line) 0 ≡ false = ne_eqb (length line) 0 (λ z. omega arith) in
    let other : (eqb (length line) n && are_digits line) ≡ false = and_left (eqb (length line) n) (are_digits line) (ne_eqb (length line) n (λ z. omega arith)) in
    ap (λ (z : Bool). cond z Nothing (cond (eqb (length line) n && are_digits line) (Bits (bits_in line)) Unknown)) some
    ∙ ap (λ (z : Bool). cond z (Bits (bits_in line)) Unknown) other

front-says : (m n : ℕ) (line : List ℕ) → n < m → said n (take m line) ≡ said n line
front-says m n line h =
    ⊎_elim
    (λ k. too_long n (take m line) (let e = length-take-le m line (omega arith) in omega arith) ∙ sym (too_long n line (omega arith)))
    (λ k. ap (said n) (take_all m line k))
    (cases_lt m (length line))

pub line-laws : LineLaws
line-laws = record { read_back = read_back; frames_only = frames-only; silence = only-silence; front = front-says 4093 }
