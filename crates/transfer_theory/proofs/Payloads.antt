-- What is read of a payload is what it was built of. Assumes nothing.
use Rattle.std.proofs.Common.{◌≡◌, ℕ, ◌+◌, ◌-◌, ◌*◌, ◌/◌, ◌%◌, ◌^◌, ◌<◌, ◌≤◌, List, [], ◌∷◌, ◌++◌, length, take, sym, refl, ap, ◌∙◌, append_assoc, arith, take_at}
use native.Mathlib.Nat.{div-div-eq-div-mul}
use lib.Seq.{take-append-add}
use Rattle.bits.specs.Lists.{zeros}
use Rattle.transfer_theory.specs.Payload.{filled, built, payload, at, kind_of, file_of, number_of, body_of, length_of}
use Rattle.transfer_theory.specs.Parts.{length4}

-- filling up only adds behind
pub filled-split : (n : ℕ) (xs : List ℕ) → length xs ≤ n → (z : List ℕ) × (filled n xs ≡ xs ++ z)
unfolding filled
filled-split n xs h =
    let e : n ≡ length xs + (n - length xs) = omega arith in
    (take (n - length xs) (zeros n), ap (λ (k : ℕ). take k (xs ++ zeros n)) e ∙ take-append-add xs (zeros n) (n - length xs))

-- a payload is its head, its bytes and something behind
pub built-split :
    (a b : ℕ) (last : List ℕ) (kind file n : ℕ) (bs : List ℕ) → length bs + length last ≤ 214 →
    (z : List ℕ) × (built a b last kind file n bs ≡ kind ∷ file ∷ n / 256 ∷ n % 256 ∷ length bs ∷ a ∷ b ∷ (bs ++ z))
unfolding built
built-split a b last kind file n bs h =
    let s = filled-split (221 - length last) (kind ∷ file ∷ n / 256 ∷ n % 256 ∷ length bs ∷ a ∷ b ∷ bs) (omega arith) in (
      s.0 ++ last,
      ap (λ (x : List ℕ). x ++ last) s.1 ∙
          ap (λ (x : List ℕ). kind ∷ file ∷ n / 256 ∷ n % 256 ∷ length bs ∷ a ∷ b ∷ x) (append_assoc bs s.0 last),
    )

pub record Reads (kind file n : ℕ) (bs p : List ℕ) : Type 0 where
  pub kind-is : kind_of p ≡ kind
  pub file-is : file_of p ≡ file
  pub number_is : number_of p ≡ n
  pub count-is : at p 4 ≡ length bs
  pub body_is : body_of p ≡ bs

-- all that is read of a payload
pub built-reads :
    (a b : ℕ) (last : List ℕ) (kind file n : ℕ) (bs : List ℕ) → length bs + length last ≤ 214 → Reads kind file n bs (built a b last kind file n bs)
built-reads a b last kind file n bs h =
    let s = built-split a b last kind file n bs h in
    let e = s.1 in
    let z : ℕ = 0 in
    record {
      kind-is = ap (λ (p : List ℕ). at p 0) e;
      file-is = ap (λ (p : List ℕ). at p 1) e;
      number_is = let q : 256 * (n / 256) + n % 256 ≡ n = omega arith in ap number_of e ∙ q;
      count-is = ap (λ (p : List ℕ). at p 4) e;
      body_is = ap body_of e ∙ take_at bs s.0 (length bs) refl;
    }

pub payload-reads : (kind file n : ℕ) (bs : List ℕ) → length bs ≤ 214 → Reads kind file n bs (payload kind file n bs)
payload-reads kind file n bs h = built-reads 0 0 [] kind file n bs (omega arith)

-- four bytes read back
four-sum :
    (m a b c r s t : ℕ) → 256 * a + r ≡ m → 256 * b + s ≡ a → 256 * c + t ≡ b → 16777216 * c + 65536 * t + 256 * s + r ≡ m
four-sum m a b c r s t x y z = omega arith

cut : (m : ℕ) → 256 * (m / 256) + m % 256 ≡ m
cut m = omega arith

pub four : (m : ℕ) → m < 2 ^ 32 → 16777216 * ((m / 16777216) % 256) + 65536 * ((m / 65536) % 256) + 256 * ((m / 256) % 256) + m % 256 ≡ m
four m h =
    let a : (m / 256) / 256 ≡ m / 65536 = div-div-eq-div-mul m 256 256 in
    let b : (m / 65536) / 256 ≡ m / 16777216 = div-div-eq-div-mul m 65536 256 in
    let c : (m / 16777216) % 256 ≡ m / 16777216 = omega arith in
    let x : 256 * (m / 65536) + (m / 256) % 256 ≡ m / 256 = ap (λ (k : ℕ). 256 * k + (m / 256) % 256) (sym a) ∙ cut (m / 256) in
    let y : 256 * ((m / 16777216) % 256) + (m / 65536) % 256 ≡ m / 65536 = ap (λ (k : ℕ). 256 * k + (m / 65536) % 256) (c ∙ sym b) ∙ cut (m / 65536) in
    four-sum m (m / 256) (m / 65536) ((m / 16777216) % 256) (m % 256) ((m / 256) % 256) ((m / 65536) % 256) (cut m) x y

pub length-reads : (kind file n m : ℕ) → m < 2 ^ 32 → length_of (payload kind file n (length4 m)) ≡ m
length-reads kind file n m h = ap length_of (built-split 0 0 [] kind file n (length4 m) (omega arith)).1 ∙ four m h
