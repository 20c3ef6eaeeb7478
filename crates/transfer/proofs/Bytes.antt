-- Lists of bytes: a body that is cut at the payload's end, zeros behind, and a payload written out. Assumes nothing.
use Rattle.std.proofs.Common.{◌≡◌, ℕ, zero, suc, ◌+◌, ◌-◌, ◌/◌, ◌%◌, ◌*◌, ◌≤◌, min, List, [], ◌∷◌, ◌++◌, length, take, drop, sym, refl, ap, ◌∙◌, inl, inr, append-nil, arith, length-drop, take_all}
use native.Mathlib.Nat.{zero-sub, sub-zero}
use lib.Seq.{take-append-add}
use borrow.Rule.Slice.PartMut.{put_mid}
use Rattle.bits.specs.Lists.{zeros}
use Rattle.std.proofs.lemmas.Bool.{cases_lt}
use Rattle.transfer_theory.specs.Payload.{filled, built, payload}
use Rattle.transfer_theory.specs.Parts.{part}

-- all that is there, where that is less than is asked
take-cut : (xs : List ℕ) (a k : ℕ) → k ≡ min a (length xs) → take k xs ≡ take a xs
take-cut xs a k z =
    elim (cases_lt (length xs) a) [
      | inl h ↦ take_all k xs (omega arith) ∙ sym (take_all a xs (omega arith))
      | inr h ↦ let q : k ≡ a = omega arith in ap (λ (j : ℕ). take j xs) q
    ]

-- a part as a range of the file that ends with it
pub part_range : (f : List ℕ) (i e : ℕ) → e ≡ min (214 * i + 214) (length f) → 214 * i ≤ length f → take (e - 214 * i) (drop (214 * i) f) ≡ part f i
part_range f i e q h = let l = length-drop (214 * i) f in take-cut (drop (214 * i) f) 214 (e - 214 * i) (omega arith)

pub take_min : (a b : ℕ) (xs : List ℕ) → take a (take b xs) ≡ take (min a b) xs
take_min zero b xs = let q : 0 ≡ min 0 b = omega arith in ap (λ (k : ℕ). take k xs) q
take_min (suc a) zero xs = let q : 0 ≡ min (suc a) 0 = omega arith in ap (λ (k : ℕ). take k xs) q
take_min (suc a) (suc b) [] = let q : suc (min a b) ≡ min (suc a) (suc b) = omega arith in ap (λ (k : ℕ). take k []) q
take_min (suc a) (suc b) (x ∷ xs) =
    let q : suc (min a b) ≡ min (suc a) (suc b) = omega arith in ap (λ (ys : List ℕ). x ∷ ys) (take_min a b xs) ∙ ap (λ (k : ℕ). take k (x ∷ xs)) q

-- a count above what is there takes what is there
pub body-cut : (p : List ℕ) (c m : ℕ) → length p ≡ 221 → m ≡ min c 214 → take c (drop 7 p) ≡ take (7 + m - 7) (drop 7 p)
body-cut p c m e q = go (length-drop 7 p ∙ ap (λ (k : ℕ). k - 7) e)
  where
    z : 7 + m - 7 ≡ min c 214
    z = omega arith

    go : length (drop 7 p) ≡ 214 → take c (drop 7 p) ≡ take (7 + m - 7) (drop 7 p)
    go l = ap (λ (xs : List ℕ). take c xs) (sym (take_all 214 (drop 7 p) (omega arith))) ∙ take_min c 214 (drop 7 p) ∙ ap (λ (k : ℕ). take k (drop 7 p)) (sym z)

pub drop-zeros : (n m : ℕ) → drop n (zeros m) ≡ zeros (m - n)
unfolding zeros
drop-zeros zero m = ap zeros (sym (sub-zero m))
drop-zeros (suc n) zero = ap zeros (sym (zero-sub (suc n)))
drop-zeros (suc n) (suc m) = let q : m - n ≡ suc m - suc n = omega arith in drop-zeros n m ∙ ap zeros q

pub take-zeros : (n m : ℕ) → n ≤ m → take n (zeros m) ≡ zeros n
unfolding zeros
take-zeros zero m h = refl
take-zeros (suc n) zero h = let z : ⊥ = omega arith in absurd z
take-zeros (suc n) (suc m) h = ap (λ (xs : List ℕ). 0 ∷ xs) (take-zeros n m (omega arith))

-- a payload, written out
pub payload-is :
    (kind file n : ℕ) (bs : List ℕ) → length bs ≤ 214 →
    payload kind file n bs ≡ kind ∷ file ∷ n / 256 ∷ n % 256 ∷ length bs ∷ 0 ∷ 0 ∷ (bs ++ zeros (214 - length bs))
unfolding built filled
payload-is kind file n bs h =
    let q : 214 ≡ length bs + (214 - length bs) = omega arith in
    append-nil (take 221 ((kind ∷ file ∷ n / 256 ∷ n % 256 ∷ length bs ∷ 0 ∷ 0 ∷ bs) ++ zeros 221)) ∙
    ap (λ (xs : List ℕ). kind ∷ file ∷ n / 256 ∷ n % 256 ∷ length bs ∷ 0 ∷ 0 ∷ xs)
    (ap (λ (k : ℕ). take k (bs ++ zeros 221)) q ∙ take-append-add bs (zeros 221) (214 - length bs) ∙
    ap (λ (xs : List ℕ). bs ++ xs) (take-zeros (214 - length bs) 221 (omega arith)))

-- the head and the body written make the payload
pub payload_written :
    (kind file n : ℕ) (bs : List ℕ) → length bs ≤ 214 →
    put_mid 7 (7 + length bs - 7) (kind ∷ file ∷ n / 256 ∷ n % 256 ∷ length bs ∷ 0 ∷ 0 ∷ zeros 214) bs ≡ payload kind file n bs
payload_written kind file n bs h =
    let q : 7 + length bs - 7 ≡ length bs = omega arith in
    ap (λ (zs : List ℕ). kind ∷ file ∷ n / 256 ∷ n % 256 ∷ length bs ∷ 0 ∷ 0 ∷ (bs ++ zs)) (drop-zeros (7 + length bs - 7) 214 ∙ ap (λ (k : ℕ). zeros (214 - k)) q) ∙
    sym (payload-is kind file n bs h)
