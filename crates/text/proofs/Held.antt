-- A line with more bytes kept behind its text, with its text wiped, and with the digits of a frame written is held as a line is. Assumes nothing.
use Rattle.std.proofs.Common.{◌≡◌, ℕ, zero, suc, ◌+◌, ◌-◌, ◌≤◌, List, [], ◌∷◌, ◌++◌, length, replicate, take, drop, set, refl, ap, sym, ◌∙◌, arith, length-append, length-drop}
use Rattle.std.proofs.lemmas.List.{length-take-le, drop-drop, take_at, drop_at, set-append_right, length-map}
use Rattle.std.proofs.lemmas.Slice.{drop-put_mid}
use borrow.Rule.Slice.PartMut.{put_mid}
use Rattle.bits.specs.Lists.{zeros}
use Rattle.text.specs.Lines.{digit_of, digits}
use Rattle.text.specs.Held.{Filled}

drop-zeros : (n m k : ℕ) → k ≡ n + m → drop n (zeros k) ≡ zeros m
unfolding zeros
drop-zeros zero m k e = ap zeros (omega arith)
drop-zeros (suc n) m zero e = let z : ⊥ = omega arith in absurd z
drop-zeros (suc n) m (suc k) e = drop-zeros n m k (omega arith)

pub filled_more : (bytes ys : List ℕ) (count n : ℕ) → Filled (record { bytes = bytes; count = count }) → length ys ≡ n → count + n ≤ 4093 →
    Filled (record { bytes = put_mid count ((count + n) - count) bytes ys; count = count + n })
filled_more bytes ys count n h e m =
    let k : (count + n) - count ≡ n = omega arith in
    let behind : drop (count + n) bytes ≡ zeros (4093 - (count + n)) =
    sym (drop-drop n count bytes) ∙ ap (drop n) h.rest ∙ drop-zeros n (4093 - (count + n)) (4093 - count) (omega (arith, h.within)) in
    record {
      within = m;
      long = omega (arith, h.long, h.within, length-append (take count bytes) (ys ++ drop ((count + n) - count) (drop count bytes)), length-append ys (drop ((count + n) - count) (drop count bytes)), length-take-le count bytes (omega (arith, h.long, h.within)), length-drop ((count + n) - count) (drop count bytes), length-drop count bytes);
      rest = drop-put_mid count ((count + n) - count) bytes ys (count + n) (omega arith) (omega (arith, h.long, h.within)) (omega arith) ∙ behind;
    }

length-zeros : (n : ℕ) → length (zeros n) ≡ n
unfolding zeros
length-zeros zero = refl
length-zeros (suc n) = ap suc (length-zeros n)

zeros-replicate : (n : ℕ) → replicate n 0 ≡ zeros n
unfolding zeros
zeros-replicate zero = refl
zeros-replicate (suc n) = ap (λ (xs : List ℕ). 0 ∷ xs) (zeros-replicate n)

zeros-append : (n m k : ℕ) → k ≡ n + m → zeros n ++ zeros m ≡ zeros k
unfolding zeros
zeros-append zero m k e = ap zeros (omega arith)
zeros-append (suc n) m zero e = let z : ⊥ = omega arith in absurd z
zeros-append (suc n) m (suc k) e = ap (λ (xs : List ℕ). 0 ∷ xs) (zeros-append n m k (omega arith))

-- a line whose text is wiped holds nothing
pub filled_none : (bytes ys : List ℕ) (count n : ℕ) → Filled (record { bytes = bytes; count = count }) → ys ≡ replicate n 0 → n ≡ count →
    Filled (record { bytes = put_mid 0 count bytes ys; count = 0 })
filled_none bytes ys count n h e k =
    let all : put_mid 0 count bytes ys ≡ zeros 4093 =
    ap (λ (zs : List ℕ). zs ++ drop count bytes) (e ∙ ap (λ (m : ℕ). replicate m 0) k ∙ zeros-replicate count)
    ∙ ap (λ (zs : List ℕ). zeros count ++ zs) h.rest
    ∙ zeros-append count (4093 - count) 4093 (omega (arith, h.within)) in
    record { within = omega arith; long = ap (λ (zs : List ℕ). length zs) all ∙ length-zeros 4093; rest = all }

-- a byte behind the digits of a frame is wiped
pub frame_put : (bits bytes ys : List ℕ) → length bits ≡ 4092 → length bytes ≡ 4093 → ys ≡ digits bits → set (put_mid 0 4092 bytes ys) 4092 0 ≡ digits bits ++ zeros 1
unfolding zeros
frame_put bits bytes ys e l s =
    let long : length ys ≡ 4092 = ap (λ (zs : List ℕ). length zs) s ∙ length-map bits digit_of ∙ e in
    set-append_right ys (drop 4092 bytes) 4092 4092 0 long (omega arith)
    ∙ ap (λ (zs : List ℕ). ys ++ zs) (only (drop 4092 bytes) (length-drop 4092 bytes ∙ ap (λ (n : ℕ). n - 4092) l))
    ∙ ap (λ (zs : List ℕ). zs ++ 0 ∷ []) s
  where
    only : (zs : List ℕ) → length zs ≡ 1 → set zs 0 0 ≡ 0 ∷ []
    only [] k = let z : ⊥ = omega arith in absurd z
    only (x ∷ []) k = refl
    only (x ∷ y ∷ zs) k = let z : ⊥ = omega arith in absurd z

-- the line that holds the digits of a frame
pub filled_frame : (bits bytes : List ℕ) → length bits ≡ 4092 → bytes ≡ digits bits ++ zeros 1 → Filled (record { bytes = bytes; count = 4092 })
filled_frame bits bytes e s =
    let long : length (digits bits) ≡ 4092 = length-map bits digit_of ∙ e in
    record {
      within = omega arith;
      long = ap (λ (zs : List ℕ). length zs) s ∙ length-append (digits bits) (zeros 1) ∙ omega (arith, long, length-zeros 1);
      rest = ap (λ (zs : List ℕ). drop 4092 zs) s ∙ drop_at (digits bits) (zeros 1) 4092 long;
    }

pub frame_taken : (bits bytes : List ℕ) → length bits ≡ 4092 → bytes ≡ digits bits ++ zeros 1 → take 4092 bytes ≡ digits bits
frame_taken bits bytes e s = ap (λ (zs : List ℕ). take 4092 zs) s ∙ take_at (digits bits) (zeros 1) 4092 (length-map bits digit_of ∙ e)
