-- Every payload that is built has 221 bytes, and so has everything that either side says. Assumes nothing.
use Rattle.std.proofs.Common.{◌≡◌, ℕ, ◌+◌, ◌*◌, ◌/◌, ◌%◌, ◌<◌, ◌≤◌, T, List, [], ◌∷◌, ◌++◌, length, drop, sym, ap, ◌∙◌, subst, inl, inr, arith, length-append, length-take}
use Rattle.bits.specs.Lists.{zeros, are_bytes}
use Rattle.bits.proofs.Tests.{under-nil, under-cons, under-append, under-take, under_drop, length-zeros, under-zeros}
use Rattle.transfer_theory.specs.Payload.{filled, built, payload}
use Rattle.transfer_theory.specs.Parts.{IsFile, part, parts, length4}
use Rattle.transfer_theory.specs.Receiver.{Receiver}
use Rattle.transfer_theory.specs.Invariant.{Sent, Back}
use Rattle.transfer_theory.specs.Onward.{IsPayload}
use Rattle.transfer_theory.proofs.Receiving.{part-short, parts-few}

pub length-filled : (n : ℕ) (xs : List ℕ) → length (filled n xs) ≡ n
unfolding filled
length-filled n xs = omega (arith, length-take n (xs ++ zeros n), length-append xs (zeros n), length-zeros n)

pub bytes-filled : (n : ℕ) (xs : List ℕ) → T (are_bytes xs) → T (are_bytes (filled n xs))
unfolding filled
bytes-filled n xs t = under-take 256 n (xs ++ zeros n) (under-append 256 xs (zeros n) t (under-zeros 256 n (omega arith)))

-- each of its parts a byte: 221 bytes
pub payload-is :
    (kind file n : ℕ) (bs : List ℕ) → kind < 256 → file < 256 → n < 65536 → length bs ≤ 214 → T (are_bytes bs) → IsPayload (payload kind file n bs)
unfolding built
payload-is kind file n bs k m l s t =
    (length-append (filled 221 xs) [] ∙ ap (λ (j : ℕ). j + 0) (length-filled 221 xs), under-append 256 (filled 221 xs) [] (bytes-filled 221 xs all) (under-nil 256))
  where
    xs : List ℕ
    xs = kind ∷ file ∷ n / 256 ∷ n % 256 ∷ length bs ∷ 0 ∷ 0 ∷ bs

    all : T (are_bytes xs)
    all =
        under-cons 256 kind (file ∷ n / 256 ∷ n % 256 ∷ length bs ∷ 0 ∷ 0 ∷ bs) k
        (under-cons 256 file (n / 256 ∷ n % 256 ∷ length bs ∷ 0 ∷ 0 ∷ bs) m
        (under-cons 256 (n / 256) (n % 256 ∷ length bs ∷ 0 ∷ 0 ∷ bs) (omega arith)
        (under-cons 256 (n % 256) (length bs ∷ 0 ∷ 0 ∷ bs) (omega arith)
        (under-cons 256 (length bs) (0 ∷ 0 ∷ bs) (omega arith)
        (under-cons 256 0 (0 ∷ bs) (omega arith) (under-cons 256 0 bs (omega arith) t))))))

-- ---- what either side says
four_bytes : (m : ℕ) → T (are_bytes (length4 m))
four_bytes m =
    under-cons 256 ((m / 16777216) % 256) ((m / 65536) % 256 ∷ (m / 256) % 256 ∷ m % 256 ∷ []) (omega arith)
    (under-cons 256 ((m / 65536) % 256) ((m / 256) % 256 ∷ m % 256 ∷ []) (omega arith)
    (under-cons 256 ((m / 256) % 256) (m % 256 ∷ []) (omega arith) (under-cons 256 (m % 256) [] (omega arith) (under-nil 256))))

pub sent-payload : (n : ℕ) (f : List ℕ) (p : List ℕ) → n < 256 → IsFile f → Sent n f p → IsPayload p
sent-payload n f p m i (inl (k, h, e)) =
    subst (λ (q : List ℕ). IsPayload q) (sym e)
    (payload-is 1 n k (part f k) (omega arith) m (omega (arith, parts-few f i.0)) (part-short f k) (under-take 256 214 (drop (214 * k) f) (under_drop 256 (214 * k) f i.1)))
sent-payload n f p m i (inr e) =
    subst (λ (q : List ℕ). IsPayload q) (sym e)
    (payload-is 2 n (parts f) (length4 (length f)) (omega arith) m (omega (arith, parts-few f i.0)) (omega arith) (four_bytes (length f)))

pub back-payload : (n : ℕ) (f : List ℕ) (v : Receiver) (p : List ℕ) → n < 256 → IsFile f → Back n f v p → IsPayload p
back-payload n f v p m i (inl (k, h, e)) =
    subst (λ (q : List ℕ). IsPayload q) (sym e) (payload-is 3 n k [] (omega arith) m (omega (arith, parts-few f i.0)) (omega arith) (under-nil 256))
back-payload n f v p m i (inr (e, a)) =
    subst (λ (q : List ℕ). IsPayload q) (sym e) (payload-is 4 n 0 [] (omega arith) m (omega arith) (omega arith) (under-nil 256))
