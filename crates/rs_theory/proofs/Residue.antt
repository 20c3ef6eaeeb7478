-- The residue of a word: what its last 32 bytes differ by from those that the encoder would give. It has the word's syndromes. Assumes nothing.
use Rattle.std.proofs.Common.{◌≡◌, ℕ, zero, suc, ◌+◌, ◌<◌, T, ltb, List, [], ◌∷◌, ◌++◌, length, get_or, take, drop, sym, refl, ap, ◌∙◌, subst, ap₂, arith, lt→ltb, take-append-drop}
use lib.Bits.{bit_xor}
use Rattle.std.proofs.lemmas.List.{length-drop, append_cancel_left, get_or-drop}
use Rattle.bits.specs.Lists.{under, are_bytes, zeros}
use Rattle.gf256.specs.Field.{product, power}
use Rattle.gf256.proofs.Basis.{both}
use Rattle.gf256.proofs.Ring.{◌⊕◌, ◌⊙◌, pow, ring, xor_is, ⊕-below, ⊕-zero-l, ⊕-self, ⊙-below, pow2-below}
use Rattle.rs_theory.specs.Code.{value_from, is_codeword, generator, remainder}
use Rattle.rs_theory.specs.Promise.{IsResidue}
use Rattle.rs_theory.proofs.Sum.{sum, plus, sum-plus, sum_zeros, length-plus, bytes-plus}
use Rattle.rs_theory.proofs.Distance.{head_byte, tail-bytes}
use Rattle.rs_theory.proofs.Value.{locators, horner, value-from, value-is, sums-vanish}
use Rattle.rs_theory.proofs.Codewords.{codeword-from}
use Rattle.rs_theory.proofs.Generator.{generator-is}
use Rattle.rs_theory.proofs.Encoding.{parity, parity-length, parity-bytes, encode-is, joined-sums, zeros-bytes, bytes-append, bytes_take, only-encoded}

unfoldable pub residue : List ℕ → List ℕ
residue w = plus (parity (take 223 w)) (drop 223 w)

pub bytes_drop : (n : ℕ) (a : List ℕ) → T (are_bytes a) → T (are_bytes (drop n a))
bytes_drop zero a p = p
bytes_drop (suc n) [] p = p
bytes_drop (suc n) (x ∷ a) p = bytes_drop n a (tail-bytes x a p)

value-append : (z acc : ℕ) (a b : List ℕ) → value_from z acc (a ++ b) ≡ value_from z (value_from z acc a) b
unfolding value_from
value-append z acc [] b = refl
value-append z acc (x ∷ a) b = value-append z (bit_xor (product acc z) x) a b

value-below : (j acc : ℕ) (a : List ℕ) → acc < 256 → T (are_bytes a) → value_from (power 2 j) acc a < 256
unfolding value_from
value-below j acc [] p b = p
value-below j acc (x ∷ a) p b =
    let next : bit_xor (product acc (power 2 j)) x < 256 =
    rw (horner (power 2 j) acc x (pow2-below j) p) (⊕-below (acc ⊙ power 2 j) x (⊙-below acc (power 2 j)) (head_byte x a b)) in
    value-below j (bit_xor (product acc (power 2 j)) x) a next (tail-bytes x a b)

-- a word of two parts
value-parts : (j : ℕ) (a b : List ℕ) → T (are_bytes a) → T (are_bytes b) →
    value_from (power 2 j) 0 (a ++ b) ≡ value_from (power 2 j) 0 a ⊙ pow (power 2 j) (length b) ⊕ sum b (locators (length b)) j
value-parts j a b p q =
    value-append (power 2 j) 0 a b ∙ value-from j (value_from (power 2 j) 0 a) b (value-below j 0 a (omega arith) p) q

shuffle : (v s t : ℕ) → (v ⊕ s) ⊕ (v ⊕ t) ≡ s ⊕ t
shuffle v s t = simp ring

differs : (v s t : ℕ) → v ⊕ s ≡ 0 → v ⊕ t ≡ s ⊕ t
differs v s t e = sym (⊕-zero-l (v ⊕ t)) ∙ ap (λ (x : ℕ). x ⊕ (v ⊕ t)) (sym e) ∙ shuffle v s t

-- two words that begin alike, the first of them zero at 2^j
value-differs : (j : ℕ) (m p d : List ℕ) → T (are_bytes m) → T (are_bytes p) → T (are_bytes d) → length p ≡ length d →
    value_from (power 2 j) 0 (m ++ p) ≡ 0 → value_from (power 2 j) 0 (m ++ d) ≡ value_from (power 2 j) 0 (plus p d)
value-differs j m p d mb pb db h e =
    let v = value_from (power 2 j) 0 m ⊙ pow (power 2 j) (length p) in
    let whole : v ⊕ sum p (locators (length p)) j ≡ 0 = sym (value-parts j m p mb pb) ∙ e in
    value-parts j m d mb db ∙
    ap (λ (n : ℕ). value_from (power 2 j) 0 m ⊙ pow (power 2 j) n ⊕ sum d (locators n) j) (sym h) ∙
    differs v (sum p (locators (length p)) j) (sum d (locators (length p)) j) whole ∙
    sym (sum-plus p d (locators (length p)) j h) ∙ ap (λ (n : ℕ). sum (plus p d) (locators n) j) (sym (length-plus p d h)) ∙
    sym (value-is j (plus p d) (bytes-plus p d pb db))

drop-length : (w : List ℕ) → length w ≡ 255 → length (drop 223 w) ≡ 32
drop-length w h = length-drop 223 w ∙ omega arith

pub residue-value : (w : List ℕ) → length w ≡ 255 → T (are_bytes w) → (j : ℕ) → j < 32 →
    value_from (power 2 (suc j)) 0 (residue w) ≡ value_from (power 2 (suc j)) 0 w
unfolding residue
residue-value w h b j k =
    let m = take 223 w in
    let mb : T (are_bytes m) = bytes_take 223 w b in
    let e : value_from (power 2 (suc j)) 0 (m ++ parity m) ≡ 0 =
    value-is (suc j) (m ++ parity m) (bytes-append m (parity m) mb (parity-bytes m mb)) ∙ joined-sums m mb j k in
    sym (value-differs (suc j) m (parity m) (drop 223 w) mb (parity-bytes m mb) (bytes_drop 223 w b) (parity-length m ∙ sym (drop-length w h)) e) ∙
    ap (value_from (power 2 (suc j)) 0) (take-append-drop 223 w)

pub residue-length : (w : List ℕ) → length w ≡ 255 → length (residue w) ≡ 32
unfolding residue
residue-length w h = length-plus (parity (take 223 w)) (drop 223 w) (parity-length (take 223 w) ∙ sym (drop-length w h)) ∙ parity-length (take 223 w)

plus-self : (a : List ℕ) → plus a a ≡ zeros (length a)
unfolding plus zeros
plus-self [] = refl
plus-self (x ∷ a) = ap₂ ◌∷◌ (⊕-self x) (plus-self a)

zeros-value : (j : ℕ) → value_from (power 2 j) 0 (zeros 32) ≡ 0
zeros-value j = value-is j (zeros 32) zeros-bytes ∙ sum_zeros 32 (locators (length (zeros 32))) j

-- the residue is zero just at code words
pub residue-zero : (w : List ℕ) → T (is_codeword w) → residue w ≡ zeros 32
unfolding residue
residue-zero w t =
    let e : take 223 w ++ parity (take 223 w) ≡ take 223 w ++ drop 223 w = sym (encode-is (take 223 w)) ∙ only-encoded w t ∙ sym (take-append-drop 223 w) in
    let s : parity (take 223 w) ≡ drop 223 w = append_cancel_left (take 223 w) (parity (take 223 w)) (drop 223 w) e in
    ap (plus (parity (take 223 w))) (sym s) ∙ plus-self (parity (take 223 w)) ∙ ap zeros (parity-length (take 223 w))

pub zero-residue : (w : List ℕ) → length w ≡ 255 → T (are_bytes w) → residue w ≡ zeros 32 → T (is_codeword w)
zero-residue w h b e =
    codeword-from w (record {
      whole = h;
      bytes = b;
      zero = sums-vanish 32 w b (λ j k. sym (value-is (suc j) w b) ∙ sym (residue-value w h b j k) ∙ ap (value_from (power 2 (suc j)) 0) e ∙ zeros-value (suc j));
    })

pub is-residue : (w : List ℕ) → length w ≡ 255 → T (are_bytes w) → IsResidue w (residue w)
is-residue w h b = record { long = residue-length w h; values = residue-value w h b; zero_at_codewords = residue-zero w; codeword_at_zero = zero-residue w h b }

-- ---- the residue as a loop over its places finds it
same-places : (xs ys : List ℕ) → length xs ≡ length ys → ((k : ℕ) → k < length xs → get_or xs k 0 ≡ get_or ys k 0) → xs ≡ ys
same-places [] [] h e = refl
same-places [] (y ∷ ys) h e = let z : ⊥ = omega arith in absurd z
same-places (x ∷ xs) [] h e = let z : ⊥ = omega arith in absurd z
same-places (x ∷ xs) (y ∷ ys) h e = ap₂ ◌∷◌ (e 0 (omega arith)) (same-places xs ys (omega arith) (λ k l. e (suc k) (omega arith)))

plus-place : (a b : List ℕ) (k : ℕ) → k < length a → length a ≡ length b → get_or (plus a b) k 0 ≡ bit_xor (get_or a k 0) (get_or b k 0)
unfolding plus
plus-place [] b k h l = let z : ⊥ = omega arith in absurd z
plus-place (x ∷ a) [] k h l = let z : ⊥ = omega arith in absurd z
plus-place (x ∷ a) (y ∷ b) zero h l = sym (xor_is x y)
plus-place (x ∷ a) (y ∷ b) (suc k) h l = plus-place a b k (omega arith) (omega arith)

pub bytes-all : (w : List ℕ) → ((i : ℕ) → get_or w i 0 < 256) → T (are_bytes w)
unfolding under
bytes-all [] h = tt
bytes-all (x ∷ w) h = both (ltb x 256) (under 256 w) (lt→ltb x 256 (h 0)) (bytes-all w (λ i. h (suc i)))

pub residue-places : (w register out : List ℕ) → length w ≡ 255 → ((i : ℕ) → get_or w i 0 < 256) →
    register ≡ remainder (generator 32) (take 223 w) (zeros 32) →
    ((k : ℕ) → k < 32 → get_or out k 0 ≡ bit_xor (get_or register k 0) (get_or w (223 + k) 0)) → length out ≡ 32 → IsResidue w out
unfolding residue parity
residue-places w register out h b r e n =
    let m = take 223 w in
    let p : register ≡ parity m = r ∙ ap (λ (g : List ℕ). remainder g m (zeros 32)) generator-is in
    let long : length (parity m) ≡ 32 = parity-length m in
    let same : out ≡ residue w =
    same-places out (residue w) (n ∙ sym (residue-length w h))
    (λ k l.
    e k (omega arith) ∙
    ap₂ bit_xor
    (ap (λ (a : List ℕ). get_or a k 0) p)
    (sym (get_or-drop 223 w k 0)) ∙
    sym (plus-place (parity m) (drop 223 w) k (omega arith) (long ∙ sym (drop-length w h)))) in
    subst (IsResidue w) (sym same) (is-residue w h (bytes-all w b))
