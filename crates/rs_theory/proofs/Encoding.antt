-- The encoding is a code word that begins with its message, and there are no other code words. Assumes nothing.
use Rattle.std.proofs.Common.{◌≡◌, ℕ, zero, suc, ◌+◌, ◌<◌, ◌≤◌, T, ltb, List, [], ◌∷◌, ◌++◌, length, take, drop, sym, refl, ap, ◌∙◌, subst, ap₂, arith, length-append, length-drop, take-append-drop, length-take}
use Rattle.std.proofs.lemmas.List.{take-append-le, take_all}
use Rattle.bits.specs.Lists.{under, are_bytes, zeros}
use Rattle.bits.specs.Distance.{distance}
use Rattle.bits.proofs.Hamming.{distance-append, distance-le}
use Rattle.gf256.specs.Field.{power}
use Rattle.gf256.proofs.Basis.{both, both_left}
use Rattle.gf256.proofs.Ring.{pow, ⊙-zero-l}
use Rattle.rs_theory.specs.Code.{remainder, encode, is_codeword}
use Rattle.rs_theory.specs.Promise.{Encoded, OuterCode}
use Rattle.rs_theory.proofs.Sum.{sum, sum_zeros}
use Rattle.rs_theory.proofs.Distance.{tail-bytes}
use Rattle.rs_theory.proofs.Value.{locators, value-is, vanishes-sums, sums-vanish}
use Rattle.rs_theory.proofs.Codewords.{Codeword, codeword-parts, codeword-from, close-equal, apart, nearest}
use Rattle.rs_theory.proofs.Generator.{coefficients, generator-is, coefficients-length, coefficients-bytes, with-head-bytes, generator-vanishes}
use Rattle.rs_theory.proofs.Division.{val, remainder-length, remainder-bytes, remainder-zero}

pub bytes-append : (a b : List ℕ) → T (are_bytes a) → T (are_bytes b) → T (are_bytes (a ++ b))
unfolding under
bytes-append [] b p q = q
bytes-append (x ∷ a) b p q =
    both (ltb x 256) (under 256 (a ++ b)) (both_left (ltb x 256) (under 256 a) p) (bytes-append a b (tail-bytes x a p) q)

pub bytes_take : (n : ℕ) (a : List ℕ) → T (are_bytes a) → T (are_bytes (take n a))
unfolding under
bytes_take zero a p = tt
bytes_take (suc n) [] p = tt
bytes_take (suc n) (x ∷ a) p =
    both (ltb x 256) (under 256 (take n a)) (both_left (ltb x 256) (under 256 a) p) (bytes_take n a (tail-bytes x a p))

-- the 32 bytes behind the message
unfoldable pub parity : List ℕ → List ℕ
parity m = remainder coefficients m (zeros 32)

pub encode-is : (m : List ℕ) → encode m ≡ m ++ parity m
unfolding encode parity
encode-is m = ap (λ (g : List ℕ). m ++ remainder g m (zeros 32)) generator-is

pub zeros-bytes : T (are_bytes (zeros 32))
unfolding zeros under
zeros-bytes = tt

zeros-length : length (zeros 32) ≡ 32
unfolding zeros
zeros-length = refl

zeros-val : (j : ℕ) → val j (zeros 32) ≡ 0
unfolding val
zeros-val j = sum_zeros 32 (locators (length (zeros 32))) j

generator-roots : (j : ℕ) → j < 32 → val (suc j) (1 ∷ coefficients) ≡ 0
unfolding val
generator-roots j h = vanishes-sums 32 (1 ∷ coefficients) with-head-bytes generator-vanishes j h

pub parity-length : (m : List ℕ) → length (parity m) ≡ 32
unfolding parity
parity-length m = remainder-length coefficients m (zeros 32) (zeros-length ∙ sym coefficients-length) ∙ coefficients-length

pub parity-bytes : (m : List ℕ) → T (are_bytes m) → T (are_bytes (parity m))
unfolding parity
parity-bytes m b = remainder-bytes coefficients m (zeros 32) coefficients-bytes b zeros-bytes

pub joined-sums : (m : List ℕ) → T (are_bytes m) → (j : ℕ) → j < 32 → sum (m ++ parity m) (locators (length (m ++ parity m))) (suc j) ≡ 0
unfolding parity
joined-sums m b j h =
    sym (value-is (suc j) (m ++ parity m) (bytes-append m (parity m) b (parity-bytes m b))) ∙
    remainder-zero (suc j) 0 31 coefficients m (zeros 32) (omega arith) coefficients-bytes b zeros-bytes coefficients-length zeros-length
    (generator-roots j h) (⊙-zero-l (pow (power 2 (suc j)) 32) ∙ sym (zeros-val (suc j)))

joined : (m : List ℕ) → length m ≡ 223 → T (are_bytes m) → Codeword (m ++ parity m)
joined m h b =
    let bytes : T (are_bytes (m ++ parity m)) = bytes-append m (parity m) b (parity-bytes m b) in
    record {
      whole = length-append m (parity m) ∙ ap₂ ◌+◌ h (parity-length m);
      bytes = bytes;
      zero = sums-vanish 32 (m ++ parity m) bytes (joined-sums m b);
    }

pub encode-codeword : (m : List ℕ) → length m ≡ 223 → T (are_bytes m) → Codeword (encode m)
encode-codeword m h b = subst Codeword (sym (encode-is m)) (joined m h b)

pub encoded : (m : List ℕ) → length m ≡ 223 → T (are_bytes m) → Encoded m
encoded m h b =
    let c : Codeword (encode m) = encode-codeword m h b in
    record {
      whole = c.whole;
      codeword = codeword-from (encode m) c;
      begins = ap (take 223) (encode-is m) ∙ take-append-le 223 m (parity m) (omega arith) ∙ take_all 223 m (omega arith);
    }

pub only-encoded : (c : List ℕ) → T (is_codeword c) → encode (take 223 c) ≡ c
only-encoded c t =
    let p : Codeword c = codeword-parts c t in
    let long : length c ≡ 255 = p.whole in
    let m : length (take 223 c) ≡ 223 = length-take 223 c ∙ omega arith in
    let d : length (drop 223 c) ≡ 32 = length-drop 223 c ∙ omega arith in
    let near : distance (parity (take 223 c)) (drop 223 c) ≤ 32 =
    omega (arith, distance-le (parity (take 223 c)) (drop 223 c) (parity-length (take 223 c) ∙ sym d), parity-length (take 223 c)) in
    let same : distance (encode (take 223 c)) c ≡ distance (parity (take 223 c)) (drop 223 c) =
    ap₂ distance (encode-is (take 223 c)) (sym (take-append-drop 223 c)) ∙
    distance-append (take 223 c) (parity (take 223 c)) (drop 223 c) in
    close-equal (encode (take 223 c)) c (encode-codeword (take 223 c) m (bytes_take 223 c p.bytes)) p (rw same near)

pub outer-code : OuterCode
outer-code = record { encoded = encoded; only_encoded = only-encoded; apart = apart; nearest = nearest }
