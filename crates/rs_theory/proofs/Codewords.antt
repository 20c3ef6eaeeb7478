-- Two code words that differ at no more than 32 places are equal. Assumes nothing.
use Rattle.std.proofs.Common.{◌≡◌, ℕ, suc, ◌+◌, ◌<◌, ◌≤◌, ◌&&◌, T, eqb, ◌⊎◌, List, length, sym, ap, ◌∙◌, subst, ap₂, inl, inr, ⊎_elim, arith, eqb→eq}
use lib.Dec.{eqb_refl}
use Rattle.std.proofs.lemmas.Bool.{cases_lt}
use Rattle.bits.specs.Lists.{are_bytes}
use Rattle.bits.specs.Distance.{distance}
use Rattle.bits.proofs.Hamming.{distance-sym, distance-triangle}
use Rattle.gf256.proofs.Basis.{both, both_left, both_right}
use Rattle.gf256.proofs.Ring.{◌⊕◌, ⊕-self}
use Rattle.rs_theory.specs.Code.{vanishes, is_codeword}
use Rattle.rs_theory.proofs.Sum.{sum, plus, sum-plus, length-plus, bytes-plus}
use Rattle.rs_theory.proofs.Distance.{distance-lemma}
use Rattle.rs_theory.proofs.Value.{locators, length-locators, locators-are, vanishes-sums, weight-plus, plus-zeros}

-- the parts of the test
pub record Codeword (w : List ℕ) : Type 0 where
  pub whole : length w ≡ 255
  pub bytes : T (are_bytes w)
  pub zero : T (vanishes 32 w)

pub codeword-parts : (w : List ℕ) → T (is_codeword w) → Codeword w
codeword-parts w t =
    let front : T (eqb (length w) 255 && are_bytes w) = both_left (eqb (length w) 255 && are_bytes w) (vanishes 32 w) t in
    record {
      whole = eqb→eq (length w) 255 (both_left (eqb (length w) 255) (are_bytes w) front);
      bytes = both_right (eqb (length w) 255) (are_bytes w) front;
      zero = both_right (eqb (length w) 255 && are_bytes w) (vanishes 32 w) t;
    }

pub codeword-from : (w : List ℕ) → Codeword w → T (is_codeword w)
codeword-from w c =
    both (eqb (length w) 255 && are_bytes w) (vanishes 32 w)
    (both (eqb (length w) 255) (are_bytes w) (subst (λ (n : ℕ). T (eqb n 255)) (sym c.whole) (eqb_refl 255)) c.bytes)
    c.zero

-- the sums of a code word over the 255 locators
pub codeword-sums : (w : List ℕ) → Codeword w → (j : ℕ) → j < 32 → sum w (locators 255) (suc j) ≡ 0
codeword-sums w c j h =
    ap (λ (n : ℕ). sum w (locators n) (suc j)) (sym c.whole) ∙ vanishes-sums 32 w c.bytes c.zero j h

pub close-equal : (c d : List ℕ) → Codeword c → Codeword d → distance c d ≤ 32 → c ≡ d
close-equal c d p q near =
    let same : length c ≡ length d = p.whole ∙ sym q.whole in
    plus-zeros c d same
    (distance-lemma 32 1 (plus c d) (locators 255) (length-plus c d same ∙ p.whole ∙ sym (length-locators 255))
    (bytes-plus c d p.bytes q.bytes) (locators-are 255 (omega arith)) (rw (weight-plus c d same) near)
    (λ j h.
    let next : 1 + j ≡ suc j = omega arith in
    ap (sum (plus c d) (locators 255)) next ∙ sum-plus c d (locators 255) (suc j) same ∙
    ap₂ ◌⊕◌ (codeword-sums c p j h) (codeword-sums d q j h) ∙ ⊕-self 0))

pub apart : (c d : List ℕ) → T (is_codeword c) → T (is_codeword d) → (33 ≤ distance c d) ⊎ (c ≡ d)
apart c d s t =
    ⊎_elim
    (λ near. inr (close-equal c d (codeword-parts c s) (codeword-parts d t) (omega arith)))
    (λ far. inl far)
    (cases_lt (distance c d) 33)

pub nearest : (c d w : List ℕ) → T (is_codeword c) → T (is_codeword d) → length w ≡ 255 → distance c w ≤ 16 → distance d w ≤ 16 → c ≡ d
nearest c d w s t h p q =
    close-equal c d (codeword-parts c s) (codeword-parts d t) (omega (arith, distance-triangle c w d, distance-sym w d))
