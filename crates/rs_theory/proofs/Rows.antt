-- Values of the generator and of an encoding, computed. Assumes nothing.
use Rattle.std.proofs.Common.{◌≡◌, ℕ, false, List, [], ◌∷◌, ◌++◌, take, set, refl, ap, ◌∙◌}
use Rattle.bits.specs.Lists.{under, zeros}
use Rattle.bits.specs.Distance.{distance}
use Rattle.gf256.specs.Field.{product, product_by, power}
use Rattle.rs_theory.specs.Code.{value_from, vanishes, is_codeword, feed, remainder}
use Rattle.rs_theory.specs.Promise.{OuterRows}
use Rattle.rs_theory.proofs.Generator.{coefficients, generator-is}
use Rattle.rs_theory.proofs.Encoding.{parity, encode-is}

begins : take 5 (1 ∷ coefficients) ≡ 1 ∷ 232 ∷ 29 ∷ 189 ∷ 50 ∷ []
unfolding coefficients
begins = refl

zeros-parity : parity (zeros 223) ≡ zeros 32
unfolding parity remainder feed coefficients zeros product product_by
zeros-parity = refl

zeros-joined : zeros 223 ++ zeros 32 ≡ zeros 255
unfolding zeros
zeros-joined = refl

one-wrong : is_codeword (set (zeros 255) 7 1) ≡ false
unfolding zeros under vanishes value_from power product product_by
one-wrong = refl

one_apart : distance (zeros 255) (set (zeros 255) 7 1) ≡ 1
unfolding zeros distance
one_apart = refl

pub outer_rows : OuterRows
outer_rows = record {
  generator_begins = ap (λ (g : List ℕ). take 5 (1 ∷ g)) generator-is ∙ begins;
  zeros_encoded = encode-is (zeros 223) ∙ ap (λ (r : List ℕ). zeros 223 ++ r) zeros-parity ∙ zeros-joined;
  one_wrong = one-wrong;
  one_apart = one_apart;
}
