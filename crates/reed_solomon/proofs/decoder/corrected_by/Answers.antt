use Rattle.std.proofs.Common.{◌≡◌, ℕ, ◌<◌, ◌≤◌, List, length, get_or, ap, ◌∙◌, arith}
use Rattle.rs_theory.specs.Code.{locators}
use Rattle.rs_decoding.specs.Decoding.{values_of, roots_of, corrected}
use Rattle.rs_decoding.proofs.Bytes.{bytes-all}
use Rattle.rs_decoding.proofs.Correct.{repair-right, roots-within}
use Rattle.reed_solomon.proofs.decoder.corrected_by.Goals as goal

pub returns-in_err-roots : goal.returns-in_err-roots
returns-in_err-roots c =
    λ code t near.
    let l : List ℕ = c.args.polynomial.now.coefficients in
    let k : ℕ = c.args.polynomial.now.degree in
    let one : get_or l k 0 ≡ 1 = c.requires.kernel.top.one in
    let few : length (roots_of (values_of l (locators 255)) (locators 255)) ≤ 16 = roots-within l k c.args.polynomial.now.wide c.args.polynomial.now.bytes (omega arith) in
    let same : length (roots_of c.values-values.result (locators 255)) ≡ length (roots_of (values_of l (locators 255)) (locators 255)) =
    ap (λ (vs : List ℕ). length (roots_of vs (locators 255))) c.values-values.ensures in
    let many : 16 < length (roots_of c.values-values.result (locators 255)) = c.in_err-roots.ensures in
    let z : ⊥ = omega arith in
    rw c.from_residual.ensures z

pub returns : goal.returns
returns c =
    λ code t near.
    let l : List ℕ = c.args.polynomial.now.coefficients in
    let k : ℕ = c.args.polynomial.now.degree in
    let s : List ℕ = c.args.s.now in
    let w : List ℕ = c.args.bytes.now in
    let one : get_or l k 0 ≡ 1 = c.requires.kernel.top.one in
    c.correct.ensures
    ∙ ap (λ (a : List ℕ). corrected c.values-values.result a s w (locators 255)) c.in_ok-roots.ensures
    ∙ ap (λ (vs : List ℕ). corrected vs (roots_of vs (locators 255)) s w (locators 255)) c.values-values.ensures
    ∙ repair-right w code l s k c.told-bytes (bytes-all w (λ i h. c.fits-bytes i)) t near c.args.polynomial.now.wide c.args.polynomial.now.bytes (omega arith)
    c.told-s c.requires.syndromes c.requires.kernel.orthogonal
