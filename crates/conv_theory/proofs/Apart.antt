-- Free distance: ways that part and meet again differ at ten bits or more. Assumes nothing.
use Rattle.std.proofs.Common.{◌≡◌, ℕ, ◌+◌, ◌<◌, ◌≤◌, T, List, [], ◌∷◌, ◌++◌, length, sym, refl, ap, ◌∙◌, subst, inl, inr, arith}
use Rattle.std.proofs.lemmas.Bool.{cases_eq}
use Rattle.std.proofs.lemmas.List.{append_cancel_right, length-append}
use Rattle.bits.specs.Lists.{are_bits, zeros}
use Rattle.bits.specs.Distance.{distance}
use Rattle.conv_theory.specs.Code.{deep, next, run, spread}
use Rattle.conv_theory.specs.Statements.{WaysApart, InputsApart}
use Rattle.conv_theory.proofs.Basics.{first_bit, rest-bits, bits-append, bits-zeros}
use Rattle.conv_theory.proofs.States.{next-below}
use Rattle.conv_theory.proofs.Optimality.{comes_back}
use Rattle.conv_theory.proofs.Potential.{pot, parts, step_down, parting, meeting}

-- ways that meet differ at as many bits as the potential of their starts
till-they-meet : (bs cs : List ℕ) (s t : ℕ) → s < 64 → t < 64 → T (are_bits bs) → T (are_bits cs) → length bs ≡ length cs →
    run deep s bs ≡ run deep t cs → pot s t ≤ distance (spread deep s bs) (spread deep t cs)
unfolding run spread distance parts
till-they-meet [] [] s t hs ht tb tc l e =
    let m = meeting t ht in
    let p = ap (λ (u : ℕ). pot u t) e in
    omega (arith, m, p)
till-they-meet [] (c ∷ cs) s t hs ht tb tc l e = let z : ⊥ = omega arith in absurd z
till-they-meet (b ∷ bs) [] s t hs ht tb tc l e = let z : ⊥ = omega arith in absurd z
till-they-meet (b ∷ bs) (c ∷ cs) s t hs ht tb tc l e =
    let hb = first_bit b bs tb in
    let hc = first_bit c cs tc in
    let i = till-they-meet bs cs (next deep s b) (next deep t c) (next-below s b hs hb) (next-below t c ht hc) (rest-bits b bs tb) (rest-bits c cs tc) (omega arith) e in
    let d = step_down s t b c hs ht hb hc in
    omega (arith, i, d)

different : (bs cs : List ℕ) (s : ℕ) → s < 64 → T (are_bits bs) → T (are_bits cs) → length bs ≡ length cs →
    run deep s bs ≡ run deep s cs → (bs ≡ cs → ⊥) → 10 ≤ distance (spread deep s bs) (spread deep s cs)
unfolding run spread distance parts
different [] [] s hs tb tc l e n = absurd (n refl)
different [] (c ∷ cs) s hs tb tc l e n = let z : ⊥ = omega arith in absurd z
different (b ∷ bs) [] s hs tb tc l e n = let z : ⊥ = omega arith in absurd z
different (b ∷ bs) (c ∷ cs) s hs tb tc l e n =
    let hb = first_bit b bs tb in
    let hc = first_bit c cs tc in
    elim (cases_eq b c) [
      | inl f ↦
          let r : run deep (next deep s b) bs ≡ run deep (next deep s b) cs = e ∙ ap (λ (u : ℕ). run deep (next deep s u) cs) (sym f) in
          let i = different bs cs (next deep s b) (next-below s b hs hb) (rest-bits b bs tb) (rest-bits c cs tc) (omega arith) r (λ g. n (cc)) in
          let j = subst (λ (u : ℕ). 10 ≤ distance (spread deep (next deep s b) bs) (spread deep (next deep s u) cs)) f i in
          omega (arith, j)
      | inr f ↦
          let i = till-they-meet bs cs (next deep s b) (next deep s c) (next-below s b hs hb) (next-below s c hs hc) (rest-bits b bs tb) (rest-bits c cs tc) (omega arith) e in
          let d = parting s b c hs hb hc f in
          omega (arith, i, d)
    ]

pub ways-apart : WaysApart
ways-apart n s h bs cs k m e d = different bs cs s h k.bits m.bits (k.long ∙ sym m.long) e d

pub inputs_apart : InputsApart
inputs_apart n bs cs k m d =
    let z = bits-zeros 6 in
    let l : length (bs ++ zeros 6) ≡ length (cs ++ zeros 6) = length-append bs (zeros 6) ∙ ap (λ (u : ℕ). u + length (zeros 6)) (k.long ∙ sym m.long) ∙ sym (length-append cs (zeros 6)) in
    different (bs ++ zeros 6) (cs ++ zeros 6) 0 (omega arith) (bits-append bs (zeros 6) k.bits z) (bits-append cs (zeros 6) m.bits z) l
    (comes_back bs k.bits ∙ sym (comes_back cs m.bits)) (λ e. d (append_cancel_right bs cs (zeros 6) e))
