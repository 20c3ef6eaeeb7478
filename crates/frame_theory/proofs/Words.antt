-- Code words taken apart, and the check inside them. Assumes nothing.
use Rattle.std.proofs.Common.{◌≡◌, ℕ, zero, suc, ◌+◌, ◌*◌, ◌/◌, ◌%◌, ◌<◌, true, ◌&&◌, T, eqb, ltb, List, [], ◌∷◌, length, get_or, take, sym, ap, ◌∙◌, arith, lit<, length-append}
use lib.Bits.{bit_xor, xor_lt}
use Rattle.std.proofs.lemmas.List.{take-take, take_at, get_or-take, get_or_at, get_or-append-add}
use Rattle.std.proofs.lemmas.Bool.{and_parts, ltb-true, eqb-true, eq-eqb, cond_both}
use Rattle.bits.specs.Lists.{are_bytes}
use Rattle.bits.specs.Crc.{crc, crc_from, shifted, shifted_by}
use Rattle.bits.proofs.Tests.{holds-true, true-holds, under-head, under_tail, under-cons, under-nil, under-append}
use Rattle.rs_theory.specs.Code.{is_codeword, vanishes}
use Rattle.frame_theory.specs.Frame.{Payload, checked, passes}

parts : (c : List ℕ) → T (is_codeword c) → ((eqb (length c) 255 && are_bytes c) ≡ true) × (vanishes 32 c ≡ true)
parts c t = and_parts (eqb (length c) 255 && are_bytes c) (vanishes 32 c) (holds-true _ t)

pub codeword-long : (c : List ℕ) → T (is_codeword c) → length c ≡ 255
codeword-long c t = eqb-true (length c) 255 (and_parts (eqb (length c) 255) (are_bytes c) (parts c t).0).0

pub codeword-bytes : (c : List ℕ) → T (is_codeword c) → T (are_bytes c)
codeword-bytes c t = true-holds _ (and_parts (eqb (length c) 255) (are_bytes c) (parts c t).0).1

shifted-below : (c : ℕ) → c < 65536 → shifted c < 65536
shifted-below c h =
    cond_both (ltb c 32768) (2 * c) (bit_xor ((2 * c) % 65536) 4129) (λ (x : ℕ). x < 65536)
    (λ e. omega (arith, ltb-true c 32768 e))
    (λ e. xor_lt 16 ((2 * c) % 65536) 4129 (omega arith) (lit< tt))

shifted_by-below : (n c : ℕ) → c < 65536 → shifted_by n c < 65536
unfolding shifted_by
shifted_by-below zero c h = h
shifted_by-below (suc n) c h = shifted_by-below n (shifted c) (shifted-below c h)

crc_from-below : (c : ℕ) (bs : List ℕ) → c < 65536 → T (are_bytes bs) → crc_from c bs < 65536
unfolding crc_from
crc_from-below c [] h t = h
crc_from-below c (b ∷ bs) h t =
    let small : b < 256 = under-head 256 b bs t in
    crc_from-below (shifted_by 8 (bit_xor c (256 * b))) bs (shifted_by-below 8 (bit_xor c (256 * b)) (xor_lt 16 c (256 * b) h (omega arith))) (under_tail 256 b bs t)

-- the check of bytes has 16 bits
pub crc-below : (bs : List ℕ) → T (are_bytes bs) → crc bs < 65536
crc-below bs t = crc_from-below 65535 bs (lit< tt) t

pub checked-long : (p : List ℕ) → Payload p → length (checked p) ≡ 223
checked-long p h = length-append p _ ∙ ap (λ (n : ℕ). n + 2) h.0

pub checked-bytes : (p : List ℕ) → Payload p → T (are_bytes (checked p))
checked-bytes p h =
    let c = crc p in
    let low : c < 65536 = crc-below p h.1 in
    under-append 256 p (c / 256 ∷ c % 256 ∷ []) h.1 (under-cons 256 (c / 256) (c % 256 ∷ []) (omega arith) (under-cons 256 (c % 256) [] (omega arith) (under-nil 256)))

-- a word that begins with a checked payload begins with the payload, and its check is right
pub begins-payload : (p w : List ℕ) → Payload p → take 223 w ≡ checked p → take 221 w ≡ p
begins-payload p w h e = sym (take-take 221 223 w (omega arith)) ∙ ap (take 221) e ∙ take_at p _ 221 h.0

pub begins-passes : (p w : List ℕ) → Payload p → take 223 w ≡ checked p → passes w ≡ true
begins-passes p w h e =
    let c = crc p in
    let low : get_or w 221 0 ≡ c / 256 =
    sym (get_or-take 223 w 221 0 (lit< tt)) ∙ ap (λ (v : List ℕ). get_or v 221 0) e ∙ get_or_at p (c / 256) (c % 256 ∷ []) 0 221 h.0 in
    let high : get_or w 222 0 ≡ c % 256 =
    sym (get_or-take 223 w 222 0 (lit< tt)) ∙ ap (λ (v : List ℕ). get_or v 222 0) e
    ∙ ap (λ (n : ℕ). get_or (checked p) (n + 1) 0) (sym h.0) ∙ get_or-append-add p (c / 256 ∷ c % 256 ∷ []) 1 0 in
    let same : crc (take 221 w) ≡ c = ap crc (begins-payload p w h e) in
    let sum : 256 * (c / 256) + c % 256 ≡ c = omega arith in
    eq-eqb _ _ (same ∙ sym sum ∙ sym (ap (λ (x : ℕ). 256 * x + get_or w 222 0) low ∙ ap (λ (x : ℕ). 256 * (c / 256) + x) high))
