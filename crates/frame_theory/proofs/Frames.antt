-- The promises of frames, from those of the two codes. Assumes nothing.
use Rattle.std.proofs.Common.{◌≡◌, ℕ, ◌*◌, ◌≤◌, T, List, ◌++◌, length, take, sym, refl, ap, ◌∙◌, subst, arith}
use Rattle.std.proofs.lemmas.List.{length-take-le}
use Rattle.std.proofs.lemmas.Bool.{both_ways}
use Rattle.bits.specs.Lists.{are_bytes, zeros}
use Rattle.bits.specs.Distance.{distance}
use Rattle.bits.specs.Bytes.{all_bits, all_bytes}
use Rattle.bits.specs.Pattern.{patterned}
use Rattle.bits.specs.Heard.{Heard, Lost, Got}
use Rattle.bits.proofs.Tests.{under-take}
use Rattle.bits.proofs.Hamming.{distance_self}
use Rattle.bits.proofs.Packing.{length-all_bits, length-all_bytes, are_bits-all_bits, round_trip}
use Rattle.bits.proofs.Patterns.{pattern-laws}
use Rattle.rs_theory.specs.Code.{is_codeword}
use Rattle.rs_theory.specs.Promise.{OuterCode}
use Rattle.conv_theory.specs.Search.{heard_bits}
use Rattle.conv_theory.specs.Statements.{NearestFound}
use Rattle.conv_theory.proofs.Hard.{length-sent, spread-bits}
use Rattle.frame_theory.specs.Frame.{Payload, checked, passes, carrier, scrambled, frame, word_in, Taken, Hears, right, spoiled, far}
use Rattle.frame_theory.specs.Promise.{FrameBits, FrameRight}
use Rattle.frame_theory.proofs.Always.{taken-always}
use Rattle.frame_theory.proofs.Words.{codeword-long, codeword-bytes, checked-long, checked-bytes, begins-payload, begins-passes}

-- the word that is heard has 255 bytes, whatever the bits
word-long : (r : List ℕ) → length (word_in r) ≡ 255
word-long r = length-all_bytes 255 (patterned (heard_bits r))

carrier-codeword : OuterCode → (p : List ℕ) → Payload p → T (is_codeword (carrier p))
carrier-codeword o p h = (o.encoded (checked p) (checked-long p h) (checked-bytes p h)).codeword

carrier-begins : OuterCode → (p : List ℕ) → Payload p → take 223 (carrier p) ≡ checked p
carrier-begins o p h = (o.encoded (checked p) (checked-long p h) (checked-bytes p h)).begins

scrambled-long : (w : List ℕ) → length w ≡ 255 → length (scrambled w) ≡ 2040
scrambled-long w e = pattern-laws.long (all_bits w) ∙ length-all_bits w ∙ ap (λ (n : ℕ). 8 * n) e

sixteen : OuterCode → (p r : List ℕ) → Payload p → distance (carrier p) (word_in r) ≤ 16 → Hears r (Got p)
sixteen o p r h near =
    let begins = carrier-begins o p h in
    subst (λ (q : List ℕ). Hears r (Got q)) (begins-payload p (carrier p) h begins)
    (right (carrier p) (carrier-codeword o p h) near (begins-passes p (carrier p) h begins))

-- bits that the inner code decodes as a word's give the word
word_back : (r w : List ℕ) → length w ≡ 255 → T (are_bytes w) → heard_bits r ≡ scrambled w → word_in r ≡ w
word_back r w e t same =
    ap (λ (bs : List ℕ). all_bytes 255 (patterned bs)) same
    ∙ ap (all_bytes 255) (pattern-laws.twice (all_bits w) (are_bits-all_bits w))
    ∙ ap (λ (n : ℕ). all_bytes n (all_bits w)) (sym e)
    ∙ round_trip.bytes w t

cleared : OuterCode → NearestFound → (p r : List ℕ) → Payload p → FrameBits r → distance (frame p) r ≤ 4 → word_in r ≡ carrier p
cleared o i p r h k near =
    let code = carrier-codeword o p h in
    let long : length (carrier p) ≡ 255 = codeword-long (carrier p) code in
    let found : heard_bits r ≡ scrambled (carrier p) =
    (i 2040 r k.0 k.1).four (scrambled (carrier p)) (scrambled-long (carrier p) long) (pattern-laws.bits (all_bits (carrier p))) near in
    word_back r (carrier p) long (codeword-bytes (carrier p) code) found

four : OuterCode → NearestFound → (p r : List ℕ) → Payload p → FrameBits r → distance (frame p) r ≤ 4 → Hears r (Got p)
four o i p r h k near =
    sixteen o p r h (subst (λ (w : List ℕ). distance (carrier p) w ≤ 16) (sym (cleared o i p r h k near)) (omega (arith, distance_self (carrier p))))

-- a payload, if anything is heard
abbrev IfGot : Heard → Type 0
IfGot Lost = Unit {0}
IfGot (Got p) = Payload p

taken-payload : (w : List ℕ) (h : Heard) → Taken w h → IfGot h
taken-payload w h (right c code near pass) =
    (length-take-le 221 c (omega (arith, codeword-long c code)), under-take 256 221 c (codeword-bytes c code))
taken-payload w h (spoiled c code near fails) = tt
taken-payload w h (far none) = tt

-- within 16 places there is one code word at most, so one thing is taken
pub one : OuterCode → (w : List ℕ) (h g : Heard) → length w ≡ 255 → Taken w h → Taken w g → h ≡ g
one o w h g k (right c code near pass) (right d dcode dnear dpass) = ap (λ (v : List ℕ). Got (take 221 v)) (o.nearest c d w code dcode k near dnear)
one o w h g k (right c code near pass) (spoiled d dcode dnear dfails) = absurd (both_ways (passes d) dfails (sym (ap passes (o.nearest c d w code dcode k near dnear)) ∙ pass))
one o w h g k (right c code near pass) (far none) = absurd (omega (arith, none c code))
one o w h g k (spoiled c code near fails) (right d dcode dnear dpass) = absurd (both_ways (passes c) fails (ap passes (o.nearest c d w code dcode k near dnear) ∙ dpass))
one o w h g k (spoiled c code near fails) (spoiled d dcode dnear dfails) = refl
one o w h g k (spoiled c code near fails) (far none) = refl
one o w h g k (far none) (right d dcode dnear dpass) = absurd (omega (arith, none d dcode))
one o w h g k (far none) (spoiled d dcode dnear dfails) = refl
one o w h g k (far none) (far also) = refl

all : OuterCode → (p : List ℕ) → Payload p → FrameBits (frame p)
all o p h =
    let bits = scrambled (carrier p) in
    let long = scrambled-long (carrier p) (codeword-long (carrier p) (carrier-codeword o p h)) in
    (length-sent 2040 bits long, spread-bits 0 (bits ++ zeros 6))

pub frame_right : OuterCode → NearestFound → FrameRight
frame_right o i =
    record {
      whole = all o;
      count = refl;
      four_bits = four o i;
      none_wrong = cleared o i;
      sixteen_bytes = λ p r h k near. sixteen o p r h near;
      always = λ r k. taken-always (word_in r);
      one_thing = λ r h g. one o (word_in r) h g (word-long r);
      payload = λ r p h. taken-payload (word_in r) (Got p) h;
    }
