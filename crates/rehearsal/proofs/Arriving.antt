-- What arrives of a frame: bits. Assumes nothing.
use Rattle.std.proofs.Common.{◌≡◌, ℕ, Bool, true, false, cond, T, List, length, get_or, ◌<◌, Some, None, sym, ap, ◌∙◌, subst}
use Rattle.bits.specs.Lists.{are_bits}
use Rattle.frame_theory.specs.Frame.{frame}
use Rattle.rs_decoding.proofs.Bytes.{bytes-all}
use Rattle.link.proofs.Whole.{main}
use Rattle.text.specs.Noise.{arriving, emptied, flipped, stepped}
use Rattle.text.proofs.NoiseLaws.{text_right}

-- what arrives at all arrived spoiled
arrived : (b : Bool) (bits new : List ℕ) → cond b None (Some bits) ≡ Some new → bits ≡ new
arrived true bits new e = cc
arrived false bits new e = cc

pub arrived-bits : (p s : ℕ) (old new : List ℕ) → T (are_bits old) → arriving p s old ≡ Some new → T (are_bits new)
arrived-bits p s old new t e =
    subst (λ (bits : List ℕ). T (are_bits bits)) (arrived (emptied s) (flipped p (stepped s) old) new e) (text_right.noise.bits p (stepped s) old t)

-- and of the frame of a payload
pub arrives_in_bits :
    (p s : ℕ) (said sent new : List ℕ) → arriving p s sent ≡ Some new → sent ≡ frame said → length said ≡ 221 → ((i : ℕ) → get_or said i 0 < 256) →
    T (are_bits new)
arrives_in_bits p s said sent new e is long fits =
    arrived-bits p s sent new (subst (λ (bits : List ℕ). T (are_bits bits)) (sym is) (main.frames.whole said (long, bytes-all said (λ i h. fits i))).1) e

pub arrived-long : (p s : ℕ) (old new : List ℕ) → arriving p s old ≡ Some new → length new ≡ length old
arrived-long p s old new e =
    ap (λ (bits : List ℕ). length bits) (sym (arrived (emptied s) (flipped p (stepped s) old) new e)) ∙ text_right.noise.long p (stepped s) old
