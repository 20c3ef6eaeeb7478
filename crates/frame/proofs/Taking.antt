-- What is taken from a word, where its repair gave a code word. Assumes nothing.
use Rattle.std.proofs.Common.{◌≡◌, ℕ, ◌≤◌, Bool, true, false, T, List, take, sym, subst, arith, Option}
use Rattle.std.specs.Bool.{then_some}
use Rattle.bits.specs.Distance.{distance}
use Rattle.bits.specs.Heard.{Got, heard_of}
use Rattle.rs_theory.specs.Code.{is_codeword}
use Rattle.frame_theory.specs.Frame.{passes, Taken, right, spoiled}

-- its payload, if the check is right
pub taken : (w v p : List ℕ) (k : ℕ) (b : Bool) (r : Option (List ℕ)) → (T (is_codeword v) × (distance v w ≡ k) × (k ≤ 16)) → b ≡ passes v → p ≡ take 221 v → r ≡ then_some b p → Taken w (heard_of r)
taken w v p k b r (code, e, h) pass same is = subst (λ (s : Option (List ℕ)). Taken w (heard_of s)) (sym is) (go b pass)
  where
    near : distance v w ≤ 16
    near = omega (arith, e, h)

    go : (b : Bool) → b ≡ passes v → Taken w (heard_of (then_some b p))
    go false pass = spoiled v code near (sym pass)
    go true pass = subst (λ (q : List ℕ). Taken w (Got q)) (sym same) (right v code near (sym pass))
