-- What the calls of frames answer where the buffers have their lengths. Assumes nothing.
use Rattle.std.proofs.Common.{◌≡◌, ◌≢◌, ℕ, List, length, Some, None, Option, Ok, Result, inl, inr, ⊎_elim, sym, refl, ap, ◌∙◌, subst, arith}
use Rattle.std.specs.Option.{unwrap_or}
use Rattle.bits.specs.Lists.{zeros}
use Rattle.bits.specs.Heard.{Got}
use Rattle.bits.specs.declared.Refusal.{Refusal}
use Rattle.frame_theory.specs.Frame.{frame, Hears}
use Rattle.frame.specs.Hearing.{answer, left, Hearing as FrameHearing}
use Rattle.capi.specs.Calls.{Sends, Hearing, Decodes}

pub sent : (p q old new : List ℕ) → length p ≡ 221 → length old ≡ 4092 → q ≡ p → new ≡ frame q → Sends p old new 0
sent p q old new k l e f =
    record {
      done = λ _ _. (refl, f ∙ ap frame e);
      memory = λ z. absurd (z (k, l));
    }

pub heard : (bits old new : List ℕ) (h : Option (List ℕ)) (r : Result (Option (List ℕ)) Refusal) → length old ≡ 221 → FrameHearing bits r → r ≡ Ok h → new ≡ unwrap_or h (zeros 221) → Hearing bits old new (answer (Ok h))
heard bits old new h r l f e is = go h (subst (FrameHearing bits) e f) is
  where
    go : (h : Option (List ℕ)) → FrameHearing bits (Ok h) → new ≡ unwrap_or h (zeros 221) → Hearing bits old new (answer (Ok h))
    go None (frame, none) is =
        record {
          memory = λ z. absurd (z l);
          payload = λ z. let y : ⊥ = omega (arith, z) in absurd y;
          nothing = λ _. (none, is);
          heard = λ _ _. inl refl;
          refused = λ _ z. absurd (z frame);
          kept = ⊎_elim (λ e. let y : ⊥ = omega (arith, e) in absurd y) (λ e. let y : ⊥ = omega (arith, e) in absurd y);
        }
    go (Some p) (frame, got) is =
        record {
          memory = λ z. absurd (z l);
          payload = λ _. subst (λ (q : List ℕ). Hears bits (Got q)) (sym is) got;
          nothing = λ z. let y : ⊥ = omega (arith, z) in absurd y;
          heard = λ _ _. inr refl;
          refused = λ _ z. absurd (z frame);
          kept = ⊎_elim (λ e. let y : ⊥ = omega (arith, e) in absurd y) (λ e. let y : ⊥ = omega (arith, e) in absurd y);
        }

-- what lies in the payload's memory behind an answer
pub left_behind : (old new : List ℕ) (h : Option (List ℕ)) (r : Result (Option (List ℕ)) Refusal) → r ≡ Ok h → new ≡ unwrap_or h (zeros 221) → new ≡ left old r
left_behind old new None r e is = is ∙ ap (left old) (sym e)
left_behind old new (Some p) r e is = is ∙ ap (left old) (sym e)

-- where the buffer for the bits found has not its length
pub short : (heard old : List ℕ) (was r : ℕ) → (length old ≢ 2040) → r ≡ 4 → Decodes heard old old was was r
short heard old was r l e =
    record {
      memory = λ _. e;
      done = λ _ k _. absurd (l k);
      refused = λ _ k _. absurd (l k);
      kept = λ _. (refl, refl);
    }

-- what is said of an array is said of the slice that it was
pub decoded : (heard h old o new : List ℕ) (was cost r : ℕ) → h ≡ heard → o ≡ old → Decodes h o new was cost r → Decodes heard old new was cost r
decoded heard h old o new was cost r e f d = subst (λ (x : List ℕ). Decodes x old new was cost r) e (subst (λ (y : List ℕ). Decodes h y new was cost r) f d)
