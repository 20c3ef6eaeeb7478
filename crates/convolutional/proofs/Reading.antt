-- The backward loop: what is read from the decisions is what was found. Assumes nothing.
use Rattle.std.proofs.Common.{◌≡◌, ℕ, ◌+◌, ◌*◌, ◌/◌, ◌%◌, ◌<◌, ◌≤◌, ◌≢◌, ◌⊎◌, List, [], ◌++◌, reverse, length, get_or, take, set, sym, ap, ◌∙◌, subst, inl, inr, arith}
use Rattle.std.proofs.lemmas.List.{get_or-set_same, get_or-set_other, length-set}
use Rattle.bits.specs.Lists.{zeros}
use Rattle.conv_theory.specs.declared.Cost.{Cost}
use Rattle.conv_theory.specs.Search.{best}
use Rattle.conv_theory.specs.Columns.{after, choices_at, Decided}
use Rattle.conv_theory.proofs.Survivors.{at}
use Rattle.conv_theory.proofs.Columns.{back, back-first, choice-bit, front-is}

-- the survivor of state s after i columns reads as what was found, as far as i; and from i on the output is what was found
pub record Reads (cs : List Cost) (out : List ℕ) (i s : ℕ) : Type 0 where
  pub front : (at (after cs i) s).bits ≡ reverse (take i (best cs ++ zeros 6))
  pub rear : (k : ℕ) → i ≤ k → k < length out → get_or out k 0 ≡ get_or (best cs ++ zeros 6) k 0

pub reads_first : (n : ℕ) (cs : List Cost) (out : List ℕ) (m : ℕ) → m ≡ n + 6 → length out ≡ n → length cs ≡ 2 * m → Reads cs out m 0
reads_first n cs out m e l h =
    record {
      front = subst (λ (i : ℕ). (at (after cs i) 0).bits ≡ reverse (take i (best cs ++ zeros 6))) (sym e) (back-first n cs (omega arith));
      rear = λ k a b. (let z : ⊥ = omega arith in absurd z);
    }

first-or-behind : (k i : ℕ) → i ≤ k → (k ≡ i) ⊎ (i + 1 ≤ k)
first-or-behind k i h = grind arith

-- the decision is read modulo 2, and is 0 or 1
pub reads_more : (n : ℕ) (cs : List Cost) (ds : List (List ℕ)) (out : List ℕ) (i s d : ℕ) → length out ≡ n → length cs ≡ 2 * (n + 6) → Decided cs (n + 6) ds → i < n + 6 → s < 64 →
    d ≡ get_or (get_or ds i []) s 0 % 2 → Reads cs out (i + 1) s → Reads cs (set out i (s / 32)) i (2 * (s % 32) + d)
reads_more n cs ds out i s d l h dec hi hs ed r =
    let b = back n cs i s h hi hs r.front in
    let c = choice-bit cs i s hs in
    let g = ap (λ (u : List ℕ). get_or u s 0) (dec i hi) in
    let e : get_or (choices_at cs i) s 0 ≡ d = omega (arith, c, g, ed) in
    let m = length-set out i (s / 32) in
    record {
      front = ap (λ (u : ℕ). (at (after cs i) (2 * (s % 32) + u)).bits) (sym e) ∙ b.before;
      rear = λ k a q. elim (first-or-behind k i a) [
        | inl f ↦ subst (λ (j : ℕ). get_or (set out i (s / 32)) j 0 ≡ get_or (best cs ++ zeros 6) j 0) (sym f) (get_or-set_same out i (s / 32) 0 (omega (arith, m)) ∙ b.bit)
        | inr f ↦ let ne : k ≢ i = omega arith in get_or-set_other out i k (s / 32) 0 ne ∙ r.rear k f (omega (arith, m))
      ];
    }

pub reads_all : (n : ℕ) (cs : List Cost) (out : List ℕ) (i s : ℕ) → length out ≡ n → length cs ≡ 2 * (n + 6) → i ≤ 0 → Reads cs out i s → out ≡ best cs
reads_all n cs out i s l h z r = front-is n cs out h l (λ k b. r.rear k (omega arith) (omega arith))
