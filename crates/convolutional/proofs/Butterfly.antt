-- Butterflies: what goes out from states 2 j and 2 j + 1, by a table that is tested against the masks; and a column that is filled two places at a time. Assumes nothing.
use Rattle.std.proofs.Common.{◌≡◌, ℕ, ◌+◌, ◌-◌, ◌*◌, ◌/◌, ◌%◌, ◌<◌, ◌≤◌, Bool, cond, ◌&&◌, T, eqb, leb, ◌≢◌, ◌⊎◌, List, [], ◌∷◌, map, length, get_or, set, below_more, sym, ap, ◌∙◌, subst, inl, inr, arith, eqb→eq, leb→le}
use Rattle.std.specs.List.{range_with_len}
use Rattle.std.specs.Simd.{first_chunks}
use Rattle.std.proofs.lemmas.List.FromFn.{fill_by_all}
use Rattle.std.proofs.lemmas.List.{map-set, length-set, get_or-set_same, get_or-set_other}
use Rattle.conv_theory.specs.declared.Cost.{Cost}
use Rattle.conv_theory.specs.Code.{deep, parity, first_out, second_out}
use Rattle.conv_theory.specs.Search.{cost_of, branch}
use Rattle.conv_theory.specs.Columns.{lower, higher, cheaper, choice}
use Rattle.bits.proofs.Tests.{every_below, every_below-at}
use Rattle.conv_theory.proofs.Basics.{and_first, and_second}
use Rattle.convolutional.proofs.Pairs.{pair-at}

abbrev pub firsts : List ℕ
firsts = 0 ∷ 0 ∷ 0 ∷ 0 ∷ 1 ∷ 1 ∷ 1 ∷ 1 ∷ 1 ∷ 1 ∷ 1 ∷ 1 ∷ 0 ∷ 0 ∷ 0 ∷ 0 ∷ 1 ∷ 1 ∷ 1 ∷ 1 ∷ 0 ∷ 0 ∷ 0 ∷ 0 ∷ 0 ∷ 0 ∷ 0 ∷ 0 ∷ 1 ∷ 1 ∷ 1 ∷ 1 ∷ []

abbrev pub seconds : List ℕ
seconds = 0 ∷ 1 ∷ 0 ∷ 1 ∷ 1 ∷ 0 ∷ 1 ∷ 0 ∷ 1 ∷ 0 ∷ 1 ∷ 0 ∷ 0 ∷ 1 ∷ 0 ∷ 1 ∷ 0 ∷ 1 ∷ 0 ∷ 1 ∷ 1 ∷ 0 ∷ 1 ∷ 0 ∷ 1 ∷ 0 ∷ 1 ∷ 0 ∷ 0 ∷ 1 ∷ 0 ∷ 1 ∷ []

-- the table is right at state 2 j
first_right : ℕ → Bool
first_right j = let f = get_or firsts j 0 in (eqb (first_out deep (2 * j) 0) f && eqb (first_out deep (2 * j + 1) 0) (1 - f)) && (eqb (first_out deep (2 * j) 1) (1 - f) && eqb (first_out deep (2 * j + 1) 1) f)

second_right : ℕ → Bool
second_right j = let f = get_or seconds j 0 in (eqb (second_out deep (2 * j) 0) f && eqb (second_out deep (2 * j + 1) 0) (1 - f)) && (eqb (second_out deep (2 * j) 1) (1 - f) && eqb (second_out deep (2 * j + 1) 1) f)

all_first : T (every_below 32 first_right)
unfolding every_below first_right parity
all_first = tt

all-second : T (every_below 32 second_right)
unfolding every_below second_right parity
all-second = tt

-- what the table says of j
record Outs (out : ℕ → ℕ → ℕ) (j f : ℕ) : Type 0 where
  small : f ≤ 1
  even-0 : out (2 * j) 0 ≡ f
  odd-0 : out (2 * j + 1) 0 ≡ 1 - f
  even-1 : out (2 * j) 1 ≡ 1 - f
  odd-1 : out (2 * j + 1) 1 ≡ f

outs-from : (out : ℕ → ℕ → ℕ) (j f : ℕ) → f ≤ 1 →
    T ((eqb (out (2 * j) 0) f && eqb (out (2 * j + 1) 0) (1 - f)) && (eqb (out (2 * j) 1) (1 - f) && eqb (out (2 * j + 1) 1) f)) → Outs out j f
outs-from out j f l t =
    let a = eqb (out (2 * j) 0) f in
    let b = eqb (out (2 * j + 1) 0) (1 - f) in
    let c = eqb (out (2 * j) 1) (1 - f) in
    let d = eqb (out (2 * j + 1) 1) f in
    let p = and_first (a && b) (c && d) t in
    let q = and_second (a && b) (c && d) t in
    record {
      small = l;
      even-0 = eqb→eq _ _ (and_first a b p);
      odd-0 = eqb→eq _ _ (and_second a b p);
      even-1 = eqb→eq _ _ (and_first c d q);
      odd-1 = eqb→eq _ _ (and_second c d q);
    }

first_small : ℕ → Bool
first_small j = leb (get_or firsts j 0) 1 && leb (get_or seconds j 0) 1

all_small : T (every_below 32 first_small)
unfolding every_below first_small
all_small = tt

pub first_small_lem : (j : ℕ) → j < 32 → get_or firsts j 0 ≤ 1
unfolding first_small
first_small_lem j h = leb→le _ _ (and_first (leb (get_or firsts j 0) 1) (leb (get_or seconds j 0) 1) (every_below-at 32 first_small all_small j h))

pub second-small : (j : ℕ) → j < 32 → get_or seconds j 0 ≤ 1
unfolding first_small
second-small j h = leb→le _ _ (and_second (leb (get_or firsts j 0) 1) (leb (get_or seconds j 0) 1) (every_below-at 32 first_small all_small j h))

first-outs : (j : ℕ) → j < 32 → Outs (first_out deep) j (get_or firsts j 0)
unfolding first_right
first-outs j h = outs-from (first_out deep) j (get_or firsts j 0) (first_small_lem j h) (every_below-at 32 first_right all_first j h)

second-outs : (j : ℕ) → j < 32 → Outs (second_out deep) j (get_or seconds j 0)
unfolding second_right
second-outs j h = outs-from (second_out deep) j (get_or seconds j 0) (second-small j h) (every_below-at 32 second_right all-second j h)

branch-is : (x y : Cost) (s b p q : ℕ) → first_out deep s b ≡ p → second_out deep s b ≡ q → branch deep x y s b ≡ cost_of x p + cost_of y q
unfolding branch
branch-is x y s b p q e f = ap (λ (u : ℕ). cost_of x u + cost_of y (second_out deep s b)) e ∙ ap (λ (u : ℕ). cost_of x p + cost_of y u) f

lower-is : (os : List ℕ) (x y : Cost) (n j b : ℕ) → n % 32 ≡ j → n / 32 ≡ b → lower os x y n ≡ get_or os (2 * j) 0 + branch deep x y (2 * j) b
lower-is os x y n j b e f = ap (λ (i : ℕ). get_or os (2 * i) 0 + branch deep x y (2 * i) (n / 32)) e ∙ ap (λ (i : ℕ). get_or os (2 * j) 0 + branch deep x y (2 * j) i) f

higher-is : (os : List ℕ) (x y : Cost) (n j b : ℕ) → n % 32 ≡ j → n / 32 ≡ b → higher os x y n ≡ get_or os (2 * j + 1) 0 + branch deep x y (2 * j + 1) b
higher-is os x y n j b e f = ap (λ (i : ℕ). get_or os (2 * i + 1) 0 + branch deep x y (2 * i + 1) (n / 32)) e ∙ ap (λ (i : ℕ). get_or os (2 * j + 1) 0 + branch deep x y (2 * j + 1) i) f

-- the two ways into state j, and into state j + 32, by the costs of taking the two bits as the table says, and the other way round
pub record Butterfly (os : List ℕ) (x y : Cost) (j straight crossed : ℕ) : Type 0 where
  pub low-0 : lower os x y j ≡ get_or os (2 * j) 0 + straight
  pub high-0 : higher os x y j ≡ get_or os (2 * j + 1) 0 + crossed
  pub low-1 : lower os x y (j + 32) ≡ get_or os (2 * j) 0 + crossed
  pub high-1 : higher os x y (j + 32) ≡ get_or os (2 * j + 1) 0 + straight

pub butterfly : (os : List ℕ) (x y : Cost) (j straight crossed : ℕ) → j < 32 →
    straight ≡ cost_of x (get_or firsts j 0) + cost_of y (get_or seconds j 0) → crossed ≡ cost_of x (1 - get_or firsts j 0) + cost_of y (1 - get_or seconds j 0) → Butterfly os x y j straight crossed
butterfly os x y j straight crossed h es ec =
    let f = get_or firsts j 0 in
    let g = get_or seconds j 0 in
    let p = first-outs j h in
    let q = second-outs j h in
    let a = branch-is x y (2 * j) 0 f g p.even-0 q.even-0 in
    let b = branch-is x y (2 * j + 1) 0 (1 - f) (1 - g) p.odd-0 q.odd-0 in
    let c = branch-is x y (2 * j) 1 (1 - f) (1 - g) p.even-1 q.even-1 in
    let d = branch-is x y (2 * j + 1) 1 f g p.odd-1 q.odd-1 in
    record {
      low-0 = lower-is os x y j j 0 (omega arith) (omega arith) ∙ ap (λ (u : ℕ). get_or os (2 * j) 0 + u) (a ∙ sym es);
      high-0 = higher-is os x y j j 0 (omega arith) (omega arith) ∙ ap (λ (u : ℕ). get_or os (2 * j + 1) 0 + u) (b ∙ sym ec);
      low-1 = lower-is os x y (j + 32) j 1 (omega arith) (omega arith) ∙ ap (λ (u : ℕ). get_or os (2 * j) 0 + u) (c ∙ sym ec);
      high-1 = higher-is os x y (j + 32) j 1 (omega arith) (omega arith) ∙ ap (λ (u : ℕ). get_or os (2 * j + 1) 0 + u) (d ∙ sym es);
    }

pub cost-is : (os : List ℕ) (x y : Cost) (n a b r : ℕ) → lower os x y n ≡ a → higher os x y n ≡ b → r ≡ cond (leb a b) a b → r ≡ cheaper os x y n
unfolding cheaper
cost-is os x y n a b r e f h = rw (e, f) h

pub choice-is : (os : List ℕ) (x y : Cost) (n a b r : ℕ) → lower os x y n ≡ a → higher os x y n ≡ b → r ≡ cond (leb a b) 0 1 → r ≡ choice os x y n
unfolding choice
choice-is os x y n a b r e f h = rw (e, f) h

-- ---- a list of 64 that is filled at j and j + 32, for each j below 32
pub record Filled (f : ℕ → ℕ) (xs : List ℕ) (j : ℕ) : Type 0 where
  pub long : length xs ≡ 64
  pub front : (k : ℕ) → k < j → get_or xs k 0 ≡ f k
  pub rear : (k : ℕ) → k < j → get_or xs (k + 32) 0 ≡ f (k + 32)

pub filled_none : (f : ℕ → ℕ) (xs : List ℕ) → length xs ≡ 64 → Filled f xs 0
filled_none f xs l = record { long = l; front = λ k h. (let z : ⊥ = omega arith in absurd z); rear = λ k h. (let z : ⊥ = omega arith in absurd z) }

pub filled_more : (f : ℕ → ℕ) (xs : List ℕ) (j v w : ℕ) → j < 32 → Filled f xs j → v ≡ f j → w ≡ f (j + 32) → Filled f (set (set xs j v) (j + 32) w) (j + 1)
filled_more f xs j v w h d ev ew =
    let l = d.long in
    let m : length (set xs j v) ≡ 64 = length-set xs j v ∙ l in
    let far : j ≢ j + 32 = omega arith in
    let ys = set (set xs j v) (j + 32) w in
    record {
      long = length-set (set xs j v) (j + 32) w ∙ m;
      front =
          below_more (λ k. get_or ys k 0 ≡ f k) j
          (λ k b.
          let ne : k ≢ j + 32 = omega arith in
          let ne' : k ≢ j = omega arith in
          get_or-set_other (set xs j v) (j + 32) k w 0 ne ∙ get_or-set_other xs j k v 0 ne' ∙ d.front k b)
          (get_or-set_other (set xs j v) (j + 32) j w 0 far ∙ get_or-set_same xs j v 0 (omega arith) ∙ ev);
      rear =
          below_more (λ k. get_or ys (k + 32) 0 ≡ f (k + 32)) j
          (λ k b.
          let ne : k + 32 ≢ j + 32 = omega arith in
          let ne' : k + 32 ≢ j = omega arith in
          get_or-set_other (set xs j v) (j + 32) (k + 32) w 0 ne ∙ get_or-set_other xs j (k + 32) v 0 ne' ∙ d.rear k b)
          (get_or-set_same (set xs j v) (j + 32) w 0 (omega arith) ∙ ew);
    }

-- the same, where the list is what numbers the values of another are
pub filled_both : {A : Type 0} (number : A → ℕ) (f : ℕ → ℕ) (xs : List A) (j : ℕ) (a b : A) → j < 32 → Filled f (map number xs) j → number a ≡ f j → number b ≡ f (j + 32) →
    Filled f (map number (set (set xs j a) (j + 32) b)) (j + 1)
filled_both number f xs j a b h d ea eb =
    let e : map number (set (set xs j a) (j + 32) b) ≡ set (set (map number xs) j (number a)) (j + 32) (number b) =
    map-set number (set xs j a) (j + 32) b ∙ ap (λ (u : List ℕ). set u (j + 32) (number b)) (map-set number xs j a) in
    subst (λ (u : List ℕ). Filled f u (j + 1)) (sym e) (filled_more f (map number xs) j (number a) (number b) h d ea eb)

-- there is room for the cost of a branch behind value b of pair j
pub room : {A : Type 0} (number : A → ℕ) (xs : List A) (m j b cost most : ℕ) (pairs : List (List A)) (p e : List A) (d : A) → length xs ≡ 64 → pairs ≡ first_chunks 2 m xs → length pairs ≡ length xs / 2 → m ≡ length xs / 2 →
    j < length pairs → b < 2 → p ≡ get_or pairs j e → ((k : ℕ) → k < 64 → get_or (map number xs) k 0 + 510 ≤ most) → cost ≤ 510 → number (get_or p b d) + cost ≤ most
room number xs m j b cost most pairs p e d l front n em h hb ep all small =
    let r = all (2 * j + b) (omega (arith, h, n, l)) in
    let v = pair-at number xs m j b (2 * j + b) pairs p e d 0 front (omega (arith, h, n, em)) hb (omega arith) (omega (arith, h, n, l)) ep in
    omega (arith, r, v)

front-or-rear : (k : ℕ) → (k < 32) ⊎ (32 ≤ k)
front-or-rear k = grind arith

pub filled-all : (f : ℕ → ℕ) (xs : List ℕ) (j : ℕ) → 32 ≤ j → Filled f xs j → xs ≡ map f (range_with_len 0 64)
filled-all f xs j h d =
    fill_by_all f xs 64 0 d.long
    (λ k hk. elim (front-or-rear k) [
      | inl a ↦ d.front k (omega arith)
      | inr b ↦ let e : k - 32 + 32 ≡ k = omega arith in subst (λ (i : ℕ). get_or xs i 0 ≡ f i) e (d.rear (k - 32) (omega arith))
    ])
