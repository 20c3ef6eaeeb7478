-- The survivors of the search: none costs more than any way to its state, and each is the way that it says. Assumes nothing.
use Rattle.std.proofs.Common.{◌≡◌, ℕ, zero, suc, ◌+◌, ◌*◌, ◌/◌, ◌%◌, ◌<◌, ◌≤◌, true, false, cond, T, leb, ◌⊎◌, List, [], ◌∷◌, ◌++◌, reverse, length, get_or, sym, refl, ap, ◌∙◌, inl, inr, arith}
use Rattle.std.proofs.lemmas.List.FromFn.{get_or-map-range_with_len}
use Rattle.std.proofs.lemmas.List.{reverse-append, append_assoc}
use Rattle.std.proofs.lemmas.Bool.{leb-true, leb-false}
use Rattle.bits.specs.Lists.{are_bits}
use Rattle.conv_theory.specs.declared.Cost.{Cost}
use Rattle.conv_theory.specs.Code.{deep, next, run, spread}
use Rattle.conv_theory.specs.Search.{Way, start, branch, along, better, into, column, ways, cost_of_all}
use Rattle.conv_theory.proofs.Basics.{first_bit, rest-bits, more-bits, no_bits}
use Rattle.conv_theory.proofs.States.{next-below}

-- the survivor of a state
abbrev pub at : List Way → ℕ → Way
at ws s = get_or ws s (start 0)

pub column-at : (ws : List Way) (x y : Cost) (n : ℕ) → n < 64 → at (column deep ws x y) n ≡ into deep ws x y n
unfolding column
column-at ws x y n h = get_or-map-range_with_len (into deep ws x y) 0 64 n n (start 0) h (omega arith)

better-left : (v w : Way) → (better v w).cost ≤ v.cost
better-left v w =
    elim (leb v.cost w.cost) as (λ t. leb v.cost w.cost ≡ t → (cond t v w).cost ≤ v.cost)
    [ true ↦ λ e. omega arith | false ↦ λ e. omega (arith, leb-false v.cost w.cost e) ] refl

better-right : (v w : Way) → (better v w).cost ≤ w.cost
better-right v w =
    elim (leb v.cost w.cost) as (λ t. leb v.cost w.cost ≡ t → (cond t v w).cost ≤ w.cost)
    [ true ↦ λ e. omega (arith, leb-true v.cost w.cost e) | false ↦ λ e. omega arith ] refl

from_low : (ws : List Way) (x y : Cost) (n s b : ℕ) → 2 * (n % 32) ≡ s → n / 32 ≡ b → (into deep ws x y n).cost ≤ (along deep ws x y s b).cost
unfolding into
from_low ws x y n s b e f =
    rw (← e, ← f) (better-left (along deep ws x y (2 * (n % 32)) (n / 32)) (along deep ws x y (2 * (n % 32) + 1) (n / 32)))

from-high : (ws : List Way) (x y : Cost) (n s b : ℕ) → 2 * (n % 32) + 1 ≡ s → n / 32 ≡ b → (into deep ws x y n).cost ≤ (along deep ws x y s b).cost
unfolding into
from-high ws x y n s b e f =
    rw (← e, ← f) (better-right (along deep ws x y (2 * (n % 32)) (n / 32)) (along deep ws x y (2 * (n % 32) + 1) (n / 32)))

even-or-odd : (s : ℕ) → (2 * (s / 2) ≡ s) ⊎ (2 * (s / 2) + 1 ≡ s)
even-or-odd s = grind arith

one-step : (ws : List Way) (x y : Cost) (s b : ℕ) → s < 64 → b < 2 →
    (into deep ws x y (next deep s b)).cost ≤ (at ws s).cost + branch deep x y s b
one-step ws x y s b h k =
    let f : next deep s b / 32 ≡ b = omega arith in
    elim (even-or-odd s) [
      | inl e ↦ from_low ws x y (next deep s b) s b (omega arith) f
      | inr e ↦ from-high ws x y (next deep s b) s b (omega arith) f
    ]

-- no survivor costs more than any way to its state
pub none-cheaper : (bs : List ℕ) (cs : List Cost) (ws : List Way) (s : ℕ) → s < 64 → T (are_bits bs) → length cs ≡ 2 * length bs →
    (at (ways deep ws cs) (run deep s bs)).cost ≤ (at ws s).cost + cost_of_all cs (spread deep s bs)
unfolding ways run spread cost_of_all branch
none-cheaper [] [] ws s h t e = omega arith
none-cheaper [] (c ∷ cs) ws s h t e = let z : ⊥ = omega arith in absurd z
none-cheaper (b ∷ bs) [] ws s h t e = let z : ⊥ = omega arith in absurd z
none-cheaper (b ∷ bs) (x ∷ []) ws s h t e = let z : ⊥ = omega arith in absurd z
none-cheaper (b ∷ bs) (x ∷ y ∷ cs) ws s h t e =
    let k = first_bit b bs t in
    let h' = next-below s b h k in
    let i = none-cheaper bs cs (column deep ws x y) (next deep s b) h' (rest-bits b bs t) (omega arith) in
    let j = one-step ws x y s b h k in
    let c = ap (λ (w : Way). w.cost) (column-at ws x y (next deep s b) h') in
    omega (arith, i, j, c)

-- the two states that lead into n by one bit
pub record Chosen (ws : List Way) (x y : Cost) (n : ℕ) : Type 0 where
  pub state : ℕ
  pub within : state < 64
  pub leads : next deep state (n / 32) ≡ n
  pub is : into deep ws x y n ≡ along deep ws x y state (n / 32)

pub chosen : (ws : List Way) (x y : Cost) (n : ℕ) → n < 64 → Chosen ws x y n
unfolding into
chosen ws x y n h =
    let v : Way = along deep ws x y (2 * (n % 32)) (n / 32) in
    let w : Way = along deep ws x y (2 * (n % 32) + 1) (n / 32) in
    elim (leb v.cost w.cost) as (λ t. leb v.cost w.cost ≡ t → Chosen ws x y n) [
      | true ↦ λ e. record { state = 2 * (n % 32); within = omega arith; leads = omega arith; is = ap (λ t. cond t v w) e }
      | false ↦ λ e. record { state = 2 * (n % 32) + 1; within = omega arith; leads = omega arith; is = ap (λ t. cond t v w) e }
    ] refl

-- the survivor of state t is a way of n bits that goes on from the survivor of some state before
pub record Goes (ws : List Way) (cs : List Cost) (n t : ℕ) : Type 0 where
  pub state : ℕ
  pub path : List ℕ
  pub within : state < 64
  pub bits : T (are_bits path)
  pub long : length path ≡ n
  pub leads : run deep state path ≡ t
  pub costs : (at (ways deep ws cs) t).cost ≡ (at ws state).cost + cost_of_all cs (spread deep state path)
  pub reads : (at (ways deep ws cs) t).bits ≡ reverse path ++ (at ws state).bits

pub goes : (n : ℕ) (cs : List Cost) (ws : List Way) (t : ℕ) → t < 64 → length cs ≡ 2 * n → Goes ws cs n t
unfolding ways run spread cost_of_all branch
goes zero [] ws t h e =
    record { state = t; path = []; within = h; bits = no_bits; long = refl; leads = refl; costs = omega arith; reads = refl }
goes zero (c ∷ cs) ws t h e = let z : ⊥ = omega arith in absurd z
goes (suc n) [] ws t h e = let z : ⊥ = omega arith in absurd z
goes (suc n) (x ∷ []) ws t h e = let z : ⊥ = omega arith in absurd z
goes (suc n) (x ∷ y ∷ cs) ws t h e =
    let i = goes n cs (column deep ws x y) t h (omega arith) in
    let m = i.state in
    let p = chosen ws x y m i.within in
    let s = p.state in
    let b = m / 32 in
    let w : at (column deep ws x y) m ≡ along deep ws x y s b = column-at ws x y m i.within ∙ p.is in
    let wc : (at (column deep ws x y) m).cost ≡ (at ws s).cost + branch deep x y s b = ap (λ (w : Way). w.cost) w in
    let wb : (at (column deep ws x y) m).bits ≡ b ∷ (at ws s).bits = ap (λ (w : Way). w.bits) w in
    let sp : cost_of_all cs (spread deep (next deep s b) i.path) ≡ cost_of_all cs (spread deep m i.path) =
    ap (λ (u : ℕ). cost_of_all cs (spread deep u i.path)) p.leads in
    record {
      state = s;
      path = b ∷ i.path;
      within = p.within;
      bits = more-bits b i.path (let k = i.within in omega (arith, k)) i.bits;
      long = ap suc i.long;
      leads = ap (λ (u : ℕ). run deep u i.path) p.leads ∙ i.leads;
      costs = omega (arith, i.costs, wc, sp);
      reads = i.reads ∙ ap (λ (u : List ℕ). reverse i.path ++ u) wb ∙ sym (append_assoc (reverse i.path) (b ∷ []) (at ws s).bits) ∙
          ap (λ (u : List ℕ). u ++ (at ws s).bits) (sym (reverse-append (b ∷ []) i.path));
    }
