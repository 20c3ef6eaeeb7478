-- The search by numbers is the search: costs and decisions column by column, the bound on costs, and how decisions are read back. Assumes nothing.
use Rattle.std.proofs.Common.{◌≡◌, ℕ, zero, suc, ◌+◌, ◌*◌, ◌/◌, ◌%◌, ◌<◌, ◌≤◌, max, Bool, true, false, cond, T, leb, List, [], ◌∷◌, ◌++◌, map, reverse, length, get_or, take, replicate, sym, refl, ap, ◌∙◌, subst, arith}
use Rattle.std.proofs.lemmas.List.FromFn.{length-map-range_with_len, fill_by_all, get_or-map-range_with_len}
use Rattle.std.proofs.lemmas.List.{get_or-map, length-map, take_more, take_all, append_assoc, reverse-append, get_or-replicate, length-take-le, length-append, ext_get_or, get_or_append_left}
use Rattle.std.proofs.lemmas.Bool.{cond_both}
use Rattle.bits.specs.Lists.{are_bits, zeros}
use Rattle.conv_theory.specs.declared.Cost.{Cost}
use Rattle.conv_theory.specs.Code.{deep, first_out, second_out, sent}
use Rattle.conv_theory.specs.Search.{Way, start, cost_of_all, begin, branch, along, into, column, ways, total, survivors, best, hard}
use Rattle.conv_theory.specs.Columns.{lower, higher, cheaper, choice, next_costs, choices, after, cost_in, costs_after, nothing, choices_at}
use Rattle.bits.proofs.Tests.{length-zeros}
use Rattle.conv_theory.proofs.Basics.{first_bit, rest-bits}
use Rattle.conv_theory.proofs.Survivors.{at, column-at, chosen}
use Rattle.conv_theory.proofs.Optimality.{one-within, found}

-- ---- one column
length-column : (ws : List Way) (x y : Cost) → length (column deep ws x y) ≡ 64
unfolding column
length-column ws x y = length-map-range_with_len (into deep ws x y) 0 64

cost-at : (ws : List Way) (s : ℕ) → length ws ≡ 64 → s < 64 → get_or (map cost_in ws) s 0 ≡ (at ws s).cost
cost-at ws s l h = get_or-map cost_in ws s (start 0) 0 (omega arith)

-- the two ways into a state, by numbers
low-cost : (ws : List Way) (x y : Cost) (n : ℕ) → length ws ≡ 64 → n < 64 → (along deep ws x y (2 * (n % 32)) (n / 32)).cost ≡ lower (map cost_in ws) x y n
low-cost ws x y n l h = ap (λ (c : ℕ). c + branch deep x y (2 * (n % 32)) (n / 32)) (sym (cost-at ws (2 * (n % 32)) l (omega arith)))

high-cost : (ws : List Way) (x y : Cost) (n : ℕ) → length ws ≡ 64 → n < 64 → (along deep ws x y (2 * (n % 32) + 1) (n / 32)).cost ≡ higher (map cost_in ws) x y n
high-cost ws x y n l h = ap (λ (c : ℕ). c + branch deep x y (2 * (n % 32) + 1) (n / 32)) (sym (cost-at ws (2 * (n % 32) + 1) l (omega arith)))

abbrev decides : Bool → ℕ
decides t = cond t 0 1

-- the survivor into a state is the one that the decision names
pub record Read (ws : List Way) (x y : Cost) (n : ℕ) : Type 0 where
  pub cost : (at (column deep ws x y) n).cost ≡ cheaper (map cost_in ws) x y n
  pub bits : (at (column deep ws x y) n).bits ≡ n / 32 ∷ (at ws (2 * (n % 32) + choice (map cost_in ws) x y n)).bits

pub read : (ws : List Way) (x y : Cost) (n : ℕ) → length ws ≡ 64 → n < 64 → Read ws x y n
unfolding into cheaper choice
read ws x y n l h =
    let v : Way = along deep ws x y (2 * (n % 32)) (n / 32) in
    let w : Way = along deep ws x y (2 * (n % 32) + 1) (n / 32) in
    let a = lower (map cost_in ws) x y n in
    let b = higher (map cost_in ws) x y n in
    let va : v.cost ≡ a = low-cost ws x y n l h in
    let wb : w.cost ≡ b = high-cost ws x y n l h in
    let is : at (column deep ws x y) n ≡ cond (leb v.cost w.cost) v w = column-at ws x y n h in
    let to : at (column deep ws x y) n ≡ cond (leb a b) v w = subst (λ (i : ℕ). at (column deep ws x y) n ≡ cond (leb a i) v w) wb (subst (λ (i : ℕ). at (column deep ws x y) n ≡ cond (leb i w.cost) v w) va is) in
    elim (leb a b) as (λ t. at (column deep ws x y) n ≡ cond t v w → leb a b ≡ t → Read ws x y n) [
      | true ↦ λ i e. record {
        cost = ap cost_in i ∙ va ∙ sym (ap (λ (t : Bool). cond t a b) e);
        bits = ap (λ (w : Way). w.bits) i ∙ ap (λ (s : ℕ). n / 32 ∷ (at ws s).bits) (let q : decides (leb a b) ≡ 0 = ap decides e in omega (arith, q));
      }
      | false ↦ λ i e. record {
        cost = ap cost_in i ∙ wb ∙ sym (ap (λ (t : Bool). cond t a b) e);
        bits = ap (λ (w : Way). w.bits) i ∙ ap (λ (s : ℕ). n / 32 ∷ (at ws s).bits) (let q : decides (leb a b) ≡ 1 = ap decides e in omega (arith, q));
      }
    ] to refl

column-costs : (ws : List Way) (x y : Cost) → length ws ≡ 64 → map cost_in (column deep ws x y) ≡ next_costs (map cost_in ws) x y
unfolding next_costs
column-costs ws x y l =
    fill_by_all (cheaper (map cost_in ws) x y) (map cost_in (column deep ws x y)) 64 0 (length-map (column deep ws x y) cost_in ∙ length-column ws x y)
    (λ k h. cost-at (column deep ws x y) k (length-column ws x y) h ∙ (read ws x y k l h).cost)

-- ---- column after column
ways-more : (m : ℕ) (ps : List Cost) (ws : List Way) (x y : Cost) → length ps ≡ 2 * m → ways deep ws (ps ++ x ∷ y ∷ []) ≡ column deep (ways deep ws ps) x y
unfolding ways
ways-more zero [] ws x y e = refl
ways-more zero (p ∷ ps) ws x y e = let z : ⊥ = omega arith in absurd z
ways-more (suc m) [] ws x y e = let z : ⊥ = omega arith in absurd z
ways-more (suc m) (p ∷ []) ws x y e = let z : ⊥ = omega arith in absurd z
ways-more (suc m) (p ∷ q ∷ ps) ws x y e = ways-more m ps (column deep ws p q) x y (omega arith)

pub after_more : (cs : List Cost) (i : ℕ) → 2 * i + 1 < length cs →
    after cs (i + 1) ≡ column deep (after cs i) (get_or cs (2 * i) nothing) (get_or cs (2 * i + 1) nothing)
unfolding after
after_more cs i h =
    let x = get_or cs (2 * i) nothing in
    let y = get_or cs (2 * i + 1) nothing in
    let n : 2 * (i + 1) ≡ 2 * i + 1 + 1 = omega arith in
    let e : take (2 * (i + 1)) cs ≡ take (2 * i) cs ++ x ∷ y ∷ [] =
    ap (λ (k : ℕ). take k cs) n ∙ take_more cs (2 * i + 1) nothing h ∙
    ap (λ (u : List Cost). u ++ y ∷ []) (take_more cs (2 * i) nothing (omega arith)) ∙ append_assoc (take (2 * i) cs) (x ∷ []) (y ∷ []) in
    ap (λ (u : List Cost). ways deep (begin deep (1 + total cs)) u) e ∙
    ways-more i (take (2 * i) cs) (begin deep (1 + total cs)) x y (length-take-le (2 * i) cs (omega arith))

length-begin : (far : ℕ) → length (begin deep far) ≡ 64
unfolding begin
length-begin far = refl

length-ways : (cs : List Cost) (ws : List Way) → length ws ≡ 64 → length (ways deep ws cs) ≡ 64
unfolding ways
length-ways [] ws e = e
length-ways (x ∷ []) ws e = e
length-ways (x ∷ y ∷ cs) ws e = length-ways cs (column deep ws x y) (length-column ws x y)

pub length-after : (cs : List Cost) (i : ℕ) → length (after cs i) ≡ 64
unfolding after
length-after cs i = length-ways (take (2 * i) cs) (begin deep (1 + total cs)) (length-begin (1 + total cs))

pub costs-more : (cs : List Cost) (i : ℕ) → 2 * i + 1 < length cs →
    costs_after cs (i + 1) ≡ next_costs (costs_after cs i) (get_or cs (2 * i) nothing) (get_or cs (2 * i + 1) nothing)
unfolding costs_after
costs-more cs i h =
    ap (λ (ws : List Way). map cost_in ws) (after_more cs i h) ∙
    column-costs (after cs i) (get_or cs (2 * i) nothing) (get_or cs (2 * i + 1) nothing) (length-after cs i)

pub length-costs : (cs : List Cost) (i : ℕ) → length (costs_after cs i) ≡ 64
unfolding costs_after
length-costs cs i = length-map (after cs i) cost_in ∙ length-after cs i

-- ---- the start and the end
map-replicate : {A : Type 0} (f : A → ℕ) (n : ℕ) (x : A) → map f (replicate n x) ≡ replicate n (f x)
map-replicate f zero x = refl
map-replicate f (suc n) x = ap (λ (u : List ℕ). f x ∷ u) (map-replicate f n x)

-- costs at the start: 0 in state 0, and more than everything in the others
pub costs-first : (cs : List Cost) → costs_after cs 0 ≡ 0 ∷ replicate 63 (1 + total cs)
unfolding costs_after after ways begin
costs-first cs = ap (λ (u : List ℕ). 0 ∷ u) (map-replicate cost_in 63 (start (1 + total cs)))

pub after-all : (cs : List Cost) (m : ℕ) → length cs ≡ 2 * m → after cs m ≡ survivors deep cs
unfolding after survivors
after-all cs m e = ap (λ (u : List Cost). ways deep (begin deep (1 + total cs)) u) (take_all (2 * m) cs (omega arith))

-- ---- no cost grows beyond twice the total
pub branch-within : (x y : Cost) (s b : ℕ) → branch deep x y s b ≤ max x.zero x.one + max y.zero y.one
unfolding branch
branch-within x y s b = let i = one-within x (first_out deep s b) in let j = one-within y (second_out deep s b) in omega (arith, i, j)

column-within : (m : ℕ) (ws : List Way) (x y : Cost) → ((k : ℕ) → k < 64 → (at ws k).cost ≤ m) →
    (k : ℕ) → k < 64 → (at (column deep ws x y) k).cost ≤ m + (max x.zero x.one + max y.zero y.one)
column-within m ws x y below k h =
    let c = chosen ws x y k h in
    let e = ap cost_in (column-at ws x y k h ∙ c.is) in
    let i = below c.state c.within in
    let j = branch-within x y c.state (k / 32) in
    omega (arith, e, i, j)

ways-within : (cs : List Cost) (m : ℕ) (ws : List Way) → ((k : ℕ) → k < 64 → (at ws k).cost ≤ m) →
    (k : ℕ) → k < 64 → (at (ways deep ws cs) k).cost ≤ m + total cs
unfolding ways total
ways-within [] m ws below k h = let i = below k h in omega (arith, i)
ways-within (x ∷ []) m ws below k h = let i = below k h in omega (arith, i)
ways-within (x ∷ y ∷ cs) m ws below k h =
    let i = ways-within cs (m + (max x.zero x.one + max y.zero y.one)) (column deep ws x y) (column-within m ws x y below) k h in
    omega (arith, i)

take_within : (n : ℕ) (cs : List Cost) → total (take n cs) ≤ total cs
unfolding total
take_within zero cs = omega arith
take_within (suc n) [] = omega arith
take_within (suc n) (c ∷ cs) = let i = take_within n cs in omega (arith, i)

begin-within : (far k : ℕ) → k < 64 → (at (begin deep far) k).cost ≤ far
unfolding begin
begin-within far zero h = omega arith
begin-within far (suc k) h = let e = ap cost_in (get_or-replicate 63 k (start far) (start 0) (omega arith)) in omega (arith, e)

pub costs-within : (cs : List Cost) (i k : ℕ) → k < 64 → get_or (costs_after cs i) k 0 ≤ 1 + 2 * total cs
unfolding costs_after after
costs-within cs i k h =
    let ws = begin deep (1 + total cs) in
    let w = ways-within (take (2 * i) cs) (1 + total cs) ws (begin-within (1 + total cs)) k h in
    let t = take_within (2 * i) cs in
    let e = cost-at (ways deep ws (take (2 * i) cs)) k (length-ways (take (2 * i) cs) ws (length-begin (1 + total cs))) h in
    omega (arith, w, t, e)

-- ---- reading back
-- a decision names the state before, and the bit is the state's newest
pub record Back (cs : List Cost) (n i s : ℕ) : Type 0 where
  pub bit : s / 32 ≡ get_or (best cs ++ zeros 6) i 0
  pub before : (at (after cs i) (2 * (s % 32) + get_or (choices_at cs i) s 0)).bits ≡ reverse (take i (best cs ++ zeros 6))

pub full-length : (n : ℕ) (cs : List Cost) → length cs ≡ 2 * (n + 6) → length (best cs ++ zeros 6) ≡ n + 6
full-length n cs e =
    let f = found n cs e in
    ap (λ (u : List ℕ). length (u ++ zeros 6)) f.is ∙ length-append f.path (zeros 6) ∙ (let l = f.right.long in let z = length-zeros 6 in omega (arith, l, z))

pub back-first : (n : ℕ) (cs : List Cost) → length cs ≡ 2 * (n + 6) → (at (after cs (n + 6)) 0).bits ≡ reverse (take (n + 6) (best cs ++ zeros 6))
back-first n cs e =
    let f = found n cs e in
    ap (λ (ws : List Way). (at ws 0).bits) (after-all cs (n + 6) e) ∙ f.reads ∙ ap (λ (u : List ℕ). reverse (u ++ zeros 6)) (sym f.is) ∙
    ap (λ (u : List ℕ). reverse u) (sym (take_all (n + 6) (best cs ++ zeros 6) (let l = full-length n cs e in omega (arith, l))))

choice-at : (cs : List Cost) (i s : ℕ) → s < 64 → get_or (choices_at cs i) s 0 ≡ choice (map cost_in (after cs i)) (get_or cs (2 * i) nothing) (get_or cs (2 * i + 1) nothing) s
unfolding choices_at choices costs_after
choice-at cs i s h = get_or-map-range_with_len (choice (map cost_in (after cs i)) (get_or cs (2 * i) nothing) (get_or cs (2 * i + 1) nothing)) 0 64 s s 0 h (omega arith)

pub back : (n : ℕ) (cs : List Cost) (i s : ℕ) → length cs ≡ 2 * (n + 6) → i < n + 6 → s < 64 →
    (at (after cs (i + 1)) s).bits ≡ reverse (take (i + 1) (best cs ++ zeros 6)) → Back cs n i s
back n cs i s e h hs was =
    let full = best cs ++ zeros 6 in
    let x = get_or cs (2 * i) nothing in
    let y = get_or cs (2 * i + 1) nothing in
    let l = full-length n cs e in
    let r = read (after cs i) x y s (length-after cs i) hs in
    let a : (at (after cs (i + 1)) s).bits ≡ s / 32 ∷ (at (after cs i) (2 * (s % 32) + get_or (choices_at cs i) s 0)).bits =
    ap (λ (ws : List Way). (at ws s).bits) (after_more cs i (omega (arith, e))) ∙ r.bits ∙
    ap (λ (d : ℕ). s / 32 ∷ (at (after cs i) (2 * (s % 32) + d)).bits) (sym (choice-at cs i s hs)) in
    let b : reverse (take (i + 1) full) ≡ get_or full i 0 ∷ reverse (take i full) =
    ap (λ (u : List ℕ). reverse u) (take_more full i 0 (omega (arith, l))) ∙ reverse-append (take i full) (get_or full i 0 ∷ []) in
    let c : s / 32 ∷ (at (after cs i) (2 * (s % 32) + get_or (choices_at cs i) s 0)).bits ≡ get_or full i 0 ∷ reverse (take i full) = sym a ∙ was ∙ b in
    record { bit = cc; before = cc }

pub choice-bit : (cs : List Cost) (i s : ℕ) → s < 64 → get_or (choices_at cs i) s 0 < 2
unfolding choice
choice-bit cs i s h =
    let os = map cost_in (after cs i) in
    let x = get_or cs (2 * i) nothing in
    let y = get_or cs (2 * i + 1) nothing in
    let e = choice-at cs i s h in
    let c = cond_both (leb (lower os x y s) (higher os x y s)) 0 1 (λ (d : ℕ). d < 2) (λ _. omega arith) (λ _. omega arith) in
    omega (arith, e, c)

-- what is read back is found, and the cost in state 0 is its cost
pub front-is : (n : ℕ) (cs : List Cost) (out : List ℕ) → length cs ≡ 2 * (n + 6) → length out ≡ n → ((k : ℕ) → k < n → get_or out k 0 ≡ get_or (best cs ++ zeros 6) k 0) → out ≡ best cs
front-is n cs out e l each =
    let f = found n cs e in
    let m : length (best cs) ≡ n = ap (λ (u : List ℕ). length u) f.is ∙ f.right.long in
    ext_get_or 0 out (best cs) (l ∙ sym m) (λ k h. each k (omega (arith, l)) ∙ get_or_append_left (best cs) (zeros 6) 0 k (omega (arith, l, m)))

pub end-cost : (n : ℕ) (cs : List Cost) → length cs ≡ 2 * (n + 6) → get_or (costs_after cs (n + 6)) 0 0 ≡ cost_of_all cs (sent (best cs))
unfolding costs_after
end-cost n cs e =
    let f = found n cs e in
    cost-at (after cs (n + 6)) 0 (length-after cs (n + 6)) (omega arith) ∙ ap (λ (ws : List Way). (at ws 0).cost) (after-all cs (n + 6) e) ∙
    f.costs ∙ ap (λ (u : List ℕ). cost_of_all cs (sent u)) (sym f.is)

-- ---- totals
pub hard-total : (r : List ℕ) → T (are_bits r) → total (map hard r) ≡ length r
unfolding total
hard-total [] t = refl
hard-total (x ∷ r) t = let i = hard-total r (rest-bits x r t) in let h = first_bit x r t in omega (arith, i, h)
