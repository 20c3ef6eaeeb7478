-- The search for the cheapest way through the trellis: one survivor for each state, column after column. Assumes nothing.
use Rattle.std.specs.Prelude.{ℕ, ◌+◌, ◌-◌, ◌*◌, ◌/◌, ◌%◌, max, cond, List, [], ◌∷◌, map, reverse, drop, replicate, ◌==◌, nat_le, slice_index_or}
use Rattle.std.specs.List.{range_with_len}
use Rattle.conv_theory.specs.declared.Cost.{Cost}
use Rattle.conv_theory.specs.Code.{Shape, deep, first_out, second_out}

-- what it costs to take a coded bit for b
abbrev pub cost_of : Cost → ℕ → ℕ
cost_of c b = cond (b == 0) c.zero c.one

-- what it costs to take the coded bits for those of the list
unfoldable pub cost_of_all : List Cost → List ℕ → ℕ
cost_of_all [] bs = 0
cost_of_all (c ∷ cs) [] = 0
cost_of_all (c ∷ cs) (b ∷ bs) = cost_of c b + cost_of_all cs bs

-- what no bits cost more than
unfoldable pub total : List Cost → ℕ
total [] = 0
total (c ∷ cs) = max c.zero c.one + total cs

-- a way through the trellis: what it costs, and its bits, the latest first
pub record Way : Type 0 where
  pub cost : ℕ
  pub bits : List ℕ

abbrev pub start : ℕ → Way
start c = record { cost = c; bits = [] }

-- ways start in state 0; a start in any other state costs `far`
unfoldable pub begin : Shape → ℕ → List Way
begin k far = start 0 ∷ replicate (2 * k.half - 1) (start far)

-- the branch metric: what it costs to go on from state s by bit b
unfoldable pub branch : Shape → Cost → Cost → ℕ → ℕ → ℕ
branch k x y s b = cost_of x (first_out k s b) + cost_of y (second_out k s b)

-- the survivor of state s, one bit further
abbrev pub along : Shape → List Way → Cost → Cost → ℕ → ℕ → Way
along k ws x y s b =
    let w = slice_index_or ws s (start 0) in
    record { cost = w.cost + branch k x y s b; bits = b ∷ w.bits }

-- of two that cost the same, the one from the lower state
abbrev pub better : Way → Way → Way
better v w = cond (nat_le v.cost w.cost) v w

-- the survivor into state n: two states lead there, by one bit
unfoldable pub into : Shape → List Way → Cost → Cost → ℕ → Way
into k ws x y n =
    let s = 2 * (n % k.half) in
    let b = n / k.half in
    better (along k ws x y s b) (along k ws x y (s + 1) b)

unfoldable pub column : Shape → List Way → Cost → Cost → List Way
column k ws x y = map (into k ws x y) (range_with_len 0 (2 * k.half))

-- two coded bits to a column
unfoldable pub ways : Shape → List Way → List Cost → List Way
ways k ws [] = ws
ways k ws (x ∷ []) = ws
ways k ws (x ∷ y ∷ zs) = ways k (column k ws x y) zs

-- the survivors at the end. A start in another state than 0 costs more than every way from state 0
unfoldable pub survivors : Shape → List Cost → List Way
survivors k cs = ways k (begin k (1 + total cs)) cs

-- the bits of the survivor that ends in state 0, without the zeros that led there
unfoldable pub best_by : Shape → List Cost → List ℕ
best_by k cs = reverse (drop k.memory (slice_index_or (survivors k cs) 0 (start 0)).bits)

abbrev pub best : List Cost → List ℕ
best cs = best_by deep cs

-- a hard bit: what was heard costs nothing, the other bit costs 1
abbrev pub hard : ℕ → Cost
hard x = record { zero = x; one = 1 - x }

-- what is made of hard bits
abbrev pub heard_bits : List ℕ → List ℕ
heard_bits r = best (map hard r)
