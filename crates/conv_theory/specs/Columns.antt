-- The search by numbers alone, as code keeps it: for each column a cost and a decision of each state. For the code of 64 states. Assumes nothing.
use Rattle.std.specs.Prelude.{◌≡◌, ℕ, ◌+◌, ◌*◌, ◌/◌, ◌%◌, ◌<◌, cond, List, [], map, take, nat_le, slice_index, slice_index_or}
use Rattle.std.specs.List.{range_with_len}
use Rattle.conv_theory.specs.declared.Cost.{Cost}
use Rattle.conv_theory.specs.Code.{deep}
use Rattle.conv_theory.specs.Search.{Way, branch, begin, ways, total}

-- what a way into state n costs, from the lower and from the higher of the two states before it
abbrev pub lower : List ℕ → Cost → Cost → ℕ → ℕ
lower os x y n = slice_index os (2 * (n % 32)) + branch deep x y (2 * (n % 32)) (n / 32)

abbrev pub higher : List ℕ → Cost → Cost → ℕ → ℕ
higher os x y n = slice_index os (2 * (n % 32) + 1) + branch deep x y (2 * (n % 32) + 1) (n / 32)

unfoldable pub cheaper : List ℕ → Cost → Cost → ℕ → ℕ
cheaper os x y n = cond (nat_le (lower os x y n) (higher os x y n)) (lower os x y n) (higher os x y n)

-- 0 for the lower state, 1 for the higher
unfoldable pub choice : List ℕ → Cost → Cost → ℕ → ℕ
choice os x y n = cond (nat_le (lower os x y n) (higher os x y n)) 0 1

-- one column further: the costs of all states, and all decisions
unfoldable pub next_costs : List ℕ → Cost → Cost → List ℕ
next_costs os x y = map (cheaper os x y) (range_with_len 0 64)

unfoldable pub choices : List ℕ → Cost → Cost → List ℕ
choices os x y = map (choice os x y) (range_with_len 0 64)

-- the survivors after i columns, and their costs
unfoldable pub after : List Cost → ℕ → List Way
after cs i = ways deep (begin deep (1 + total cs)) (take (2 * i) cs)

abbrev pub cost_in : Way → ℕ
cost_in w = w.cost

unfoldable pub costs_after : List Cost → ℕ → List ℕ
costs_after cs i = map cost_in (after cs i)

abbrev pub nothing : Cost
nothing = record { zero = 0; one = 0 }

-- the decisions of column i
unfoldable pub choices_at : List Cost → ℕ → List ℕ
choices_at cs i = choices (costs_after cs i) (slice_index_or cs (2 * i) nothing) (slice_index_or cs (2 * i + 1) nothing)

-- the first m columns of decisions are the search's
abbrev pub Decided : List Cost → ℕ → List (List ℕ) → Type 0
Decided cs m ds = (j : ℕ) → j < m → slice_index_or ds j [] ≡ choices_at cs j
