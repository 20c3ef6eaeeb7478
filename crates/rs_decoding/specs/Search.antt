-- The search for the error locators: vectors orthogonal to windows of the syndromes, found row by row. Assumes nothing.
use Rattle.std.specs.Prelude.{◌≡◌, ℕ, suc, ◌<◌, ◌≤◌, T, List, [], ◌∷◌, length, drop, Option, Some, None, ◌≢◌, slice_index, slice_index_or}
use Rattle.bits.specs.Lists.{are_bytes}
use Rattle.rs_decoding.specs.Decoding.{dot}
use Rattle.rs_decoding.specs.declared.search.Pivot.{Pivot}

-- the last entry of u that is not zero is a 1 at k
pub record Topped (k : ℕ) (u : List ℕ) : Type 0 where
  pub one : slice_index u k ≡ 1
  pub above : (j : ℕ) → k < j → slice_index u j ≡ 0

-- the pivot of row i, if there is one
abbrev pub pivot_at : List (Option Pivot) → ℕ → Option Pivot
pivot_at pivots i = slice_index_or pivots i None

-- how many rows have a pivot
unfoldable pub pivot_count : List (Option Pivot) → ℕ
pivot_count [] = 0
pivot_count (None ∷ pivots) = pivot_count pivots
pivot_count (Some p ∷ pivots) = suc (pivot_count pivots)

-- a vector with that product, which is not 0, with row i, 0 with the rows before, and nothing from place k on
pub record IsPivot (k i : ℕ) (s : List ℕ) (p : Pivot) : Type 0 where
  pub nonzero : p.head ≢ 0
  pub here : dot p.vector (drop i s) ≡ p.head
  pub before : (q : ℕ) → q < i → dot p.vector (drop q s) ≡ 0
  pub short : (j : ℕ) → k ≤ j → slice_index p.vector j ≡ 0
  pub wide : length p.vector ≡ 17

-- only the first n rows have pivots, and each has nothing from the number of pivots on
pub record Pivots (n : ℕ) (s : List ℕ) (pivots : List (Option Pivot)) : Type 0 where
  pub each : (i : ℕ) (p : Pivot) → pivot_at pivots i ≡ Some p → IsPivot (pivot_count pivots) i s p
  pub none : (i : ℕ) → n ≤ i → pivot_at pivots i ≡ None

-- u was made orthogonal to the rows before r, by means of k pivots
pub record Reduced (r k : ℕ) (s u : List ℕ) : Type 0 where
  pub topped : Topped k u
  pub clear : (q : ℕ) → q < r → dot u (drop q s) ≡ 0
  pub wide : length u ≡ 17
  pub bytes : T (are_bytes u)

-- u was made orthogonal to the rows before i, a row with no pivot and another product d with u: u can be its pivot
pub record FitsRow (n i d : ℕ) (s : List ℕ) (pivots : List (Option Pivot)) (u : List ℕ) : Type 0 where
  pub row : i < n
  pub free : pivot_at pivots i ≡ None
  pub here : dot u (drop i s) ≡ d
  pub nonzero : d ≢ 0
  pub reduced : Reduced i (pivot_count pivots) s u

-- the coefficients of a polynomial of degree k, at most n, orthogonal to all n rows
pub record InKernel (n k : ℕ) (s u : List ℕ) : Type 0 where
  pub within : k ≤ n
  pub top : Topped k u
  pub orthogonal : (i : ℕ) → i < n → dot u (drop i s) ≡ 0
