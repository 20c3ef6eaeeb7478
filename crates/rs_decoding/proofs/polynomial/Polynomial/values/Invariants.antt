-- What was taken in so far is the end of the list of coefficients, and the values are those of a polynomial with that end alone. Assumes nothing.
use Rattle.std.proofs.Common.{◌≡◌, ℕ, ◌<◌, List, ◌++◌, length, get_or}
use Rattle.rs_theory.proofs.Value.{locators}
use Rattle.rs_decoding.specs.Decoding.{evaluate}
use Rattle.rs_decoding.proofs.polynomial.Polynomial.values.Given as goal

abbrev pub invariant-loop-a : goal.invariant-loop-a
invariant-loop-a l =
    (length l.values ≡ 255)
    × ((taken : List ℕ) × (l.self.coefficients ≡ l.a-iterator.iter.rest.now ++ taken) × ((p : ℕ) → p < 255 → get_or l.values p 0 ≡ evaluate taken (get_or (locators 255) p 0)))
