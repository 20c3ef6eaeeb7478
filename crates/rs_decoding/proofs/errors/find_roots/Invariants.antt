use Rattle.std.proofs.Common.{◌≡◌, ◌++◌, drop}
use Rattle.rs_theory.specs.Code.{locators}
use Rattle.rs_decoding.specs.Decoding.{roots_of}
use Rattle.rs_decoding.proofs.errors.find_roots.Given as goal

abbrev pub invariant-loop-p : goal.invariant-loop-p
invariant-loop-p l = l.roots.items ++ roots_of (drop l.p l.values) (drop l.p (locators 255)) ≡ roots_of l.values (locators 255)
