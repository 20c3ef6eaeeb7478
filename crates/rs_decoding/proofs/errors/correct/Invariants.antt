use Rattle.std.proofs.Common.{◌≡◌, ◌++◌, length, take, drop}
use Rattle.rs_theory.specs.Code.{locators}
use Rattle.rs_decoding.specs.Decoding.{corrected}
use Rattle.rs_decoding.proofs.errors.correct.Given as goal

abbrev pub invariant-loop-p : goal.invariant-loop-p
invariant-loop-p l =
    (length l.word ≡ 255)
    × (take l.p l.word ++ corrected (drop l.p l.values) l.roots.items l.s (drop l.p l.word) (drop l.p (locators 255))
    ≡ corrected l.values l.roots.items l.s l.initial.word (locators 255))
