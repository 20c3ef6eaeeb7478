-- Laws of rehearsals: they can be repeated, and enough good rounds end them. Assumes nothing.
use Rattle.std.specs.Prelude.{◌≡◌, ℕ, ◌+◌, ◌<◌, ◌≤◌, T, List, [], ◌∷◌, ◌++◌, length, Some}
use Rattle.bits.specs.Distance.{distance}
use Rattle.bits.specs.Heard.{Heard, Lost, Got}
use Rattle.frame_theory.specs.Frame.{frame}
use Rattle.text.specs.Noise.{arriving}
use Rattle.transfer_theory.specs.Parts.{IsFile, parts}
use Rattle.transfer_theory.specs.Receiver.{complete, handed}
use Rattle.driver.specs.Log.{Exchange, clean}
use Rattle.rehearsal.specs.declared.noisy.Noisy.{Noisy}
use Rattle.rehearsal.specs.Noisy.{new_line, line_by}
use Rattle.rehearsal.specs.Rehearsed.{Table, Rehearsed}

-- the file, the seed, P and the count of rounds decide everything
abbrev pub Repeatable : Type 0
Repeatable =
    (n : ℕ) (f : List ℕ) (seed p : ℕ) (w u : Table) → Rehearsed n f seed p w → Rehearsed n f seed p u → w.rounds ≡ u.rounds → w ≡ u

-- what was said arrives with at most four bits wrong, where the noise is in the state s; nothing said has nothing to lose
abbrev pub Fine : ℕ → ℕ → Heard → Type 0
Fine p s Lost = Unit {0}
Fine p s (Got q) = (there : List ℕ) × (arriving p s (frame q) ≡ Some there) × (distance (frame q) there ≤ 4)

-- rounds behind an earlier log in which that is so both ways
unfoldable pub FineRounds : Noisy → List Exchange → List Exchange → Type 0
FineRounds l [] earlier = Unit {0}
FineRounds l (x ∷ log) earlier =
    Fine (line_by l (log ++ earlier)).p (line_by l (log ++ earlier)).forth.state (Got x.forth) ×
    Fine (line_by l (log ++ earlier)).p (line_by l (log ++ earlier)).back.state x.back × FineRounds l log earlier

-- parts + 1 such rounds in a row, wherever in a log in which nothing false was heard: the file is handed over and the ship is done
abbrev pub EndsInTime : Type 0
EndsInTime =
    (n : ℕ) (f : List ℕ) (seed p : ℕ) (w : Table) (r : Rehearsed n f seed p w) → n < 256 → IsFile f → T (clean n [] [] r.log) →
    (later middle earlier : List Exchange) → r.log ≡ later ++ (middle ++ earlier) → FineRounds (new_line seed p) middle earlier →
    parts f + 1 ≤ length middle → T (complete w.receiver) × (handed w.receiver ≡ f) × T w.sender.done

-- as long as nothing false was heard, what is handed over is the file, and the ship is done only then
abbrev pub HandsOver : Type 0
HandsOver =
    (n : ℕ) (f : List ℕ) (seed p : ℕ) (w : Table) (r : Rehearsed n f seed p w) → n < 256 → IsFile f → T (clean n [] [] r.log) →
    (T (complete w.receiver) → handed w.receiver ≡ f) × (T w.sender.done → T (complete w.receiver))

pub record RehearsalRight : Type 0 where
  pub repeatable : Repeatable
  pub hands_over : HandsOver
  pub ends : EndsInTime
