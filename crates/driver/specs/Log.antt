-- The log of a line, round by round, and what it says: how both sides come out of it, whether anything false was heard, when the station was first complete. Assumes nothing.
use Rattle.std.specs.Prelude.{◌≡◌, ℕ, suc, Bool, true, false, cond, not, ◌&&◌, Option, None, Some, List, [], ◌∷◌, length, nat_lt}
use Rattle.std.specs.Bool.{then_some}
use Rattle.bits.specs.Heard.{Heard, Lost, Got}
use Rattle.transfer_theory.specs.Sender.{Sender, says, after_saying, told}
use Rattle.transfer_theory.specs.Receiver.{Receiver, hears, answers, complete}
use Rattle.transfer_theory.specs.World.{World, fair}

-- one round: the payload that the ship said, what the station heard, what it answered or nothing, what the ship heard
pub record Exchange : Type 0 where
  pub forth : List ℕ
  pub below : Heard
  pub back : Heard
  pub above : Heard

-- ---- a log is a list of rounds, the latest first; the line kept it from the state l to another
-- F, B: what the line may make of a payload on its way forth, and of an answer or nothing on its way back, from one of its states to the next
pub data Carried {L : Type 0} (F B : L → Heard → Heard → L → Type 0) (l : L) : List Exchange → L → Type 0 where
  silent : Carried F B l [] l
  round :
      {log : List Exchange} {m k o : L} → Carried F B l log m → (x : Exchange) → F m (Got x.forth) x.below k → B k x.back x.above o →
      Carried F B l (x ∷ log) o

-- ---- both sides after the rounds of a log
unfoldable pub sender_by : Sender → List Exchange → Sender
sender_by s [] = s
sender_by s (x ∷ log) = told x.above (after_saying (sender_by s log))

unfoldable pub receiver_by : Receiver → List Exchange → Receiver
receiver_by v [] = v
receiver_by v (x ∷ log) = hears x.below (receiver_by v log)

-- what the station says: its answer, or nothing while it has no length
abbrev pub replies : Receiver → Heard
replies v = cond (nat_lt 0 v.size) (Got (answers v)) Lost

-- what the log has as said is what both sides say
unfoldable pub Spoken : Sender → Receiver → List Exchange → Type 0
Spoken s v [] = Unit {0}
Spoken s v (x ∷ log) = (x.forth ≡ says (sender_by s log)) × (x.back ≡ replies (receiver_by v (x ∷ log))) × Spoken s v log

-- whether one round more is played after so many: the budget is not spent, and the ship is not done
abbrev pub ongoing : ℕ → ℕ → Sender → Bool
ongoing rounds budget s = nat_lt rounds budget && not s.done

-- no round was begun once the ship was done
unfoldable pub Ongoing : Sender → List Exchange → Type 0
Ongoing s [] = Unit {0}
Ongoing s (x ∷ log) = ((sender_by s log).done ≡ false) × Ongoing s log

-- ---- all that was said each way, the latest first, in front of what had been said before
unfoldable pub said_down : List (List ℕ) → List Exchange → List (List ℕ)
said_down ps [] = ps
said_down ps (x ∷ log) = x.forth ∷ said_down ps log

abbrev pub with_answer : Heard → List (List ℕ) → List (List ℕ)
with_answer Lost ps = ps
with_answer (Got p) ps = p ∷ ps

unfoldable pub said_up : List (List ℕ) → List Exchange → List (List ℕ)
said_up ps [] = ps
said_up ps (x ∷ log) = with_answer x.back (said_up ps log)

-- the mark: whether all that was heard had been sent that way before, or is of another file's number than n
unfoldable pub clean : ℕ → List (List ℕ) → List (List ℕ) → List Exchange → Bool
clean n ds us [] = true
clean n ds us (x ∷ log) =
    clean n ds us log && (fair n x.below (said_down ds (x ∷ log)) && fair n x.above (said_up us (x ∷ log)))

-- the world that a log leads to
abbrev pub world_by : World → List Exchange → World
world_by w log =
    record { sender = sender_by w.sender log; receiver = receiver_by w.receiver log; down = said_down w.down log; up = said_up w.up log }

-- ---- the first round, counted from 1, after which the station was complete, or none; `noted`: after one round more, which was the k-th
abbrev pub noted : Option ℕ → ℕ → Bool → Option ℕ
noted None k b = then_some b k
noted (Some j) k b = Some j

unfoldable pub first_complete : Receiver → List Exchange → Option ℕ
first_complete v [] = None
first_complete v (x ∷ log) = noted (first_complete v log) (suc (length log)) (complete (receiver_by v (x ∷ log)))

-- ---- a round that came through: what was said was heard, both ways, nothing said as nothing
abbrev pub Through : Exchange → Type 0
Through x = (x.below ≡ Got x.forth) × (x.above ≡ x.back)

unfoldable pub AllThrough : List Exchange → Type 0
AllThrough [] = Unit {0}
AllThrough (x ∷ log) = Through x × AllThrough log
