-- Laws of hearing: twice is once, the order is nothing, what a receiver holds of the payloads that it heard, and what does not matter. Assumes nothing.
use Rattle.std.specs.Prelude.{◌≡◌, ℕ, ◌<◌, ◌≤◌, cond, T, ◌⊎◌, List, [], ◌∷◌}
use Rattle.bits.specs.Heard.{Heard, Got}
use Rattle.transfer_theory.specs.Payload.{kind_of, file_of, number_of, body_of, length_of}
use Rattle.transfer_theory.specs.Sender.{Sender, told}
use Rattle.transfer_theory.specs.Parts.{IsFile, part, parts, part_payload, end_payload}
use Rattle.transfer_theory.specs.Receiver.{Receiver, Missing, Have, new_receiver, slot_at, hears, complete, handed}
use Rattle.transfer_theory.specs.World.{is_in}
use Rattle.transfer_theory.specs.Invariant.{Sent}

-- one payload after the other
unfoldable pub hears_all : List (List ℕ) → Receiver → Receiver
hears_all [] v = v
hears_all (p ∷ ps) v = hears_all ps (hears (Got p) v)

-- each is a part or the end of the file
abbrev pub AllSent : ℕ → List ℕ → List (List ℕ) → Type 0
AllSent n f ps = (p : List ℕ) → T (is_in p ps) → Sent n f p

-- any payload heard twice in a row is heard once
abbrev pub TwiceIsOnce : Type 0
TwiceIsOnce = (p : List ℕ) (v : Receiver) → hears (Got p) (hears (Got p) v) ≡ hears (Got p) v

-- new receivers that heard the same payloads of one file, in any order and number, are equal
abbrev pub OrderIsNothing : Type 0
OrderIsNothing =
    (n : ℕ) (f : List ℕ) → IsFile f → (ps qs : List (List ℕ)) → AllSent n f ps → AllSent n f qs → ((p : List ℕ) → is_in p ps ≡ is_in p qs) →
    hears_all ps (new_receiver n) ≡ hears_all qs (new_receiver n)

-- slot i holds part i of the file, if that was heard, and else nothing
abbrev pub SlotHolds : Type 0
SlotHolds =
    (n : ℕ) (f : List ℕ) → IsFile f → (ps : List (List ℕ)) → AllSent n f ps → (i : ℕ) → i < parts f →
    slot_at (hears_all ps (new_receiver n)) i ≡ cond (is_in (part_payload n f i) ps) (Have (part f i)) Missing

-- all parts and the end, in any order: it is complete, and hands over the file
abbrev pub AllIsEnough : Type 0
AllIsEnough =
    (n : ℕ) (f : List ℕ) → IsFile f → (ps : List (List ℕ)) → AllSent n f ps → T (is_in (end_payload n f) ps) →
    ((i : ℕ) → i < parts f → T (is_in (part_payload n f i) ps)) →
    T (complete (hears_all ps (new_receiver n))) × (handed (hears_all ps (new_receiver n)) ≡ f)

-- complete stays complete, and what is handed over stays
abbrev pub CompleteForGood : Type 0
CompleteForGood =
    (n : ℕ) (f : List ℕ) → IsFile f → (ps qs : List (List ℕ)) → AllSent n f ps → AllSent n f qs → T (complete (hears_all ps (new_receiver n))) →
    T (complete (hears_all qs (hears_all ps (new_receiver n)))) × (handed (hears_all qs (hears_all ps (new_receiver n))) ≡ f)

-- a slot once filled stays as it is, whatever is heard
abbrev pub FilledStays : Type 0
FilledStays = (h : Heard) (v : Receiver) (i : ℕ) (bs : List ℕ) → slot_at v i ≡ Have bs → slot_at (hears h v) i ≡ Have bs

-- the parts of a file fit into the slots
abbrev pub PartsFit : Type 0
PartsFit = (f : List ℕ) → IsFile f → parts f ≤ 1000

-- two payloads that are equal in what is looked at: the number of a part and of an ask, the bytes of a part, the length in an end
pub record Alike (p q : List ℕ) : Type 0 where
  pub kind : kind_of p ≡ kind_of q
  pub file : file_of p ≡ file_of q
  pub number : (kind_of p ≡ 1) ⊎ (kind_of p ≡ 3) → number_of p ≡ number_of q
  pub body : kind_of p ≡ 1 → body_of p ≡ body_of q
  pub size : kind_of p ≡ 2 → length_of p ≡ length_of q

-- both sides hear them alike: what is not looked at does not matter
abbrev pub OnlyLooked : Type 0
OnlyLooked =
    (p q : List ℕ) → Alike p q → ((s : Sender) → told (Got p) s ≡ told (Got q) s) × ((v : Receiver) → hears (Got p) v ≡ hears (Got q) v)

pub record HearingLaws : Type 0 where
  pub twice : TwiceIsOnce
  pub order : OrderIsNothing
  pub slots : SlotHolds
  pub enough : AllIsEnough
  pub stays : CompleteForGood
  pub kept : FilledStays
  pub fit : PartsFit
  pub looked : OnlyLooked
