-- The receiver's half of the invariant: it speaks of what was sent only. Assumes nothing.
use Rattle.std.proofs.Common.{◌≡◌, ℕ, ◌+◌, ◌-◌, ◌*◌, ◌/◌, ◌<◌, ◌≤◌, Bool, true, false, cond, T, ◌⊎◌, List, length, get_or, take, drop, sym, refl, ap, ◌∙◌, subst, inl, inr, arith, length-set, length-take, take_all, get_or-set_other, get_or-set_same}
use Rattle.std.proofs.lemmas.Bool.{cases_eq, cases_Bool}
use Rattle.bits.specs.Heard.{Heard, Lost, Got}
use Rattle.transfer_theory.specs.Payload.{file_of, body_of, length_of}
use Rattle.transfer_theory.specs.Parts.{part, parts, length4, part_payload, end_payload}
use Rattle.transfer_theory.specs.Receiver.{Slot, Missing, Have, Receiver, new_receiver, filled_slot, with_length, empty_of, slot_at, hears, wanted, complete, joined, handed}
use Rattle.transfer_theory.specs.Invariant.{PartRight, Received, AllThere, Sent}
use Rattle.transfer_theory.proofs.Payloads.{payload-reads, length-reads}
use Rattle.transfer_theory.proofs.Hearing.{hears-part, hears-full, hears-end, hears-foreign}
use Rattle.transfer_theory.proofs.Slots.{length-missing, missing_at, complete-full, full-complete, joined_is}

pub part-short : (f : List ℕ) (i : ℕ) → length (part f i) ≤ 214
part-short f i = omega (arith, length-take 214 (drop (214 * i) f))

pub parts-few : (f : List ℕ) → length f ≤ 214000 → parts f ≤ 1000
parts-few f h = omega arith

-- ---- what hearing a part and the end of the file does
pub hears-file-part :
    (n : ℕ) (f : List ℕ) (v : Receiver) (i : ℕ) → v.file ≡ n → i < 1000 → empty_of (slot_at v i) ≡ true →
    hears (Got (part_payload n f i)) v ≡ filled_slot i (part f i) v
hears-file-part n f v i e h o =
    let r = payload-reads 1 n i (part f i) (part-short f i) in
    hears-part (part_payload n f i) v r.kind-is (r.file-is ∙ sym e) (subst (λ (j : ℕ). j < 1000) (sym r.number_is) h)
    (ap (λ (j : ℕ). empty_of (slot_at v j)) r.number_is ∙ o) ∙
    ap (λ (j : ℕ). filled_slot j (body_of (part_payload n f i)) v) r.number_is ∙ ap (λ (bs : List ℕ). filled_slot i bs v) r.body_is

pub hears-file-again :
    (n : ℕ) (f : List ℕ) (v : Receiver) (i : ℕ) → empty_of (slot_at v i) ≡ false → hears (Got (part_payload n f i)) v ≡ v
hears-file-again n f v i o =
    let r = payload-reads 1 n i (part f i) (part-short f i) in
    hears-full (part_payload n f i) v r.kind-is (ap (λ (j : ℕ). empty_of (slot_at v j)) r.number_is ∙ o)

pub hears-file-end :
    (n : ℕ) (f : List ℕ) (v : Receiver) → v.file ≡ n → length f ≤ 214000 → hears (Got (end_payload n f)) v ≡ with_length (length f) v
hears-file-end n f v e h =
    let r = payload-reads 2 n (parts f) (length4 (length f)) (omega arith) in
    let m : length_of (end_payload n f) ≡ length f = length-reads 2 n (parts f) (length f) (omega arith) in
    hears-end (end_payload n f) v r.kind-is (r.file-is ∙ sym e) (omega arith) ∙ ap (λ (j : ℕ). with_length j v) m

-- ---- the invariant
pub received-new : (n : ℕ) (f : List ℕ) → Received n f (new_receiver n)
received-new n f =
    record {
      file = refl;
      long = length-missing 1000;
      right = λ i h. subst (λ (s : Slot). PartRight f i s) (sym (missing_at 1000 i)) tt;
      size = inl refl;
    }

slot-here : (v : Receiver) (i : ℕ) (bs : List ℕ) → i < length v.slots → slot_at (filled_slot i bs v) i ≡ Have bs
slot-here v i bs h = get_or-set_same v.slots i (Have bs) Missing h

slot-other : (v : Receiver) (i k : ℕ) (bs : List ℕ) → (k ≡ i → ⊥) → slot_at (filled_slot i bs v) k ≡ slot_at v k
slot-other v i k bs h = get_or-set_other v.slots i k (Have bs) Missing h

pub received-filled : (n : ℕ) (f : List ℕ) (v : Receiver) (i : ℕ) → i < 1000 → Received n f v → Received n f (filled_slot i (part f i) v)
received-filled n f v i h r =
    record {
      file = r.file;
      long = length-set v.slots i (Have (part f i)) ∙ r.long;
      right = λ k l. go k l (cases_eq k i);
      size = r.size;
    }
  where
    inside : i < length v.slots
    inside = let e = r.long in omega arith

    go : (k : ℕ) → k < 1000 → (k ≡ i) ⊎ (k ≡ i → ⊥) → PartRight f k (slot_at (filled_slot i (part f i) v) k)
    go k l (inl e) = subst (λ (j : ℕ). PartRight f j (slot_at (filled_slot i (part f i) v) j)) (sym e) (subst (λ (s : Slot). PartRight f i s) (sym (slot-here v i (part f i) inside)) refl)
    go k l (inr e) = subst (λ (s : Slot). PartRight f k s) (sym (slot-other v i k (part f i) e)) (r.right k l)

pub received-length : (n : ℕ) (f : List ℕ) (v : Receiver) → Received n f v → Received n f (with_length (length f) v)
received-length n f v r = record { file = r.file; long = r.long; right = r.right; size = inr refl }

-- what a part that comes changes
pub record Brought (i : ℕ) (v u : Receiver) : Type 0 where
  pub size : u.size ≡ v.size
  pub there : empty_of (slot_at u i) ≡ false
  pub others : (k : ℕ) → (k ≡ i → ⊥) → slot_at u k ≡ slot_at v k

pub record Came (n : ℕ) (f : List ℕ) (i : ℕ) (v u : Receiver) : Type 0 where
  pub received : Received n f u
  pub brought : Brought i v u

pub part-comes :
    (n : ℕ) (f : List ℕ) (v : Receiver) (i : ℕ) → length f ≤ 214000 → i < parts f → Received n f v → Came n f i v (hears (Got (part_payload n f i)) v)
part-comes n f v i b h r = go (cases_Bool (empty_of (slot_at v i)))
  where
    few : i < 1000
    few = omega (arith, parts-few f b)

    inside : i < length v.slots
    inside = let e = r.long in omega (arith, few)

    go : (empty_of (slot_at v i) ≡ true) ⊎ (empty_of (slot_at v i) ≡ false) → Came n f i v (hears (Got (part_payload n f i)) v)
    go (inl o) =
        subst (λ (u : Receiver). Came n f i v u) (sym (hears-file-part n f v i r.file few o))
        (record {
          received = received-filled n f v i few r;
          brought = record { size = refl; there = ap empty_of (slot-here v i (part f i) inside); others = λ k e. slot-other v i k (part f i) e };
        })
    go (inr o) =
        subst (λ (u : Receiver). Came n f i v u) (sym (hears-file-again n f v i o))
        (record { received = r; brought = record { size = refl; there = o; others = λ k e. refl } })

-- a slot that was filled stays so
pub brought-stays : (i : ℕ) (v u : Receiver) → Brought i v u → (k : ℕ) → empty_of (slot_at v k) ≡ false → empty_of (slot_at u k) ≡ false
brought-stays i v u b k o =
    elim (cases_eq k i) [ inl e ↦ ap (λ (j : ℕ). empty_of (slot_at u j)) e ∙ b.there | inr e ↦ ap empty_of (b.others k e) ∙ o ]

-- what is heard: nothing, something of S, or a payload of another file
pub data Honest (S : List ℕ → Type 0) (n : ℕ) : Heard → Type 0 where
  silent : Honest S n Lost
  sent : (p : List ℕ) → S p → Honest S n (Got p)
  other : (p : List ℕ) → (file_of p ≡ n → ⊥) → Honest S n (Got p)

pub record Kept (n : ℕ) (f : List ℕ) (v u : Receiver) : Type 0 where
  pub received : Received n f u
  pub stays : AllThere f v → AllThere f u

same : (n : ℕ) (f : List ℕ) (v u : Receiver) → u ≡ v → Received n f v → Kept n f v u
same n f v u e r = subst (λ (x : Receiver). Kept n f v x) (sym e) (record { received = r; stays = λ a. a })

pub hears-sent : (n : ℕ) (f : List ℕ) (v : Receiver) (p : List ℕ) → length f ≤ 214000 → Received n f v → Sent n f p → Kept n f v (hears (Got p) v)
hears-sent n f v p b r (inl (i, h, e)) = subst (λ (q : List ℕ). Kept n f v (hears (Got q) v)) (sym e) (go (part-comes n f v i b h r))
  where
    go : Came n f i v (hears (Got (part_payload n f i)) v) → Kept n f v (hears (Got (part_payload n f i)) v)
    go c =
        record {
          received = c.received;
          stays = λ a. record { size = c.brought.size ∙ a.size; full = λ k l. brought-stays i v (hears (Got (part_payload n f i)) v) c.brought k (a.full k l) };
        }
hears-sent n f v p b r (inr e) =
    subst (λ (q : List ℕ). Kept n f v (hears (Got q) v)) (sym e)
    (subst (λ (u : Receiver). Kept n f v u) (sym (hears-file-end n f v r.file b))
    (record { received = received-length n f v r; stays = λ a. record { size = refl; full = a.full } }))

-- whatever is heard, as long as it is nothing false
pub hears-keeps : (n : ℕ) (f : List ℕ) (v : Receiver) {h : Heard} → length f ≤ 214000 → Received n f v → Honest (Sent n f) n h → Kept n f v (hears h v)
unfolding hears
hears-keeps n f v b r silent = record { received = r; stays = λ a. a }
hears-keeps n f v b r (sent p s) = hears-sent n f v p b r s
hears-keeps n f v b r (other p o) = same n f v (hears (Got p) v) (hears-foreign p v (λ e. o (e ∙ r.file))) r

-- ---- complete is to have all, and what it then hands over is the file
pub wanted-is : (f : List ℕ) (v : Receiver) → v.size ≡ length f + 1 → wanted v ≡ parts f
wanted-is f v e = let q : ((length f + 1 - 1) + 213) / 214 ≡ (length f + 213) / 214 = omega arith in ap (λ (m : ℕ). ((m - 1) + 213) / 214) e ∙ q

pub sized : (n : ℕ) (f : List ℕ) (v : Receiver) → Received n f v → 0 < v.size → v.size ≡ length f + 1
sized n f v r h = elim r.size [ inl e ↦ let z : ⊥ = omega arith in absurd z | inr e ↦ e ]

pub complete-all : (n : ℕ) (f : List ℕ) (v : Receiver) → Received n f v → T (complete v) → AllThere f v
complete-all n f v r t =
    let u = complete-full v t in
    let e = sized n f v r u.sized in
    record { size = e; full = λ i h. u.all i (subst (λ (m : ℕ). i < m) (sym (wanted-is f v e)) h) }

pub all-complete : (f : List ℕ) (v : Receiver) → AllThere f v → complete v ≡ true
all-complete f v a =
    let e = a.size in
    full-complete v (record { sized = omega arith; all = λ k h. a.full k (subst (λ (m : ℕ). k < m) (wanted-is f v e) h) })

slot_is : (f : List ℕ) (k : ℕ) (s : Slot) → PartRight f k s → empty_of s ≡ false → s ≡ Have (part f k)
slot_is f k Missing r e = let z : ◌≡◌ {A = ℕ} 0 1 = ap (λ (t : Bool). cond t 0 1) e in let y : ⊥ = omega arith in absurd y
slot_is f k (Have bs) r e = ap Have r

pub all-handed : (n : ℕ) (f : List ℕ) (v : Receiver) → length f ≤ 214000 → Received n f v → AllThere f v → handed v ≡ f
all-handed n f v b r a =
    let w : wanted v ≡ parts f = wanted-is f v a.size in
    let q : v.size - 1 ≡ length f = let e = a.size in omega arith in
    ap (λ (m : ℕ). take m (joined (wanted v) v.slots)) q ∙ ap (λ (m : ℕ). take (length f) (joined m v.slots)) w ∙
    ap (λ (xs : List ℕ). take (length f) xs) (joined_is f (parts f) 0 v.slots there) ∙
    ap (λ (xs : List ℕ). take (length f) xs) (take_all (214 * parts f) f (omega arith)) ∙ take_all (length f) f (omega arith)
  where
    there : (k : ℕ) → k < parts f → get_or v.slots k Missing ≡ Have (part f (0 + k))
    there k h =
        let z : k ≡ 0 + k = omega arith in
        slot_is f k (slot_at v k) (r.right k (omega (arith, parts-few f b))) (a.full k h) ∙ ap (λ (j : ℕ). Have (part f j)) z
