-- Slots: the first empty one, when all are there, and what they hold together. Assumes nothing.
use Rattle.std.proofs.Common.{◌≡◌, ℕ, zero, suc, ◌+◌, ◌*◌, ◌<◌, ◌≤◌, Bool, true, false, cond, T, eqb, ltb, ◌⊎◌, List, [], ◌∷◌, ◌++◌, length, get_or, take, drop, sym, refl, ap, ◌∙◌, subst, inl, inr, arith, drop-drop, take-add}
use Rattle.std.proofs.lemmas.Bool.{and_parts, and_from, eqb-true, eq-eqb, ltb-true, lt-ltb, cases_lt, cases_order}
use Rattle.transfer_theory.specs.Parts.{part}
use Rattle.transfer_theory.specs.Receiver.{Slot, Missing, Have, Receiver, missing, empty_of, slot_at, first_missing, first_gap, wanted, complete, joined}

-- tests as facts
pub is_true : (b : Bool) → T b → b ≡ true
is_true true t = refl
is_true false t = absurd t

pub holds : (b : Bool) → b ≡ true → T b
holds true e = tt
holds false e = let z : ◌≡◌ {A = ℕ} 0 1 = cc in let y : ⊥ = omega arith in absurd y

pub length-missing : (n : ℕ) → length (missing n) ≡ n
unfolding missing
length-missing zero = refl
length-missing (suc n) = ap suc (length-missing n)

pub missing_at : (n i : ℕ) → get_or (missing n) i Missing ≡ Missing
unfolding missing
missing_at zero i = refl
missing_at (suc n) zero = refl
missing_at (suc n) (suc i) = missing_at n i

-- ---- the first empty slot
pub record First (n : ℕ) (ss : List Slot) (g : ℕ) : Type 0 where
  pub within : g ≤ n
  pub before : (k : ℕ) → k < g → empty_of (get_or ss k Missing) ≡ false
  pub here : g < n → empty_of (get_or ss g Missing) ≡ true

first-cons-full : (n : ℕ) (s : Slot) (ss : List Slot) (g : ℕ) → empty_of s ≡ false → First n ss g → First (suc n) (s ∷ ss) (suc g)
first-cons-full n s ss g e r =
    record {
      within = let h = r.within in omega arith;
      before = elim [ zero ↦ λ h. e | suc k ↦ λ h. r.before k (omega arith) ];
      here = λ h. r.here (omega arith);
    }

first-from : (i n : ℕ) (ss : List Slot) → (g : ℕ) × (first_missing i n ss ≡ i + g) × First n ss g
unfolding first_missing
first-from i zero ss =
    (0, omega arith, record { within = omega arith; before = λ k h. let z : ⊥ = omega arith in absurd z; here = λ h. let z : ⊥ = omega arith in absurd z })
first-from i (suc n) [] =
    (0, omega arith, record { within = omega arith; before = λ k h. let z : ⊥ = omega arith in absurd z; here = λ h. refl })
first-from i (suc n) (s ∷ ss) = go s (first-from (i + 1) n ss)
  where
    go : (s : Slot) → (g : ℕ) × (first_missing (i + 1) n ss ≡ i + 1 + g) × First n ss g → (g : ℕ) × (cond (empty_of s) i (first_missing (i + 1) n ss) ≡ i + g) × First (suc n) (s ∷ ss) g
    go Missing r =
        (0, omega arith, record { within = omega arith; before = λ k h. let z : ⊥ = omega arith in absurd z; here = λ h. refl })
    go (Have bs) r = (suc r.0, (let e = r.1 in omega arith), first-cons-full n (Have bs) ss r.0 refl r.2)

pub first-gap : (n : ℕ) (ss : List Slot) → First n ss (first_missing 0 n ss)
first-gap n ss =
    let r = first-from 0 n ss in
    let e : r.0 ≡ first_missing 0 n ss = let h = r.1 in omega arith in
    subst (λ (g : ℕ). First n ss g) e r.2

-- ---- complete: it has a length, and all slots up to it are filled
pub record Full (v : Receiver) : Type 0 where
  pub sized : 0 < v.size
  pub all : (k : ℕ) → k < wanted v → empty_of (slot_at v k) ≡ false

pub complete-full : (v : Receiver) → T (complete v) → Full v
complete-full v t =
    let b = and_parts (ltb 0 v.size) (eqb (first_gap v) (wanted v)) (is_true (complete v) t) in
    let e : first_gap v ≡ wanted v = eqb-true (first_gap v) (wanted v) b.1 in
    record {
      sized = ltb-true 0 v.size b.0;
      all = λ k h. (first-gap (wanted v) v.slots).before k (subst (λ (g : ℕ). k < g) (sym e) h);
    }

clash : (b : Bool) → b ≡ true → b ≡ false → ⊥
clash b x y = let z : ◌≡◌ {A = ℕ} 0 1 = ap (λ (t : Bool). cond t 0 1) (sym x ∙ y) in omega arith

pub full-complete : (v : Receiver) → Full v → complete v ≡ true
full-complete v r =
    let g = first-gap (wanted v) v.slots in
    and_from (ltb 0 v.size) (eqb (first_gap v) (wanted v)) (lt-ltb 0 v.size r.sized) (eq-eqb (first_gap v) (wanted v) (go g))
  where
    go : First (wanted v) v.slots (first_gap v) → first_gap v ≡ wanted v
    go g =
        elim (cases_lt (first_gap v) (wanted v)) [ inl h ↦ absurd (clash (empty_of (slot_at v (first_gap v))) (g.here h) (r.all (first_gap v) h)) | inr h ↦ let w = g.within in omega arith ]

-- ---- what filled slots hold together is the file
no_slot : (bs : List ℕ) → Missing ≡ Have bs → ⊥
no_slot bs e = let z : ◌≡◌ {A = ℕ} 0 1 = cc in omega arith

pub joined_is :
    (f : List ℕ) (n i : ℕ) (ss : List Slot) → ((k : ℕ) → k < n → get_or ss k Missing ≡ Have (part f (i + k))) →
    joined n ss ≡ take (214 * n) (drop (214 * i) f)
unfolding joined
joined_is f zero i ss h = refl
joined_is f (suc n) i [] h = absurd (no_slot (part f (i + 0)) (h 0 (omega arith)))
joined_is f (suc n) i (Missing ∷ ss) h = absurd (no_slot (part f (i + 0)) (h 0 (omega arith)))
joined_is f (suc n) i (Have bs ∷ ss) h =
    let e : Have bs ≡ Have (part f (i + 0)) = h 0 (omega arith) in
    let z : i + 0 ≡ i = omega arith in
    let b : bs ≡ part f (i + 0) = cc in
    let m : 214 * suc n ≡ 214 + 214 * n = omega arith in
    let d : 214 * (i + 1) ≡ 214 * i + 214 = omega arith in
    let r : joined n ss ≡ take (214 * n) (drop (214 * (i + 1)) f) = joined_is f n (i + 1) ss (λ k l. next k l) in
    ap (λ (x : List ℕ). x ++ joined n ss) (b ∙ ap (λ (j : ℕ). part f j) z) ∙ ap (λ (x : List ℕ). part f i ++ x) r ∙
    ap (λ (j : ℕ). part f i ++ take (214 * n) (drop j f)) d ∙ ap (λ (x : List ℕ). part f i ++ take (214 * n) x) (sym (drop-drop 214 (214 * i) f)) ∙
    sym (take-add 214 (214 * n) (drop (214 * i) f)) ∙ ap (λ (j : ℕ). take j (drop (214 * i) f)) (sym m)
  where
    next : (k : ℕ) → k < n → get_or ss k Missing ≡ Have (part f (i + 1 + k))
    next k l = let q : i + suc k ≡ i + 1 + k = omega arith in h (suc k) (omega arith) ∙ ap (λ (j : ℕ). Have (part f j)) q

-- there is only one first
pub first-unique : (n : ℕ) (ss : List Slot) (g h : ℕ) → First n ss g → First n ss h → g ≡ h
first-unique n ss g h a b = go (cases_order g h)
  where
    go : (g ≡ h) ⊎ ((g < h) ⊎ (h < g)) → g ≡ h
    go (inl e) = e
    go (inr (inl l)) = absurd (clash (empty_of (get_or ss g Missing)) (a.here (let w = b.within in omega arith)) (b.before g l))
    go (inr (inr l)) = absurd (clash (empty_of (get_or ss h Missing)) (b.here (let w = a.within in omega arith)) (a.before h l))
