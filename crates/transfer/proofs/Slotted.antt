-- Memory as slots: what a write of a part and what clearing does to them. Assumes nothing.
use Rattle.std.proofs.Common.{subst, ◌≡◌, ℕ, zero, suc, ◌+◌, ◌*◌, ◌<◌, ◌≤◌, Bool, true, false, cond, ltb, not, ◌&&◌, Option, Some, None, count_by, position, [], ◌⊎◌, List, ◌∷◌, ◌++◌, length, get_or, map, take, drop, set, sym, refl, ap, ◌∙◌, inl, inr, arith, length-set, length-take, length-take-le, get_or-set_other, get_or-set_same, take-take, take_at, drop-set-lt, ext_get_or, drop_at, get_or-take, get_or-drop, drop-drop}
use Rattle.std.proofs.lemmas.Bool.{cases_eq, cases_lt, cases_order, cond-true, cond-false, and_from, and_left, and_right, lt-ltb, le-ltb, ltb-true, ltb-false, cond_both}
use Rattle.std.specs.Simd.{first_chunks}
use Rattle.std.specs.List.{position_or_len}
use Rattle.std.proofs.lemmas.List.Sums.{prefix_len-le-length, count_by-le-length}
use Rattle.std.proofs.lemmas.List.Recursion.{is_count_by}
use Rattle.std.proofs.lemmas.List.{drop-take}
use Rattle.transfer_theory.specs.Receiver.{Slot, Missing, Have, missing, empty_of, first_missing}
use Rattle.transfer.specs.Memory.{slot_of, slot_read, free, slot_in, slots_from, slots_of, overwritten, filled, with_part, IsGap}
use Rattle.transfer.specs.Shapes.{Narrow, Slotted}
use Rattle.transfer.proofs.Places.{stretch-same, length-overwritten, over-before, over-behind}

pub length-slots : (i n : ℕ) (m : List ℕ) → length (slots_from i n m) ≡ n
unfolding slots_from
length-slots i zero m = refl
length-slots i (suc n) m = ap suc (length-slots (i + 1) n m)

slots-from-at : (i n : ℕ) (m : List ℕ) (k : ℕ) → k < n → get_or (slots_from i n m) k Missing ≡ slot_in m (i + k)
unfolding slots_from
slots-from-at i zero m k h = let z : ⊥ = omega arith in absurd z
slots-from-at i (suc n) m zero h = let q : i ≡ i + 0 = omega arith in ap (λ (j : ℕ). slot_in m j) q
slots-from-at i (suc n) m (suc k) h = let q : i + 1 + k ≡ i + suc k = omega arith in slots-from-at (i + 1) n m k (omega arith) ∙ ap (λ (j : ℕ). slot_in m j) q

-- ---- 1,000 slots, in each at most 214 bytes
narrow-slot : (c : ℕ) (xs : List ℕ) → Narrow (slot_of c (take 214 xs))
narrow-slot zero xs = tt
narrow-slot (suc c) xs = let a = length-take c (take 214 xs) in let b = length-take 214 xs in omega arith

narrow-from : (i n : ℕ) (m : List ℕ) (k : ℕ) (d : Slot) → k < n → Narrow (get_or (slots_from i n m) k d)
unfolding slots_from
narrow-from i zero m k d h = let z : ⊥ = omega arith in absurd z
narrow-from i (suc n) m zero d h = narrow-slot (get_or m (215 * i) 0) (drop (215 * i + 1) m)
narrow-from i (suc n) m (suc k) d h = narrow-from (i + 1) n m k d (omega arith)

pub slotted : (m : List ℕ) → Slotted (slots_of m)
slotted m = let l = length-slots 0 1000 m in (l, λ k d h. narrow-from 0 1000 m k d (omega arith))

pub slots_at : (m : List ℕ) (k : ℕ) → k < 1000 → get_or (slots_of m) k Missing ≡ slot_in m k
slots_at m k h = let q : 0 + k ≡ k = omega arith in slots-from-at 0 1000 m k h ∙ ap (λ (j : ℕ). slot_in m j) q

-- ---- empty or not, by the count byte
slot-empty : (c : ℕ) (bs : List ℕ) → c ≡ 0 → slot_of c bs ≡ Missing
slot-empty zero bs e = refl
slot-empty (suc c) bs e = let z : ⊥ = omega arith in absurd z

slot-full : (c : ℕ) (bs : List ℕ) → (c ≡ 0 → ⊥) → empty_of (slot_of c bs) ≡ false
slot-full zero bs o = absurd (o refl)
slot-full (suc c) bs o = refl

pub is-empty : (m : List ℕ) (k : ℕ) → k < 1000 → get_or m (215 * k) 0 ≡ 0 → empty_of (get_or (slots_of m) k Missing) ≡ true
is-empty m k h e = ap empty_of (slots_at m k h ∙ slot-empty (get_or m (215 * k) 0) (take 214 (drop (215 * k + 1) m)) e)

pub is-full : (m : List ℕ) (k : ℕ) → k < 1000 → (get_or m (215 * k) 0 ≡ 0 → ⊥) → empty_of (get_or (slots_of m) k Missing) ≡ false
is-full m k h o = ap empty_of (slots_at m k h) ∙ slot-full (get_or m (215 * k) 0) (take 214 (drop (215 * k + 1) m)) o

-- ---- cleared memory has no part
slots-missing : (i n : ℕ) (m : List ℕ) → ((k : ℕ) → k < i + n → get_or m (215 * k) 0 ≡ 0) → slots_from i n m ≡ missing n
unfolding slots_from missing
slots-missing i zero m h = refl
slots-missing i (suc n) m h =
    ap (λ (s : Slot). s ∷ slots_from (i + 1) n m) (slot-empty (get_or m (215 * i) 0) (take 214 (drop (215 * i + 1) m)) (h i (omega arith))) ∙
    ap (λ (ss : List Slot). Missing ∷ ss) (slots-missing (i + 1) n m (λ k l. h k (omega arith)))

pub cleared : (m : List ℕ) → ((k : ℕ) → k < 1000 → get_or m (215 * k) 0 ≡ 0) → slots_of m ≡ missing 1000
cleared m h = slots-missing 0 1000 m (λ k l. h k (omega arith))

-- ---- the slots, each in its own bytes
read-at : (a : ℕ) (m : List ℕ) → slot_read (take 215 (drop a m)) ≡ slot_of (get_or m a 0) (take 214 (drop (a + 1) m))
read-at a m =
    let q : a + 0 ≡ a = omega arith in
    ap (λ (c : ℕ). slot_of c (drop 1 (take 215 (drop a m)))) (get_or-take 215 (drop a m) 0 0 (omega arith) ∙ get_or-drop a m 0 0 ∙ ap (λ (j : ℕ). get_or m j 0) q) ∙
    ap (λ (xs : List ℕ). slot_of (get_or m a 0) xs) (drop-take 1 214 (drop a m) ∙ ap (λ (xs : List ℕ). take 214 xs) (drop-drop 1 a m))

pub read_from : (i n : ℕ) (m : List ℕ) → map slot_read (first_chunks 215 n (drop (215 * i) m)) ≡ slots_from i n m
unfolding slots_from
read_from i zero m = refl
read_from i (suc n) m =
    let q : 215 * i + 215 ≡ 215 * (i + 1) = omega arith in
    ap (λ (s : Slot). s ∷ map slot_read (first_chunks 215 n (drop 215 (drop (215 * i) m)))) (read-at (215 * i) m) ∙
    ap (λ (ss : List Slot). slot_in m i ∷ ss)
    (ap (λ (xs : List ℕ). map slot_read (first_chunks 215 n xs)) (drop-drop 215 (215 * i) m ∙ ap (λ (j : ℕ). drop j m) q) ∙ read_from (i + 1) n m)

pub read_all : (n : ℕ) (m : List ℕ) → n ≡ 1000 → map slot_read (first_chunks 215 n m) ≡ slots_of m
read_all n m h = ap (λ (k : ℕ). map slot_read (first_chunks 215 k m)) h ∙ read_from 0 1000 m

-- ---- a part written: the body first, the count byte last
filled-slot : (c : ℕ) (bs xs : List ℕ) → c ≡ length bs + 1 → take (length bs) xs ≡ bs → slot_of c xs ≡ Have bs
filled-slot zero bs xs e t = let z : ⊥ = omega arith in absurd z
filled-slot (suc c) bs xs e t = let q : c ≡ length bs = omega arith in ap Have (ap (λ (k : ℕ). take k xs) q ∙ t)

same-slot : (m u : List ℕ) (k : ℕ) → length m ≡ length u → ((j : ℕ) → 215 * k ≤ j → j < 215 * k + 215 → get_or m j 0 ≡ get_or u j 0) → slot_in m k ≡ slot_in u k
same-slot m u k e h =
    ap (λ (c : ℕ). slot_of c (take 214 (drop (215 * k + 1) m))) (h (215 * k) (omega arith) (omega arith)) ∙
    ap (λ (xs : List ℕ). slot_of (get_or u (215 * k) 0) xs) (stretch-same (215 * k + 1) 214 m u e (λ j a b. h j (omega arith) (omega arith)))

body-there :
    (a : ℕ) (bs m : List ℕ) → a ≤ length m → length bs ≤ 214 → take (length bs) (take 214 (drop a (overwritten a bs m))) ≡ bs
body-there a bs m h l =
    ap (λ (xs : List ℕ). take (length bs) (take 214 xs)) (drop_at (take a m) (bs ++ drop (a + length bs) m) a (length-take-le a m h)) ∙
    take-take (length bs) 214 (bs ++ drop (a + length bs) m) l ∙ take_at bs (drop (a + length bs) m) (length bs) refl

pub kept :
    (i : ℕ) (bs m : List ℕ) → i < 1000 → length bs ≤ 214 → length m ≡ 215000 →
    slots_of (set (overwritten (215 * i + 1) bs m) (215 * i) (length bs + 1)) ≡ set (slots_of m) i (Have bs)
kept i bs m h l e = ext_get_or Missing (slots_of u) (set (slots_of m) i (Have bs)) same at
  where
    o : List ℕ
    o = overwritten (215 * i + 1) bs m

    o-long : length o ≡ 215000
    o-long = length-overwritten (215 * i + 1) bs m (omega arith) ∙ e

    u : List ℕ
    u = set o (215 * i) (length bs + 1)

    u-long : length u ≡ 215000
    u-long = length-set o (215 * i) (length bs + 1) ∙ o-long

    same : length (slots_of u) ≡ length (set (slots_of m) i (Have bs))
    same = length-slots 0 1000 u ∙ sym (length-set (slots_of m) i (Have bs) ∙ length-slots 0 1000 m)

    here : slot_in u i ≡ Have bs
    here =
        filled-slot (get_or u (215 * i) 0) bs (take 214 (drop (215 * i + 1) u)) (get_or-set_same o (215 * i) (length bs + 1) 0 (omega (arith, o-long)))
        (ap (λ (xs : List ℕ). take (length bs) (take 214 xs)) (drop-set-lt (215 * i + 1) o (215 * i) (length bs + 1) (omega arith)) ∙
        body-there (215 * i + 1) bs m (omega arith) l)

    far : (k j : ℕ) → (k ≡ i → ⊥) → 215 * k ≤ j → j < 215 * k + 215 → get_or u j 0 ≡ get_or m j 0
    far k j n a b = get_or-set_other o (215 * i) j (length bs + 1) 0 (λ q. n (omega arith)) ∙ beside (cases_lt j (215 * i + 1))
      where
        beside : (j < 215 * i + 1) ⊎ (215 * i + 1 ≤ j) → get_or o j 0 ≡ get_or m j 0
        beside (inl q) = over-before (215 * i + 1) bs m j (omega arith) q
        beside (inr q) = over-behind (215 * i + 1) bs m j (omega arith) (go (cases_order k i))
          where
            go : (k ≡ i) ⊎ ((k < i) ⊎ (i < k)) → 215 * i + 1 + length bs ≤ j
            go (inl z) = absurd (n z)
            go (inr (inl z)) = let y : ⊥ = omega arith in absurd y
            go (inr (inr z)) = omega arith

    at : (k : ℕ) → k < length (slots_of u) → get_or (slots_of u) k Missing ≡ get_or (set (slots_of m) i (Have bs)) k Missing
    at k q = let z = length-slots 0 1000 u in go (omega arith) (cases_eq k i)
      where
        go : k < 1000 → (k ≡ i) ⊎ (k ≡ i → ⊥) → get_or (slots_of u) k Missing ≡ get_or (set (slots_of m) i (Have bs)) k Missing
        go b (inl z) =
            ap (λ (j : ℕ). get_or (slots_of u) j Missing) z ∙ slots_at u i h ∙ here ∙
            sym (ap (λ (j : ℕ). get_or (set (slots_of m) i (Have bs)) j Missing) z ∙ get_or-set_same (slots_of m) i (Have bs) Missing (let y = length-slots 0 1000 m in omega arith))
        go b (inr n) =
            slots_at u k b ∙ same-slot u m k (u-long ∙ sym e) (λ j x y. far k j n x y) ∙ sym (get_or-set_other (slots_of m) i k (Have bs) Missing n ∙ slots_at m k b)

-- a part that is new fills its slot
pub part_new :
    (m bs : List ℕ) (ss : List Slot) (i n : ℕ) → i < 1000 → get_or m (215 * i) 0 ≡ 0 → slots_of m ≡ ss → i ≡ n →
    set (slots_of m) i (Have bs) ≡ with_part n bs ss
part_new m bs ss i n h o e q =
    sym (cond-true (ltb i 1000 && empty_of (get_or (slots_of m) i Missing)) (set (slots_of m) i (Have bs)) (slots_of m)
    (and_from (ltb i 1000) (empty_of (get_or (slots_of m) i Missing)) (lt-ltb i 1000 h) (is-empty m i h o))) ∙
    ap (λ (us : List Slot). with_part i bs us) e ∙ ap (λ (j : ℕ). with_part j bs ss) q

-- one that is not, or has no slot, changes nothing
pub part_known : (m bs : List ℕ) (ss : List Slot) (i n : ℕ) → i < 1000 → (get_or m (215 * i) 0 ≡ 0 → ⊥) → slots_of m ≡ ss → i ≡ n → ss ≡ with_part n bs ss
part_known m bs ss i n h o e q =
    sym (cond-false (ltb n 1000 && empty_of (get_or ss n Missing)) (set ss n (Have bs)) ss
    (and_right (ltb n 1000) (empty_of (get_or ss n Missing))
    (ap (λ (us : List Slot). empty_of (get_or us n Missing)) (sym e) ∙ ap (λ (j : ℕ). empty_of (get_or (slots_of m) j Missing)) (sym q) ∙ is-full m i h o)))

pub part_past : (bs : List ℕ) (ss : List Slot) (i n : ℕ) → 1000 ≤ i → i ≡ n → ss ≡ with_part n bs ss
part_past bs ss i n h q =
    sym (cond-false (ltb n 1000 && empty_of (get_or ss n Missing)) (set ss n (Have bs)) ss
    (and_left (ltb n 1000) (empty_of (get_or ss n Missing)) (le-ltb n 1000 (omega arith))))

-- ---- the first of some slots that is empty, and how many are filled
pub first-is : (i n : ℕ) (cs : List (List ℕ)) → n ≤ length cs → first_missing i n (map slot_read cs) ≡ i + position_or_len free (take n cs)
unfolding first_missing
first-is i zero cs h = omega arith
first-is i (suc n) [] h = let z : ⊥ = omega arith in absurd z
first-is i (suc n) (c ∷ cs) h = go (free c) (first-is (i + 1) n cs (omega arith))
  where
    go : (b : Bool) → first_missing (i + 1) n (map slot_read cs) ≡ i + 1 + position_or_len free (take n cs) →
        cond b i (first_missing (i + 1) n (map slot_read cs)) ≡ i + cond (not b) (1 + position_or_len free (take n cs)) 0
    go true e = omega arith
    go false e = omega arith

gap-at : (n k m : ℕ) (ss : List Slot) → m ≡ n → first_missing 0 n ss ≡ k → k ≤ m → IsGap (cond (ltb k m) (Some k) None) n ss
gap-at n k m ss e f w =
    cond_both (ltb k m) (Some k) None (λ (o : Option ℕ). IsGap o n ss) (λ t. ((let l = ltb-true k m t in omega arith), f)) (λ t. let l = ltb-false k m t in omega arith)

pub gap_is :
    (r : Option ℕ) (n : ℕ) (cs : List (List ℕ)) (ss : List Slot) → r ≡ position free (take n cs) → n ≤ length cs → map slot_read cs ≡ ss → IsGap r n ss
gap_is r n cs ss e h q =
    subst (λ (o : Option ℕ). IsGap o n ss) (sym e)
    (gap-at n (position_or_len free (take n cs)) (length (take n cs)) ss (length-take-le n cs h)
    (ap (λ (us : List Slot). first_missing 0 n us) (sym q) ∙ first-is 0 n cs h ∙ omega arith) (prefix_len-le-length (λ (c : List ℕ). not (free c)) (take n cs)))

pub filled_is : (cs : List (List ℕ)) → filled (map slot_read cs) ≡ count_by (λ (c : List ℕ). not (free c)) cs
unfolding filled
filled_is cs = is_count_by (λ (us : List (List ℕ)). filled (map slot_read us)) (λ (c : List ℕ). not (free c)) refl (λ c us. go (free c) (filled (map slot_read us))) cs
  where
    go : (b : Bool) (n : ℕ) → cond b 0 1 + n ≡ cond (not b) (1 + n) n
    go true n = omega arith
    go false n = omega arith

pub filled_within : (n : ℕ) (cs : List (List ℕ)) → n ≡ count_by (λ (c : List ℕ). not (free c)) cs → length cs ≡ 1000 → n ≤ 1000
filled_within n cs e h = let l = count_by-le-length (λ (c : List ℕ). not (free c)) cs in omega arith
