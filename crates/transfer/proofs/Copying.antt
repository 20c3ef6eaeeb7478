-- Copying the slots' bytes out, one after the other, up to the length. Assumes nothing.
use Rattle.std.proofs.Common.{Bor, map, get_or-take, Option, Some, None, MatchOption, ◌≡◌, ℕ, zero, suc, ◌+◌, ◌-◌, ◌*◌, ◌<◌, min, List, [], ◌∷◌, ◌++◌, length, get_or, take, drop, sym, refl, ap, ◌∙◌, inl, inr, append_assoc, append-nil, arith, length-append, length-take, take_all, drop-drop, take_at}
use lib.Seq.{take-append-le, take-append-add, drop-append-add}
use Rattle.std.proofs.lemmas.Bool.{cases_lt}
use Rattle.transfer_theory.specs.Receiver.{Slot, Missing, Have, joined}
use Rattle.std.specs.Option.{unwrap_or}
use Rattle.std.proofs.lemmas.List.{get_or-map}
use Rattle.transfer.specs.Memory.{slot_of, slot_in, slot_read, overwritten}
use Rattle.transfer.proofs.Bytes.{take_min}

-- what a slot adds
abbrev pub held : Slot → List ℕ
held Missing = []
held (Have bs) = bs

pub joined-more : (i : ℕ) (ss : List Slot) → joined (suc i) ss ≡ joined i ss ++ held (get_or ss i Missing)
unfolding joined
joined-more zero [] = refl
joined-more zero (Missing ∷ ss) = refl
joined-more zero (Have bs ∷ ss) = append-nil bs
joined-more (suc i) [] = refl
joined-more (suc i) (Missing ∷ ss) = joined-more i ss
joined-more (suc i) (Have bs ∷ ss) = ap (λ (xs : List ℕ). bs ++ xs) (joined-more i ss) ∙ sym (append_assoc bs (joined i ss) (held (get_or ss i Missing)))

-- the bytes that are read of a slot, none if it is empty
pub held-bytes :
    (s : Slot) (o : Option (Bor (List ℕ))) (r d : Bor (List ℕ)) → MatchOption o (s ≡ Missing) (λ b. s ≡ Have b.now) → d.now ≡ [] → r ≡ unwrap_or o d →
    held s ≡ r.now
held-bytes s None r d e n q = ap held e ∙ sym (ap (λ (b : Bor (List ℕ)). b.now) q ∙ n)
held-bytes s (Some b) r d e n q = ap held e ∙ sym (ap (λ (b : Bor (List ℕ)). b.now) q)

-- one slot more
pub joined-slot :
    (i n : ℕ) (cs : List (List ℕ)) (ss : List Slot) (bs : List ℕ) → i < length (take n cs) → map slot_read cs ≡ ss → held (slot_read (get_or (take n cs) i [])) ≡ bs →
    joined (i + 1) ss ≡ joined i ss ++ bs
joined-slot i n cs ss bs h e q =
    let l = length-take n cs in
    let k : i + 1 ≡ suc i = omega arith in
    ap (λ (j : ℕ). joined j ss) k ∙ joined-more i ss ∙
    ap (λ (s : Slot). joined i ss ++ held s)
    (ap (λ (us : List Slot). get_or us i Missing) (sym e) ∙ get_or-map slot_read cs i [] Missing (omega arith) ∙ ap slot_read (sym (get_or-take n cs i [] (omega arith)))) ∙
    ap (λ (xs : List ℕ). joined i ss ++ xs) q

held-is : (c : ℕ) (xs : List ℕ) → held (slot_of c xs) ≡ take (c - 1) xs
held-is zero xs = refl
held-is (suc c) xs = let q : c ≡ suc c - 1 = omega arith in ap (λ (k : ℕ). take k xs) q

-- the bytes of a slot that still have room, as a stretch of the memory
pub slot-stretch :
    (m : List ℕ) (i r n : ℕ) → n ≡ min (min (get_or m (215 * i) 0 - 1) 214) r →
    take (215 * i + 1 + n - (215 * i + 1)) (drop (215 * i + 1) m) ≡ take r (held (slot_in m i))
slot-stretch m i r n e =
    let q : 215 * i + 1 + n - (215 * i + 1) ≡ min r (min (get_or m (215 * i) 0 - 1) 214) = omega arith in
    ap (λ (k : ℕ). take k (drop (215 * i + 1) m)) q ∙ sym (take_min r (min (get_or m (215 * i) 0 - 1) 214) (drop (215 * i + 1) m)) ∙
    ap (λ (xs : List ℕ). take r xs)
    (sym (held-is (get_or m (215 * i) 0) (take 214 (drop (215 * i + 1) m)) ∙ take_min (get_or m (215 * i) 0 - 1) 214 (drop (215 * i + 1) m)))

-- ---- a front taken of two lists
pub take-both : (n : ℕ) (xs ys : List ℕ) → take n (xs ++ ys) ≡ take n xs ++ take (n - length xs) ys
take-both n xs ys =
    elim (cases_lt n (length xs)) [
      | inl h ↦ let q : 0 ≡ n - length xs = omega arith in
          take-append-le n xs ys (omega arith) ∙ sym (append-nil (take n xs)) ∙ ap (λ (k : ℕ). take n xs ++ take k ys) q
      | inr h ↦ let q : n ≡ length xs + (n - length xs) = omega arith in
          ap (λ (k : ℕ). take k (xs ++ ys)) q ∙ take-append-add xs ys (n - length xs) ∙ ap (λ (zs : List ℕ). zs ++ take (n - length xs) ys) (sym (take_all n xs h))
    ]

-- one slot more is copied
pub copied_more :
    (limit : ℕ) (js bs old out : List ℕ) (at : ℕ) → at ≡ length (take limit js) → out ≡ take limit js ++ drop at old →
    overwritten at (take (limit - at) bs) out ≡ take limit (js ++ bs) ++ drop (at + length (take (limit - at) bs)) old
copied_more limit js bs old out at e o =
    ap (λ (xs : List ℕ). overwritten at (take (limit - at) bs) xs) o ∙
    ap (λ (xs : List ℕ). xs ++ (take (limit - at) bs ++ drop (at + n) (take limit js ++ drop at old))) (take_at (take limit js) (drop at old) at (sym e)) ∙
    ap (λ (xs : List ℕ). take limit js ++ (take (limit - at) bs ++ xs)) behind ∙
    sym (append_assoc (take limit js) (take (limit - at) bs) (drop (at + n) old)) ∙
    ap (λ (xs : List ℕ). xs ++ drop (at + n) old) (ap (λ (k : ℕ). take limit js ++ take k bs) left ∙ sym (take-both limit js bs))
  where
    n : ℕ
    n = length (take (limit - at) bs)

    behind : drop (at + n) (take limit js ++ drop at old) ≡ drop (at + n) old
    behind =
        ap (λ (k : ℕ). drop (k + n) (take limit js ++ drop at old)) e ∙ drop-append-add (take limit js) (drop at old) n ∙ drop-drop n at old

    left : limit - at ≡ limit - length js
    left = let q = length-take limit js in omega arith

pub copied-count :
    (limit : ℕ) (js bs : List ℕ) (at : ℕ) → at ≡ length (take limit js) → at + length (take (limit - at) bs) ≡ length (take limit (js ++ bs))
copied-count limit js bs at e =
    let left : limit - at ≡ limit - length js = let q = length-take limit js in omega arith in
    ap (λ (k : ℕ). k + length (take (limit - at) bs)) e ∙ ap (λ (k : ℕ). length (take limit js) + length (take k bs)) left ∙
    sym (ap length (take-both limit js bs) ∙ length-append (take limit js) (take (limit - length js) bs))
