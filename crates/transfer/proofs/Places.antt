-- Where bytes stand after a write, and lists that agree at every place. Assumes nothing.
use Rattle.std.proofs.Common.{◌≡◌, ℕ, ◌+◌, ◌-◌, ◌<◌, ◌≤◌, min, List, ◌++◌, length, get_or, take, drop, sym, refl, ap, ◌∙◌, arith, length-drop, length-take, length-take-le, get_or-drop, get_or-take, ext_get_or}
use borrow.Rule.Slice.PartMut.{put_mid}
use Rattle.std.proofs.lemmas.List.{get_or_append_left, get_or-append_right}
use Rattle.std.proofs.lemmas.List.Edits.{paste_all, length-paste}
use Rattle.std.proofs.lemmas.Slice.{put_mid-paste}
use Rattle.transfer.specs.Memory.{overwritten}

-- two stretches that agree at every place
pub stretch-same :
    (a n : ℕ) (xs ys : List ℕ) → length xs ≡ length ys → ((j : ℕ) → a ≤ j → j < a + n → get_or xs j 0 ≡ get_or ys j 0) →
    take n (drop a xs) ≡ take n (drop a ys)
stretch-same a n xs ys e h = ext_get_or 0 (take n (drop a xs)) (take n (drop a ys)) same at
  where
    long : (zs : List ℕ) → length (take n (drop a zs)) ≡ min n (length zs - a)
    long zs = length-take n (drop a zs) ∙ ap (λ (k : ℕ). min n k) (length-drop a zs)

    same : length (take n (drop a xs)) ≡ length (take n (drop a ys))
    same = long xs ∙ ap (λ (k : ℕ). min n (k - a)) e ∙ sym (long ys)

    at : (i : ℕ) → i < length (take n (drop a xs)) → get_or (take n (drop a xs)) i 0 ≡ get_or (take n (drop a ys)) i 0
    at i l =
        let m : i < n = let q = long xs in omega arith in
        get_or-take n (drop a xs) i 0 m ∙ get_or-drop a xs i 0 ∙ h (a + i) (omega arith) (omega arith) ∙ sym (get_or-drop a ys i 0) ∙ sym (get_or-take n (drop a ys) i 0 m)

pub length-overwritten : (a : ℕ) (bs m : List ℕ) → a + length bs ≤ length m → length (overwritten a bs m) ≡ length m
length-overwritten a bs m h = ap length (sym (paste_all m a bs (length bs) refl)) ∙ length-paste m a bs (length bs) h (omega arith)

pub over-before : (a : ℕ) (bs m : List ℕ) (j : ℕ) → a ≤ length m → j < a → get_or (overwritten a bs m) j 0 ≡ get_or m j 0
over-before a bs m j h l =
    let t = length-take-le a m h in
    get_or_append_left (take a m) (bs ++ drop (a + length bs) m) 0 j (omega arith) ∙ get_or-take a m j 0 l

pub over-inside : (a : ℕ) (bs m : List ℕ) (j : ℕ) → a ≤ length m → a ≤ j → j < a + length bs → get_or (overwritten a bs m) j 0 ≡ get_or bs (j - a) 0
over-inside a bs m j h l k =
    get_or-append_right (take a m) (bs ++ drop (a + length bs) m) a j 0 (length-take-le a m h) l ∙
    get_or_append_left bs (drop (a + length bs) m) 0 (j - a) (omega arith)

pub over-behind : (a : ℕ) (bs m : List ℕ) (j : ℕ) → a ≤ length m → a + length bs ≤ j → get_or (overwritten a bs m) j 0 ≡ get_or m j 0
over-behind a bs m j h l =
    let q : a + length bs + (j - a - length bs) ≡ j = omega arith in
    get_or-append_right (take a m) (bs ++ drop (a + length bs) m) a j 0 (length-take-le a m h) (omega arith) ∙
    get_or-append_right bs (drop (a + length bs) m) (length bs) (j - a) 0 refl (omega arith) ∙
    get_or-drop (a + length bs) m (j - a - length bs) 0 ∙ ap (λ (i : ℕ). get_or m i 0) q

-- a copy into a stretch
pub put_over : (a k : ℕ) (xs ys bs : List ℕ) → ys ≡ bs → k ≡ length bs → put_mid a k xs ys ≡ overwritten a bs xs
put_over a k xs ys bs e q = put_mid-paste a k xs ys bs (length bs) e (sym q) refl ∙ paste_all xs a bs (length bs) refl
