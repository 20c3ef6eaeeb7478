-- The search row by row: what one row does to a vector, and what a new pivot does to the others. Assumes nothing.
use Rattle.std.proofs.Common.{◌≡◌, ℕ, suc, zero, ◌+◌, ◌<◌, ◌≤◌, ◌≢◌, T, List, [], ◌∷◌, length, get_or, drop, set, replicate, Option, Some, None, sym, refl, ap, ◌∙◌, ap₂, subst, ⊎_elim, le_refl, le_of_suc-le-suc, not-suc-le-zero, zero-le, suc-le-suc, arith, below_more}
use Rattle.std.proofs.lemmas.Bool.{cases_eq}
use Rattle.std.proofs.lemmas.List.{get_or-set_same, get_or-set_other, length-replicate}
use Rattle.bits.specs.Lists.{are_bytes}
use Rattle.gf256.specs.Field.{inverse}
use Rattle.gf256.proofs.Ring.{◌⊕◌, ◌⊙◌, ⊕-below, ⊙-below}
use Rattle.rs_decoding.specs.Decoding.{dot, combine}
use Rattle.rs_decoding.specs.Search.{Topped, IsPivot, Pivots, Reduced, FitsRow, pivot_at, pivot_count}
use Rattle.rs_decoding.specs.declared.search.Pivot.{Pivot}
use Rattle.rs_decoding.proofs.Bytes.{under-head, under_tail, under-cons}
use Rattle.rs_decoding.proofs.Pivots.{dot-combine, combine-at, combine-none, clears}

dot-below : (us vs : List ℕ) → dot us vs < 256
unfolding dot
dot-below [] vs = omega arith
dot-below (u ∷ us) [] = omega arith
dot-below (u ∷ us) (v ∷ vs) = ⊕-below (u ⊙ v) (dot us vs) (⊙-below u v) (dot-below us vs)

length-combine : (c : ℕ) (us vs : List ℕ) → length (combine c us vs) ≡ length us
unfolding combine
length-combine c [] vs = refl
length-combine c (u ∷ us) [] = refl
length-combine c (u ∷ us) (v ∷ vs) = ap suc (length-combine c us vs)

bytes-combine : (c : ℕ) (us vs : List ℕ) → T (are_bytes us) → T (are_bytes (combine c us vs))
unfolding combine
bytes-combine c [] vs t = t
bytes-combine c (u ∷ us) [] t = t
bytes-combine c (u ∷ us) (v ∷ vs) t = under-cons (u ⊕ (c ⊙ v)) (combine c us vs) (⊕-below u (c ⊙ v) (under-head u us t) (⊙-below c v)) (bytes-combine c us vs (under_tail u us t))

-- a row to which u is orthogonal already
pub reduced-more : (i k : ℕ) (s u : List ℕ) → Reduced i k s u → dot u (drop i s) ≡ 0 → Reduced (i + 1) k s u
reduced-more i k s u r e = record { topped = r.topped; clear = below_more (λ q. dot u (drop q s) ≡ 0) i r.clear e; wide = r.wide; bytes = r.bytes }

-- a row that has a pivot v
pub reduced-by : (i k : ℕ) (s u r : List ℕ) (v : Pivot) (d c : ℕ) → IsPivot k i s v → d ≡ dot u (drop i s) → c ≡ d ⊙ inverse v.head → r ≡ combine c u v.vector →
    Reduced i k s u → Reduced (i + 1) k s r
reduced-by i k s u r v d c p de ce re cl =
    let lu : length u ≡ length v.vector = cl.wide ∙ sym p.wide in
    let hb : v.head < 256 = subst (λ (n : ℕ). n < 256) p.here (dot-below v.vector (drop i s)) in
    let db : d < 256 = subst (λ (n : ℕ). n < 256) (sym de) (dot-below u (drop i s)) in
    let at : (j : ℕ) → get_or r j 0 ≡ get_or u j 0 ⊕ (c ⊙ get_or v.vector j 0) = λ j. ap (λ (l : List ℕ). get_or l j 0) re ∙ combine-at c u v.vector j lu in
    let same : (j : ℕ) → k ≤ j → get_or r j 0 ≡ get_or u j 0 = λ j g. at j ∙ combine-none (get_or u j 0) c (get_or v.vector j 0) (p.short j g) in
    let prod : (q : ℕ) → dot r (drop q s) ≡ dot u (drop q s) ⊕ (c ⊙ dot v.vector (drop q s)) = λ q. ap (λ (l : List ℕ). dot l (drop q s)) re ∙ dot-combine c u v.vector (drop q s) lu in
    record {
      topped = record { one = same k (le_refl k) ∙ cl.topped.one; above = λ j g. same j (omega arith) ∙ cl.topped.above j g };
      clear = below_more (λ q. dot r (drop q s) ≡ 0) i
          (λ q g. prod q ∙ combine-none (dot u (drop q s)) c (dot v.vector (drop q s)) (p.before q g) ∙ cl.clear q g)
          (prod i ∙ ap₂ (λ (a b : ℕ). a ⊕ (c ⊙ b)) (sym de) p.here ∙ ap (λ (a : ℕ). d ⊕ (a ⊙ v.head)) ce ∙ clears d v.head db hb p.nonzero);
      wide = ap length re ∙ length-combine c u v.vector ∙ cl.wide;
      bytes = subst (λ (l : List ℕ). T (are_bytes l)) (sym re) (bytes-combine c u v.vector cl.bytes);
    }

-- ---- the pivots
count-none : (m : ℕ) → pivot_count (replicate m None) ≡ 0
unfolding pivot_count
count-none zero = refl
count-none (suc m) = count-none m

none-at : (m i : ℕ) → pivot_at (replicate m None) i ≡ None
none-at zero i = refl
none-at (suc m) zero = refl
none-at (suc m) (suc i) = none-at m i

count-more : (ps : List (Option Pivot)) (i : ℕ) (p : Pivot) → i < length ps → pivot_at ps i ≡ None → pivot_count (set ps i (Some p)) ≡ suc (pivot_count ps)
unfolding pivot_count
count-more [] i p h e = absurd (not-suc-le-zero h)
count-more (None ∷ ps) zero p h e = refl
count-more (Some q ∷ ps) zero p h e = let z : ⊥ = cc in absurd z
count-more (None ∷ ps) (suc i) p h e = count-more ps i p (le_of_suc-le-suc h) e
count-more (Some q ∷ ps) (suc i) p h e = ap suc (count-more ps i p (le_of_suc-le-suc h) e)

count-within : (ps : List (Option Pivot)) (n : ℕ) → ((i : ℕ) → n ≤ i → pivot_at ps i ≡ None) → pivot_count ps ≤ n
unfolding pivot_count
count-within [] n f = zero-le
count-within (None ∷ ps) zero f = count-within ps zero (λ i h. f (suc i) zero-le)
count-within (None ∷ ps) (suc n) f = let r : pivot_count ps ≤ n = count-within ps n (λ i h. f (suc i) (suc-le-suc h)) in omega arith
count-within (Some q ∷ ps) zero f = let e : Some q ≡ None = f zero zero-le in let z : ⊥ = cc in absurd z
count-within (Some q ∷ ps) (suc n) f = suc-le-suc (count-within ps n (λ i h. f (suc i) (suc-le-suc h)))

pub no-pivots : (n m : ℕ) (s : List ℕ) → Pivots n s (replicate m None) × (pivot_count (replicate m None) ≡ 0)
no-pivots n m s =
    (record { each = λ i p e. let f : pivot_at (replicate m None) i ≡ None = none-at m i in let z : ⊥ = cc in absurd z; none = λ i h. none-at m i }, count-none m)

pub topped-unit : (n k : ℕ) → k < n → Topped k (set (replicate n 0) k 1)
topped-unit n k h =
    record {
      one = get_or-set_same (replicate n 0) k 1 0 (omega (arith, length-replicate {A = ℕ} n 0));
      above = λ j g. get_or-set_other (replicate n 0) k j 1 0 (omega arith) ∙ zero-at n j;
    }
  where
    zero-at : (m j : ℕ) → get_or {A = ℕ} (replicate m 0) j 0 ≡ 0
    zero-at zero j = refl
    zero-at (suc m) zero = refl
    zero-at (suc m) (suc j) = zero-at m j

weaker : (k l i : ℕ) (s : List ℕ) (p : Pivot) → k ≤ l → IsPivot k i s p → IsPivot l i s p
weaker k l i s p h is = record { nonzero = is.nonzero; here = is.here; before = is.before; short = λ j g. is.short j (omega arith); wide = is.wide }

new-pivot : (n i d : ℕ) (s : List ℕ) (ps : List (Option Pivot)) (u : List ℕ) → FitsRow n i d s ps u → IsPivot (suc (pivot_count ps)) i s (record { head = d; vector = u })
new-pivot n i d s ps u f =
    record { nonzero = f.nonzero; here = f.here; before = f.reduced.clear; short = λ j g. f.reduced.topped.above j (omega arith); wide = f.reduced.wide }

pub pivots-more : (n i d : ℕ) (s : List ℕ) (ps : List (Option Pivot)) (u : List ℕ) → i < length ps → Pivots n s ps → FitsRow n i d s ps u →
    Pivots n s (set ps i (Some (record { head = d; vector = u }))) × (pivot_count (set ps i (Some (record { head = d; vector = u }))) ≡ pivot_count ps + 1)
pivots-more n i d s ps u h p f =
    let new : Pivot = record { head = d; vector = u } in
    let k : ℕ = pivot_count ps in
    let w : pivot_count (set ps i (Some new)) ≡ suc k = count-more ps i new h f.free in
    let here : pivot_at (set ps i (Some new)) i ≡ Some new = get_or-set_same ps i (Some new) None h in
    let other : (j : ℕ) → j ≢ i → pivot_at (set ps i (Some new)) j ≡ pivot_at ps j = λ j ne. get_or-set_other ps i j (Some new) None ne in (
      record {
        each = λ j q e.
            ⊎_elim
            (λ same.
            let t : pivot_at (set ps i (Some new)) i ≡ Some q = ap (λ (m : ℕ). pivot_at (set ps i (Some new)) m) (sym same) ∙ e in
            let x : new ≡ q = cc in
            subst (λ (m : ℕ). IsPivot m j s q) (sym w) (subst (λ (m : ℕ). IsPivot (suc k) m s q) (sym same) (subst (λ (y : Pivot). IsPivot (suc k) i s y) x (new-pivot n i d s ps u f))))
            (λ ne. subst (λ (m : ℕ). IsPivot m j s q) (sym w) (weaker k (suc k) j s q (omega arith) (p.each j q (sym (other j ne) ∙ e))))
            (cases_eq j i);
        none = λ j g. let row : i < n = f.row in other j (omega arith) ∙ p.none j g;
      },
      w ∙ omega arith,
    )

-- no more pivots than rows
pub pivots-within : (n : ℕ) (s : List ℕ) (ps : List (Option Pivot)) → Pivots n s ps → pivot_count ps ≤ n
pivots-within n s ps p = count-within ps n p.none

-- no more pivots than rows, and none more where each row has one
pub no_room : (n k : ℕ) (s : List ℕ) (ps : List (Option Pivot)) → Pivots n s ps → pivot_count ps ≡ k → n < k → ⊥
no_room n k s ps p e h = let few : pivot_count ps ≤ n = pivots-within n s ps p in omega arith

pub not_another : (n i d k : ℕ) (s : List ℕ) (ps : List (Option Pivot)) (u : List ℕ) → length ps ≡ 16 → n ≤ 16 → Pivots n s ps → pivot_count ps ≡ k → FitsRow n i d s ps u → n ≤ k → ⊥
not_another n i d k s ps u l m p e f h =
    let row : i < n = f.row in
    let more = pivots-more n i d s ps u (omega arith) p f in
    omega (arith, more.1, pivots-within n s _ more.0)
