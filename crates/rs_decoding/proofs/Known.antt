-- Places that are known to be bad: syndromes freed from their locators are those of the other errors, so that fewer are left to find. Assumes nothing.
use Rattle.std.proofs.Common.{◌≡◌, ℕ, zero, suc, ◌+◌, ◌<◌, ◌≤◌, T, ◌⊎◌, List, [], ◌∷◌, ◌++◌, length, refl, subst, inl, inr, ⊎_elim, suc-le-suc, zero-le, suc-add, zero-add, arith}
use Rattle.bits.specs.Lists.{are_bytes}
use Rattle.gf256.proofs.Ring.{◌⊕◌, ◌⊙◌, ⊙-nonzero, ⊙-below, ⊕-below, ⊕-cancel}
use Rattle.rs_theory.proofs.Sum.{scale}
use Rattle.rs_theory.proofs.Distance.{Locators}
use Rattle.rs_decoding.specs.Decoding.{peel}
use Rattle.rs_decoding.proofs.Bytes.{under-head, under_tail}
use Rattle.rs_decoding.proofs.Kernel.{Valid, Rooted}
use Rattle.rs_decoding.proofs.Peel.{In, Supported, valid-peel}
use Rattle.rs_decoding.proofs.Roots.{roots_among, supported}

-- the syndromes freed from each of the known locators
unfoldable pub freed : List ℕ → List ℕ → List ℕ
freed [] t = t
freed (k ∷ ks) t = freed ks (peel (length t) k t)

-- what the entries become by that: zero at the known locators
unfoldable pub without : List ℕ → List ℕ → List ℕ → List ℕ
without [] es xs = es
without (k ∷ ks) es xs = without ks (scale k es xs) xs

valid-length : (m : ℕ) (es xs t : List ℕ) (k : ℕ) → Valid m es xs k t → m ≤ length t
unfolding Valid
valid-length zero es xs t k v = zero-le
valid-length (suc m) es xs [] k v = absurd v
valid-length (suc m) es xs (a ∷ t) k v = suc-le-suc (valid-length m es xs t (suc k) v.1)

-- each known locator costs one syndrome
pub valid-freed : (ks : List ℕ) (m : ℕ) (es xs t : List ℕ) (k : ℕ) → Valid (length ks + m) es xs k t → Valid m (without ks es xs) xs k (freed ks t)
unfolding freed without
valid-freed [] m es xs t k v = rw zero-add at v
valid-freed (y ∷ ks) m es xs t k v =
    let z : Valid (suc (length ks + m)) es xs k t = rw suc-add at v in
    let n : suc (length ks + m) ≤ length t = valid-length (suc (length ks + m)) es xs t k z in
    valid-freed ks m (scale y es xs) xs (peel (length t) y t) k (valid-peel (length ks + m) (length t) y es xs t k (omega arith) z)

-- ---- an entry that became zero was zero or stands at a known locator
unfoldable pub alone : List ℕ → ℕ → ℕ → ℕ
alone [] x e = e
alone (k ∷ ks) x e = alone ks x (e ⊙ (x ⊕ k))

without-cons : (ks : List ℕ) (e x : ℕ) (es xs : List ℕ) → without ks (e ∷ es) (x ∷ xs) ≡ alone ks x e ∷ without ks es xs
unfolding without alone scale
without-cons [] e x es xs = refl
without-cons (k ∷ ks) e x es xs = without-cons ks (e ⊙ (x ⊕ k)) x (scale k es xs) xs

alone-zero : (ks : List ℕ) (x e : ℕ) → x < 256 → e < 256 → T (are_bytes ks) → alone ks x e ≡ 0 → (e ≡ 0) ⊎ In x ks
unfolding alone In
alone-zero [] x e hx he b z = inl z
alone-zero (k ∷ ks) x e hx he b z =
    let d : x ⊕ k < 256 = ⊕-below x k hx (under-head k ks b) in
    ⊎_elim
    (λ p. ⊎_elim (λ q. inl (omega (arith, q))) (λ q. inr (inl (⊕-cancel x k (omega (arith, q))))) (⊙-nonzero e (x ⊕ k) p))
    (λ i. inr (inr i))
    (alone-zero ks x (e ⊙ (x ⊕ k)) hx (⊙-below e (x ⊕ k)) (under_tail k ks b) z)

in_left : (x : ℕ) (ks ys : List ℕ) → In x ks → In x (ks ++ ys)
unfolding In
in_left x [] ys i = absurd i
in_left x (k ∷ ks) ys i = ⊎_elim (λ e. inl e) (λ j. inr (in_left x ks ys j)) i

in_right : (x : ℕ) (ks ys : List ℕ) → In x ys → In x (ks ++ ys)
unfolding In
in_right x [] ys i = i
in_right x (k ∷ ks) ys i = inr (in_right x ks ys i)

join : (ks ys es xs : List ℕ) → T (are_bytes ks) → T (are_bytes es) → Locators xs → Supported ys (without ks es xs) xs → Supported (ks ++ ys) es xs
unfolding Supported Locators
join ks ys [] xs b c ls s = tt
join ks ys (e ∷ es) [] b c ls s = tt
join ks ys (e ∷ es) (x ∷ xs) b c ls s =
    let P : List ℕ → Type 0 = λ l. Supported ys l (x ∷ xs) in
    let t : Supported ys (alone ks x e ∷ without ks es xs) (x ∷ xs) = subst P (without-cons ks e x es xs) s in (
      ⊎_elim
          (λ z. ⊎_elim (λ q. inl q) (λ i. inr (in_left x ks ys i)) (alone-zero ks x e ls.0 (under-head e es c) b z))
          (λ i. inr (in_right x ks ys i))
          t.0,
      join ks ys es xs b (under_tail e es c) ls.3 t.1,
    )

-- all errors stand at known locators or at roots of a polynomial that belongs to the freed syndromes
pub supported-known : (ks l es xs : List ℕ) → T (are_bytes ks) → T (are_bytes es) → Locators xs → Rooted l (without ks es xs) xs → Supported (ks ++ roots_among l xs) es xs
supported-known ks l es xs b c ls r = join ks (roots_among l xs) es xs b c ls (supported l (without ks es xs) xs r)
