-- A slot once filled stays, and what is not looked at does not matter. Assumes nothing.
use Rattle.std.proofs.Common.{◌≡◌, ℕ, ◌<◌, ◌≤◌, true, false, cond, ◌&&◌, eqb, ltb, ◌⊎◌, List, sym, ap, ◌∙◌, subst, inl, inr}
use Rattle.std.proofs.lemmas.List.{get_or-set_other}
use Rattle.std.proofs.lemmas.Bool.{and_parts, both_ways, cond_both, cases_eq, cases_lt, cases_Bool}
use Rattle.bits.specs.Heard.{Lost, Got}
use Rattle.transfer_theory.specs.Payload.{kind_of, file_of, number_of, body_of, length_of}
use Rattle.transfer_theory.specs.Parts.{parts}
use Rattle.transfer_theory.specs.Sender.{Sender, with_place, told}
use Rattle.transfer_theory.specs.Receiver.{Missing, Have, Receiver, empty_of, slot_at, brings_part, brings_end, filled_slot, with_length, hears}
use Rattle.transfer_theory.specs.Orders.{FilledStays, Alike}
use Rattle.transfer_theory.proofs.Hearing.{hears-part, hears-full, hears-past, hears-end, hears-long, hears-other, hears-foreign}
use Rattle.transfer_theory.proofs.Telling.{told-ask, told-past, told-done, told-other, told-foreign}

-- ---- a filled slot stays
pub filled-stays : FilledStays
unfolding hears
filled-stays Lost v i bs e = e
filled-stays (Got p) v i bs e =
    cond_both (brings_part p v) (filled_slot (number_of p) (body_of p) v) (cond (brings_end p v) (with_length (length_of p) v) v) (λ (u : Receiver). slot_at u i ≡ Have bs)
    (λ b. get_or-set_other v.slots (number_of p) i (Have (body_of p)) Missing (apart b) ∙ e)
    (λ _. cond_both (brings_end p v) (with_length (length_of p) v) v (λ (u : Receiver). slot_at u i ≡ Have bs) (λ _. e) (λ _. e))
  where
    -- the slot that is filled now was empty
    apart : brings_part p v ≡ true → i ≡ number_of p → ⊥
    apart b q =
        both_ways (empty_of (slot_at v (number_of p))) (ap (λ (j : ℕ). empty_of (slot_at v j)) (sym q) ∙ ap empty_of e)
        (and_parts (eqb (kind_of p) 1 && eqb (file_of p) v.file && ltb (number_of p) 1000) (empty_of (slot_at v (number_of p))) b).1

-- ---- what is not looked at
module _ (p q : List ℕ) (a : Alike p q) where
  pub hears-alike : (v : Receiver) → hears (Got p) v ≡ hears (Got q) v
  hears-alike v = of-file (cases_eq (file_of p) v.file)
    where
      as-part :
          kind_of p ≡ 1 → file_of p ≡ v.file → (number_of p < 1000) ⊎ (1000 ≤ number_of p) →
          (empty_of (slot_at v (number_of p)) ≡ true) ⊎ (empty_of (slot_at v (number_of p)) ≡ false) → hears (Got p) v ≡ hears (Got q) v
      as-part k o l e = go l e
        where
          n : number_of p ≡ number_of q
          n = a.number (inl k)

          j : kind_of q ≡ 1
          j = sym a.kind ∙ k

          go :
              (number_of p < 1000) ⊎ (1000 ≤ number_of p) → (empty_of (slot_at v (number_of p)) ≡ true) ⊎ (empty_of (slot_at v (number_of p)) ≡ false) →
              hears (Got p) v ≡ hears (Got q) v
          go (inl l) (inl e) =
              hears-part p v k o l e ∙ ap (λ (i : ℕ). filled_slot i (body_of p) v) n ∙ ap (λ (bs : List ℕ). filled_slot (number_of q) bs v) (a.body k) ∙
              sym (hears-part q v j (sym a.file ∙ o) (subst (λ (i : ℕ). i < 1000) n l) (subst (λ (i : ℕ). empty_of (slot_at v i) ≡ true) n e))
          go (inl l) (inr e) = hears-full p v k e ∙ sym (hears-full q v j (subst (λ (i : ℕ). empty_of (slot_at v i) ≡ false) n e))
          go (inr l) _ = hears-past p v k l ∙ sym (hears-past q v j (subst (λ (i : ℕ). 1000 ≤ i) n l))

      as-end : kind_of p ≡ 2 → file_of p ≡ v.file → (214000 < length_of p) ⊎ (length_of p ≤ 214000) → hears (Got p) v ≡ hears (Got q) v
      as-end k o (inl l) = hears-long p v k l ∙ sym (hears-long q v (sym a.kind ∙ k) (subst (λ (m : ℕ). 214000 < m) (a.size k) l))
      as-end k o (inr l) =
          hears-end p v k o l ∙ ap (λ (m : ℕ). with_length m v) (a.size k) ∙
          sym (hears-end q v (sym a.kind ∙ k) (sym a.file ∙ o) (subst (λ (m : ℕ). m ≤ 214000) (a.size k) l))

      of-kind : file_of p ≡ v.file → (kind_of p ≡ 1) ⊎ (kind_of p ≡ 1 → ⊥) → (kind_of p ≡ 2) ⊎ (kind_of p ≡ 2 → ⊥) → hears (Got p) v ≡ hears (Got q) v
      of-kind o (inl k) _ = as-part k o (cases_lt (number_of p) 1000) (cases_Bool (empty_of (slot_at v (number_of p))))
      of-kind o (inr k) (inl j) = as-end j o (cases_lt 214000 (length_of p))
      of-kind o (inr k) (inr j) = hears-other p v k j ∙ sym (hears-other q v (λ e. k (a.kind ∙ e)) (λ e. j (a.kind ∙ e)))

      of-file : (file_of p ≡ v.file) ⊎ (file_of p ≡ v.file → ⊥) → hears (Got p) v ≡ hears (Got q) v
      of-file (inl o) = of-kind o (cases_eq (kind_of p) 1) (cases_eq (kind_of p) 2)
      of-file (inr o) = hears-foreign p v o ∙ sym (hears-foreign q v (λ e. o (a.file ∙ e)))

  pub told-alike : (s : Sender) → told (Got p) s ≡ told (Got q) s
  told-alike s = of-file (cases_eq (file_of p) s.file)
    where
      as-ask : kind_of p ≡ 3 → file_of p ≡ s.file → (number_of p < parts s.bytes) ⊎ (parts s.bytes ≤ number_of p) → told (Got p) s ≡ told (Got q) s
      as-ask k o (inl l) =
          told-ask p s k o l ∙ ap (λ (i : ℕ). with_place i s) (a.number (inr k)) ∙
          sym (told-ask q s (sym a.kind ∙ k) (sym a.file ∙ o) (subst (λ (i : ℕ). i < parts s.bytes) (a.number (inr k)) l))
      as-ask k o (inr l) =
          told-past p s k l ∙ sym (told-past q s (sym a.kind ∙ k) (subst (λ (i : ℕ). parts s.bytes ≤ i) (a.number (inr k)) l))

      of-kind : file_of p ≡ s.file → (kind_of p ≡ 3) ⊎ (kind_of p ≡ 3 → ⊥) → (kind_of p ≡ 4) ⊎ (kind_of p ≡ 4 → ⊥) → told (Got p) s ≡ told (Got q) s
      of-kind o (inl k) _ = as-ask k o (cases_lt (number_of p) (parts s.bytes))
      of-kind o (inr k) (inl j) = told-done p s j o ∙ sym (told-done q s (sym a.kind ∙ j) (sym a.file ∙ o))
      of-kind o (inr k) (inr j) = told-other p s k j ∙ sym (told-other q s (λ e. k (a.kind ∙ e)) (λ e. j (a.kind ∙ e)))

      of-file : (file_of p ≡ s.file) ⊎ (file_of p ≡ s.file → ⊥) → told (Got p) s ≡ told (Got q) s
      of-file (inl o) = of-kind o (cases_eq (kind_of p) 3) (cases_eq (kind_of p) 4)
      of-file (inr o) = told-foreign p s o ∙ sym (told-foreign q s (λ e. o (a.file ∙ e)))
