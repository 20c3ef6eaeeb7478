-- Many payloads of one file, heard one after the other: what is held then is told by which they were. Assumes nothing.
use Rattle.std.proofs.Common.{◌≡◌, ℕ, ◌+◌, ◌<◌, ◌≤◌, Bool, true, false, cond, ◌||◌, T, ◌⊎◌, List, [], ◌∷◌, length, sym, refl, ap, ◌∙◌, subst, inl, inr, arith}
use Rattle.std.proofs.lemmas.Bool.{cases_Bool, both_ways, or_right, cond-true, cond-false}
use Rattle.bits.specs.Heard.{Got}
use Rattle.transfer_theory.specs.Parts.{part, parts, part_payload, end_payload}
use Rattle.transfer_theory.specs.Receiver.{Missing, Have, Receiver, new_receiver, empty_of, slot_at, hears}
use Rattle.transfer_theory.specs.World.{is_in, same_bytes}
use Rattle.transfer_theory.specs.Invariant.{Received, AllThere, Sent}
use Rattle.transfer_theory.specs.Orders.{hears_all, AllSent, OrderIsNothing, SlotHolds, AllIsEnough, CompleteForGood, HearingLaws}
use Rattle.transfer_theory.proofs.Slots.{missing_at, is_true, holds}
use Rattle.transfer_theory.proofs.Receiving.{parts-few, received-new, hears-sent, complete-all, all-complete, all-handed}
use Rattle.transfer_theory.proofs.Safety.{in-cons}
use Rattle.transfer_theory.proofs.Following.{in-here}
use Rattle.transfer_theory.proofs.Sameness.{slots_same, received-same}
use Rattle.transfer_theory.proofs.Effects.{twice-is-once, hears-keeps-filled, hears-brings, hears-only, hears-keeps-size, hears-end-size, hears-size-only}
use Rattle.transfer_theory.proofs.Alike.{filled-stays, told-alike, hears-alike}

in-later : (p q : List ℕ) (ps : List (List ℕ)) → T (is_in p ps) → T (is_in p (q ∷ ps))
unfolding is_in
in-later p q ps t = holds (same_bytes p q || is_in p ps) (or_right (same_bytes p q) (is_in p ps) (is_true (is_in p ps) t))

none_in : (p : List ℕ) → T (is_in p []) → ⊥
unfolding is_in
none_in p t = t

module _ (n : ℕ) (f : List ℕ) (b : length f ≤ 214000) where
  later : (p : List ℕ) (ps : List (List ℕ)) → AllSent n f (p ∷ ps) → AllSent n f ps
  later p ps a q t = a q (in-later q p ps t)

  first : (p : List ℕ) (ps : List (List ℕ)) → AllSent n f (p ∷ ps) → Sent n f p
  first p ps a = a p (in-here p ps)

  all-received : (ps : List (List ℕ)) (v : Receiver) → AllSent n f ps → Received n f v → Received n f (hears_all ps v)
  unfolding hears_all
  all-received [] v a r = r
  all-received (p ∷ ps) v a r = all-received ps (hears (Got p) v) (later p ps a) (hears-sent n f v p b r (first p ps a)).received

  -- ---- slots
  all-keeps : (ps : List (List ℕ)) (v : Receiver) → AllSent n f ps → Received n f v → (k : ℕ) → empty_of (slot_at v k) ≡ false → empty_of (slot_at (hears_all ps v) k) ≡ false
  unfolding hears_all
  all-keeps [] v a r k o = o
  all-keeps (p ∷ ps) v a r k o =
      all-keeps ps (hears (Got p) v) (later p ps a) (hears-sent n f v p b r (first p ps a)).received k (hears-keeps-filled n f v p b r (first p ps a) k o)

  all-brings :
      (ps : List (List ℕ)) (v : Receiver) → AllSent n f ps → Received n f v → (k : ℕ) → k < parts f → T (is_in (part_payload n f k) ps) →
      empty_of (slot_at (hears_all ps v) k) ≡ false
  unfolding hears_all
  all-brings [] v a r k h t = absurd (none_in (part_payload n f k) t)
  all-brings (p ∷ ps) v a r k h t =
      let s = (hears-sent n f v p b r (first p ps a)).received in
      elim (in-cons (part_payload n f k) p ps t) [
        | inl e ↦ all-keeps ps (hears (Got p) v) (later p ps a) s k (hears-brings n f v p b r k h (sym e))
        | inr i ↦ all-brings ps (hears (Got p) v) (later p ps a) s k h i
      ]

  all-only :
      (ps : List (List ℕ)) (v : Receiver) → AllSent n f ps → Received n f v → (k : ℕ) → empty_of (slot_at (hears_all ps v) k) ≡ false →
      (empty_of (slot_at v k) ≡ false) ⊎ ((k < parts f) × T (is_in (part_payload n f k) ps))
  unfolding hears_all
  all-only [] v a r k o = inl o
  all-only (p ∷ ps) v a r k o =
      elim (all-only ps (hears (Got p) v) (later p ps a) (hears-sent n f v p b r (first p ps a)).received k o) [
        | inl q ↦ elim (hears-only n f v p b r (first p ps a) k q) [
          | inl x ↦ inl x
          | inr x ↦ inr (x.0, subst (λ (y : List ℕ). T (is_in y (p ∷ ps))) x.1 (in-here p ps))
        ]
        | inr q ↦ inr (q.0, in-later (part_payload n f k) p ps q.1)
      ]

  -- ---- the length
  all-keeps-size : (ps : List (List ℕ)) (v : Receiver) → AllSent n f ps → Received n f v → v.size ≡ length f + 1 → (hears_all ps v).size ≡ length f + 1
  unfolding hears_all
  all-keeps-size [] v a r s = s
  all-keeps-size (p ∷ ps) v a r s =
      all-keeps-size ps (hears (Got p) v) (later p ps a) (hears-sent n f v p b r (first p ps a)).received (hears-keeps-size n f v p b r (first p ps a) s)

  all_end : (ps : List (List ℕ)) (v : Receiver) → AllSent n f ps → Received n f v → T (is_in (end_payload n f) ps) → (hears_all ps v).size ≡ length f + 1
  unfolding hears_all
  all_end [] v a r t = absurd (none_in (end_payload n f) t)
  all_end (p ∷ ps) v a r t =
      let s = (hears-sent n f v p b r (first p ps a)).received in
      elim (in-cons (end_payload n f) p ps t) [
        | inl e ↦ all-keeps-size ps (hears (Got p) v) (later p ps a) s (hears-end-size n f v p b r (sym e))
        | inr i ↦ all_end ps (hears (Got p) v) (later p ps a) s i
      ]

  all-size-only :
      (ps : List (List ℕ)) (v : Receiver) → AllSent n f ps → Received n f v → ((hears_all ps v).size ≡ v.size) ⊎ T (is_in (end_payload n f) ps)
  unfolding hears_all
  all-size-only [] v a r = inl refl
  all-size-only (p ∷ ps) v a r =
      elim (all-size-only ps (hears (Got p) v) (later p ps a) (hears-sent n f v p b r (first p ps a)).received) [
        | inl q ↦ elim (hears-size-only n f v p b r (first p ps a)) [
          | inl x ↦ inl (q ∙ x)
          | inr x ↦ inr (subst (λ (y : List ℕ). T (is_in y (p ∷ ps))) x (in-here p ps))
        ]
        | inr q ↦ inr (in-later (end_payload n f) p ps q)
      ]

  -- ---- from a new receiver
  new-empty : (k : ℕ) → empty_of (slot_at (new_receiver n) k) ≡ true
  new-empty k = ap empty_of (missing_at 1000 k)

  -- what one holds the other holds, if it heard all that the first did
  grows :
      (ps qs : List (List ℕ)) → AllSent n f ps → AllSent n f qs → ((p : List ℕ) → is_in p ps ≡ is_in p qs) → (k : ℕ) →
      empty_of (slot_at (hears_all ps (new_receiver n)) k) ≡ false → empty_of (slot_at (hears_all qs (new_receiver n)) k) ≡ false
  grows ps qs a c e k o =
      elim (all-only ps (new_receiver n) a (received-new n f) k o) [
        | inl x ↦ absurd (both_ways (empty_of (slot_at (new_receiver n) k)) x (new-empty k))
        | inr x ↦ all-brings qs (new_receiver n) c (received-new n f) k x.0 (subst (λ (t : Bool). T t) (e (part_payload n f k)) x.1)
      ]

  sizes :
      (ps qs : List (List ℕ)) → AllSent n f ps → AllSent n f qs → ((p : List ℕ) → is_in p ps ≡ is_in p qs) →
      (hears_all ps (new_receiver n)).size ≡ (hears_all qs (new_receiver n)).size
  sizes ps qs a c e = go (all-size-only ps (new_receiver n) a (received-new n f)) (all-size-only qs (new_receiver n) c (received-new n f))
    where
      go :
          ((hears_all ps (new_receiver n)).size ≡ 0) ⊎ T (is_in (end_payload n f) ps) → ((hears_all qs (new_receiver n)).size ≡ 0) ⊎ T (is_in (end_payload n f) qs) →
          (hears_all ps (new_receiver n)).size ≡ (hears_all qs (new_receiver n)).size
      go (inl x) (inl y) = x ∙ sym y
      go (inl x) (inr y) =
          all_end ps (new_receiver n) a (received-new n f) (subst (λ (t : Bool). T t) (sym (e (end_payload n f))) y) ∙
          sym (all_end qs (new_receiver n) c (received-new n f) y)
      go (inr x) _ =
          all_end ps (new_receiver n) a (received-new n f) x ∙
          sym (all_end qs (new_receiver n) c (received-new n f) (subst (λ (t : Bool). T t) (e (end_payload n f)) x))

-- two tests that are false together
both_false : (a b : Bool) → (a ≡ false → b ≡ false) → (b ≡ false → a ≡ false) → a ≡ b
both_false true true x y = refl
both_false true false x y = y refl
both_false false true x y = sym (x refl)
both_false false false x y = refl

order-is-nothing : OrderIsNothing
order-is-nothing n f i ps qs a c e =
    received-same n f (hears_all ps (new_receiver n)) (hears_all qs (new_receiver n)) (all-received n f i.0 ps (new_receiver n) a (received-new n f))
    (all-received n f i.0 qs (new_receiver n) c (received-new n f)) (sizes n f i.0 ps qs a c e)
    (λ k l. both_false (empty_of (slot_at (hears_all ps (new_receiver n)) k)) (empty_of (slot_at (hears_all qs (new_receiver n)) k))
    (grows n f i.0 ps qs a c e k) (grows n f i.0 qs ps c a (λ p. sym (e p)) k))

slot-holds : SlotHolds
slot-holds n f i ps a k h = go (cases_Bool (is_in (part_payload n f k) ps))
  where
    v : Receiver
    v = hears_all ps (new_receiver n)

    r : Received n f v
    r = all-received n f i.0 ps (new_receiver n) a (received-new n f)

    few : k < 1000
    few = omega (arith, parts-few f i.0)

    unfilled : is_in (part_payload n f k) ps ≡ false → (empty_of (slot_at v k) ≡ true) ⊎ (empty_of (slot_at v k) ≡ false) → empty_of (slot_at v k) ≡ true
    unfilled e (inl o) = o
    unfilled e (inr o) =
        elim (all-only n f i.0 ps (new_receiver n) a (received-new n f) k o) [
          | inl x ↦ absurd (both_ways (empty_of (slot_at (new_receiver n) k)) x (new-empty n f i.0 k))
          | inr x ↦ absurd (both_ways (is_in (part_payload n f k) ps) e (is_true (is_in (part_payload n f k) ps) x.1))
        ]

    go :
        (is_in (part_payload n f k) ps ≡ true) ⊎ (is_in (part_payload n f k) ps ≡ false) →
        slot_at v k ≡ cond (is_in (part_payload n f k) ps) (Have (part f k)) Missing
    go (inl e) =
        slots_same f k (slot_at v k) (Have (part f k)) (r.right k few) refl
        (all-brings n f i.0 ps (new_receiver n) a (received-new n f) k h (holds (is_in (part_payload n f k) ps) e)) ∙
        sym (cond-true (is_in (part_payload n f k) ps) (Have (part f k)) Missing e)
    go (inr e) =
        slots_same f k (slot_at v k) Missing (r.right k few) tt (unfilled e (cases_Bool (empty_of (slot_at v k)))) ∙
        sym (cond-false (is_in (part_payload n f k) ps) (Have (part f k)) Missing e)

all-is-enough : AllIsEnough
all-is-enough n f i ps a t h = (holds _ (all-complete f v all), all-handed n f v i.0 r all)
  where
    v : Receiver
    v = hears_all ps (new_receiver n)

    r : Received n f v
    r = all-received n f i.0 ps (new_receiver n) a (received-new n f)

    all : AllThere f v
    all =
        record {
          size = all_end n f i.0 ps (new_receiver n) a (received-new n f) t;
          full = λ k l. all-brings n f i.0 ps (new_receiver n) a (received-new n f) k l (h k l);
        }

complete-for-good : CompleteForGood
complete-for-good n f i ps qs a c t = (holds _ (all-complete f u all), all-handed n f u i.0 (all-received n f i.0 qs v c r) all)
  where
    v : Receiver
    v = hears_all ps (new_receiver n)

    u : Receiver
    u = hears_all qs v

    r : Received n f v
    r = all-received n f i.0 ps (new_receiver n) a (received-new n f)

    whole : AllThere f v
    whole = complete-all n f v r t

    all : AllThere f u
    all =
        record { size = all-keeps-size n f i.0 qs v c r whole.size; full = λ k l. all-keeps n f i.0 qs v c r k (whole.full k l) }

pub hearing-laws : HearingLaws
hearing-laws =
    record {
      twice = twice-is-once;
      order = order-is-nothing;
      slots = slot-holds;
      enough = all-is-enough;
      stays = complete-for-good;
      kept = filled-stays;
      fit = λ f i. parts-few f i.0;
      looked = λ p q a. (told-alike p q a, hears-alike p q a);
    }
