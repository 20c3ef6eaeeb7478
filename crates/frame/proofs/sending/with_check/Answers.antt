-- The two bytes behind the payload are the check's.
use Rattle.std.proofs.Common.{◌≡◌, ℕ, ◌/◌, ◌%◌, ◌<◌, List, [], ◌∷◌, ◌++◌, length, drop, ap, ◌∙◌, arith}
use Rattle.std.proofs.lemmas.List.{take_at, drop_at}
use borrow.Rule.Slice.PartMut.{put_mid, post_of}
use Rattle.frame.proofs.sending.with_check.Goals as goal

behind : (p ys : List ℕ) (n : ℕ) → length p ≡ 221 → n < 65536 → ys ≡ n / 256 % 256 ∷ n % 256 ∷ [] → put_mid 221 2 (p ++ 0 ∷ 0 ∷ []) ys ≡ p ++ n / 256 ∷ n % 256 ∷ []
behind p ys n l h e =
    ap (λ (xs : List ℕ). xs ++ (ys ++ post_of 221 2 (p ++ 0 ∷ 0 ∷ []))) (take_at p (0 ∷ 0 ∷ []) 221 l)
    ∙ ap (λ (xs : List ℕ). p ++ (ys ++ drop 2 xs)) (drop_at p (0 ∷ 0 ∷ []) 221 l)
    ∙ ap (λ (xs : List ℕ). p ++ (xs ++ [])) e
    ∙ ap (λ (high : ℕ). p ++ high ∷ n % 256 ∷ []) (let z : n / 256 % 256 ≡ n / 256 = omega arith in z)

pub returns : goal.returns
returns c =
    behind c.copy_from_slice.new.self c.copy_from_slice-2.new.self c.crc16.result c.copy_from_slice.ensures.len c.crc16.type_inv (c.copy_from_slice-2.ensures.after ∙ c.to_be_bytes.ensures)
    ∙ ap (λ (p : List ℕ). p ++ c.crc16.result / 256 ∷ c.crc16.result % 256 ∷ []) c.copy_from_slice.ensures.after
    ∙ ap (λ (n : ℕ). c.args.payload.now ++ n / 256 ∷ n % 256 ∷ []) c.crc16.ensures
