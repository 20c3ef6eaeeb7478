-- Lists of bytes, entry by entry. Assumes nothing.
use Rattle.std.proofs.Common.{ℕ, zero, suc, ◌<◌, Bool, true, false, ◌&&◌, T, ltb, List, [], ◌∷◌, length, get_or, suc-le-suc, zero-le, lit<, ltb→lt}
use Rattle.std.proofs.lemmas.Bool.{lt-ltb}
use Rattle.bits.specs.Lists.{are_bytes, under}

pub and-fst : (a b : Bool) → T (a && b) → T a
and-fst true b t = tt
and-fst false b t = t

pub and-snd : (a b : Bool) → T (a && b) → T b
and-snd true b t = t
and-snd false b t = absurd t

pub under-head : (x : ℕ) (xs : List ℕ) → T (are_bytes (x ∷ xs)) → x < 256
unfolding under
under-head x xs t = ltb→lt x 256 (and-fst (ltb x 256) (under 256 xs) t)

pub under_tail : (x : ℕ) (xs : List ℕ) → T (are_bytes (x ∷ xs)) → T (are_bytes xs)
unfolding under
under_tail x xs t = and-snd (ltb x 256) (under 256 xs) t

pub under-cons : (x : ℕ) (xs : List ℕ) → x < 256 → T (are_bytes xs) → T (are_bytes (x ∷ xs))
unfolding under
under-cons x xs h t = rw (lt-ltb x 256 h) t

pub bytes-at : (xs : List ℕ) (i : ℕ) → T (are_bytes xs) → get_or xs i 0 < 256
bytes-at [] i t = lit< tt
bytes-at (x ∷ xs) zero t = under-head x xs t
bytes-at (x ∷ xs) (suc i) t = bytes-at xs i (under_tail x xs t)

pub bytes-all : (xs : List ℕ) → ((i : ℕ) → i < length xs → get_or xs i 0 < 256) → T (are_bytes xs)
unfolding under
bytes-all [] f = tt
bytes-all (x ∷ xs) f = under-cons x xs (f zero (suc-le-suc zero-le)) (bytes-all xs (λ i h. f (suc i) (suc-le-suc h)))
