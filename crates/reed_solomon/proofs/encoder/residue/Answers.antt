-- The sum of what the encoder gives and of what stands there is the residue. Assumes nothing.
use Rattle.std.proofs.Common.{◌≡◌, ℕ, List, take, drop, get_or, ap, ◌∙◌, arith, length-drop}
use lib.Bits.{bit_xor}
use Rattle.std.proofs.lemmas.List.{take_all, get_or-drop}
use Rattle.rs_theory.proofs.Residue.{residue-places}
use Rattle.reed_solomon.proofs.encoder.residue.Goals as goal

pub returns : goal.returns
returns c =
    let last : List ℕ = drop 223 c.args.bytes.now in
    let all : take 32 last ≡ last = take_all 32 last (omega (arith, length-drop 223 c.args.bytes.now)) in
    residue-places c.args.bytes.now c.divided-rest.result c.add.new.sum c.told-bytes c.fits-bytes c.divided-rest.ensures
    (λ k h. c.add.ensures k ∙ ap (λ (l : List ℕ). bit_xor (get_or c.divided-rest.result k 0) (get_or l k 0)) all ∙ ap (bit_xor (get_or c.divided-rest.result k 0)) (get_or-drop 223 c.args.bytes.now k 0))
    c.add.array_long
