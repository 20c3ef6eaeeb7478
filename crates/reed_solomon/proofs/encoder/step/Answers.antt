-- The register without its first place, and the multiple of the generator. Assumes nothing.
use Rattle.std.proofs.Common.{◌≡◌, ℕ, List, take, drop, get_or, ap, ◌∙◌, arith, length-drop}
use lib.Bits.{bit_xor}
use Rattle.std.proofs.lemmas.List.{take_all}
use Rattle.rs_theory.proofs.Register.{step-is}
use Rattle.reed_solomon.proofs.encoder.step.Goals as goal

pub returns : goal.returns
returns c =
    let rs : List ℕ = drop 1 c.args.register.now in
    let all : take 31 rs ≡ rs = take_all 31 rs (omega (arith, length-drop 1 c.args.register.now)) in
    step-is _ c.multiple-next.result rs c.add.new.sum c.multiple-next.ensures c.add.array_long
    (λ k h. c.add.ensures k ∙ ap (λ (l : List ℕ). bit_xor (get_or c.multiple-next.result k 0) (get_or l k 0)) all)
