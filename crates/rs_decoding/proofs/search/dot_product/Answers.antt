use Rattle.std.proofs.Common.{◌≡◌, ℕ, ◌-◌, List, rules, ap, ◌∙◌, take, drop, fold, zip, arith, length-drop}
use Rattle.std.proofs.lemmas.Iterator.{YieldsList-from_zip, YieldsList-from_slice}
use Rattle.std.proofs.lemmas.Iterator.Consumers.{fold_from_yields_List}
use Rattle.std.proofs.lemmas.List.{take_all}
use Rattle.gf256.proofs.Ring.{◌⊕◌, ◌⊙◌, ⊕-zero-l}
use Rattle.rs_decoding.specs.Decoding.{dot}
use Rattle.rs_decoding.proofs.Steps.{dot-fold}
use Rattle.rs_decoding.proofs.search.dot_product.Goals as goal

pub returns : goal.returns
returns c =
    let v : List ℕ = c.args.vector.now in
    let w : List ℕ = take (32 - c.args.i) (drop c.args.i c.args.s.now) in
    let e : c.fold.result ≡ fold (λ (sum : ℕ) (p : ℕ × ℕ). sum ⊕ (p.0 ⊙ p.1)) 0 (zip v w) =
    fold_from_yields_List _ (λ (sum : ℕ) (p : ℕ × ℕ). sum ⊕ (p.0 ⊙ p.1)) 0 c.fold.result c.fold.ensures.ran (YieldsList-from_zip (YieldsList-from_slice v (cc)) (YieldsList-from_slice w (cc)))
    (λ a x b q k. search rules) in
    e
    ∙ dot-fold 0 v w
    ∙ ⊕-zero-l (dot v w)
    ∙ ap (dot v) (take_all (32 - c.args.i) (drop c.args.i c.args.s.now) (omega (arith, length-drop c.args.i c.args.s.now)))
