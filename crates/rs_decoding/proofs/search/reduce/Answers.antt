use Rattle.std.proofs.Common.{ℕ, ◌+◌, ◌<◌, List, None, sym, ◌∙◌, subst, arith}
use Rattle.std.proofs.lemmas.List.{get_or-take, length-take-le}
use Rattle.rs_decoding.specs.Search.{Reduced, pivot_count}
use Rattle.rs_decoding.proofs.Bytes.{bytes-all}
use Rattle.rs_decoding.proofs.Reduce.{reduced-more, reduced-by}
use Rattle.rs_decoding.proofs.search.reduce.Goals as goal
use Rattle.rs_decoding.proofs.search.reduce.Goals.{then-d-ne0+in-Some, else-d-ne0}

pub loop-i-init : goal.loop-i-init
loop-i-init c =
    record { topped = c.requires.topped; clear = λ q h. absurd (omega arith); wide = c.told-vector; bytes = bytes-all c.args.vector.now (λ i h. c.fits-vector i) }

pub loop-i-preserved : goal.loop-i-preserved
loop-i-preserved c =
    let i : ℕ = c.loop-i.i in
    let s : List ℕ = c.args.s.now in
    let k : ℕ = pivot_count c.args.pivots.now in
    let row : i < c.args.rows = omega (arith, length-take-le c.args.rows c.args.pivots.now (omega arith)) in
    let P : List ℕ → Type 0 = λ u. Reduced (i + 1) k s u in
    elim c.if-d-ne0.branch [
      | then-d-ne0+in-Some w ↦
          let here = sym (get_or-take c.args.rows c.args.pivots.now i None row) ∙ w.in-Some.is in
          subst P (sym w.vector-is)
          (reduced-by i k s c.loop-i.vector w.add_multiple.new.vector w.in-Some.p c.dot_product-d.result w.quotient.result (c.requires.pivots.each i w.in-Some.p here)
          c.dot_product-d.ensures w.quotient.ensures w.add_multiple.ensures c.loop-i.invariant)
      | else-d-ne0 w ↦ subst P (sym w.vector-is) (reduced-more i k s c.loop-i.vector c.loop-i.invariant (sym c.dot_product-d.ensures ∙ w.if-d-ne0.false))
    ]
