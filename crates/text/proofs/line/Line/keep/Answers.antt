-- The bytes that there is room for stand behind those that were there.
use Rattle.std.proofs.Common.{◌≡◌, ℕ, ◌+◌, ◌-◌, List, ◌++◌, length, take, ap, ◌∙◌, arith}
use Rattle.std.proofs.lemmas.List.{length-take-le}
use Rattle.std.proofs.lemmas.Slice.{take-put_mid}
use Rattle.text.specs.Input.{kept}
use Rattle.text.proofs.Chunks.{kept_more}
use Rattle.text.proofs.Held.{filled_more}
use Rattle.text.proofs.line.Line.keep.Goals as goal

pub invariant_of-self : goal.invariant_of-self
invariant_of-self c =
    let n = c.min-n.result in
    let h = c.self.invariant in
    filled_more c.self.inside.bytes c.copy_from_slice.new.self c.self.inside.count n h (ap (λ (zs : List ℕ). length zs) c.copy_from_slice.ensures.after ∙ length-take-le n c.args.more.now (omega arith)) (omega (arith, h.within))

pub returns : goal.returns
returns c =
    let old = c.self.inside.bytes in
    let count = c.self.inside.count in
    let more = c.args.more.now in
    let n = c.min-n.result in
    let ys = c.copy_from_slice.new.self in
    let h = c.self.invariant in
    let after : ys ≡ take n more = c.copy_from_slice.ensures.after in
    let long : length ys ≡ n = ap (λ (zs : List ℕ). length zs) after ∙ length-take-le n more (omega arith) in
    take-put_mid count ((count + n) - count) old ys (count + n) (omega arith) (omega (arith, h.long, h.within))
    ∙ ap (λ (zs : List ℕ). take count old ++ zs) after
    ∙ kept_more (take count old) more count n (length-take-le count old (omega (arith, h.long, h.within))) h.within c.min-n.ensures
    ∙ ap (λ (zs : List ℕ). kept (zs ++ more)) c.self.view_is
