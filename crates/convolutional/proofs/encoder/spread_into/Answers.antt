-- One bit further, one of the zeros further, and the end.
use Rattle.std.proofs.Common.{ℕ, ◌+◌, List, ◌++◌, sym, refl, subst, arith}
use Rattle.std.proofs.lemmas.List.{length-append, get_or_append_left}
use Rattle.bits.specs.Lists.{zeros}
use Rattle.bits.proofs.Tests.{length-zeros}
use Rattle.convolutional.proofs.Encoding.{zero-behind, bit-within, Written, written_step, written_all}
use Rattle.convolutional.proofs.encoder.spread_into.Goals as goal

pub put_pair-state-requires-clause-binary : goal.put_pair-state-requires-clause-binary
put_pair-state-requires-clause-binary c = bit-within c.args.bits.now c.loop-i.i c.requires.binary

pub loop-i-preserved : goal.loop-i-preserved
loop-i-preserved c =
    let full = c.args.bits.now ++ zeros 6 in
    let l = length-append c.args.bits.now (zeros 6) in
    let z = length-zeros 6 in
    let b = get_or_append_left c.args.bits.now (zeros 6) 0 c.loop-i.i c.loop-i-test.true in (
      c.put_pair-state.ensures.small,
      subst (λ (u : List ℕ). Written full u (c.loop-i.i + 1) c.put_pair-state.result) (sym c.put_pair-state.ensures.written)
          (written_step full c.loop-i.out c.loop-i.i c.loop-i.state _ _ _ _ (omega arith) (omega (arith, l, z)) b refl refl c.put_pair-state.ensures.next c.loop-i.invariant.1),
    )

pub put_pair-state-requires-in-loop-i-2-clause-known : goal.put_pair-state-requires-in-loop-i-2-clause-known
put_pair-state-requires-in-loop-i-2-clause-known c = c.loop-i-2.invariant.0

pub loop-i-2-preserved : goal.loop-i-2-preserved
loop-i-2-preserved c =
    let full = c.args.bits.now ++ zeros 6 in
    let l = length-append c.args.bits.now (zeros 6) in
    let z = length-zeros 6 in
    let b = zero-behind c.args.bits.now c.loop-i-2.i c.loop-i-2.auto.i in (
      c.put_pair-state-in-loop-i-2.ensures.small,
      subst (λ (u : List ℕ). Written full u (c.loop-i-2.i + 1) c.put_pair-state-in-loop-i-2.result) (sym c.put_pair-state-in-loop-i-2.ensures.written)
          (written_step full c.loop-i-2.out c.loop-i-2.i c.loop-i-2.state _ _ _ _ (omega arith) (omega (arith, l, z)) b refl refl c.put_pair-state-in-loop-i-2.ensures.next c.loop-i-2.invariant.1),
    )

pub returns : goal.returns
returns c =
    let l = length-append c.args.bits.now (zeros 6) in
    let z = length-zeros 6 in
    written_all (c.args.bits.now ++ zeros 6) c.loop-i-2.out c.loop-i-2.i c.loop-i-2.state (omega arith) (omega (arith, l, z)) c.loop-i-2.invariant.1
