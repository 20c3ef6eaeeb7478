-- One butterfly more, and all 32.
use Rattle.std.proofs.Common.{◌≡◌, ℕ, ◌+◌, ◌*◌, ◌<◌, ◌≤◌, map, get_or, sym, refl, ap, ◌∙◌, arith}
use Rattle.conv_theory.specs.Columns.{cheaper, choice, next_costs, choices}
use Rattle.convolutional.proofs.Butterfly.{first_small_lem, second-small, butterfly, cost-is, choice-is, filled_more, filled_both, filled-all, room}
use Rattle.convolutional.proofs.Pairs.{pair-at}
use Rattle.convolutional.proofs.trellis.column.Goals as goal

pub overflow_sub-j : goal.overflow_sub-j
overflow_sub-j g c = first_small_lem c.loop-j.j (omega (arith, c.loop-j-test.true, c.as_chunks.ensures.front_len, c.told-old))

pub overflow_sub-j-in-loop-j : goal.overflow_sub-j-in-loop-j
overflow_sub-j-in-loop-j g c = second-small c.loop-j.j (omega (arith, c.loop-j-test.true, c.as_chunks.ensures.front_len, c.told-old))

pub loop-j-preserved : goal.loop-j-preserved
loop-j-preserved g c =
    let number = g.N.Sum.number in
    let xs = c.args.old.now in
    let os = map number xs in
    let x = c.args.x in
    let y = c.args.y in
    let j = c.loop-j.j in
    let l = c.told-old in
    let n = c.as_chunks.ensures.front_len in
    let h : j < 32 = omega (arith, c.loop-j-test.true, n, l) in
    let s = number c.from-straight.result in
    let r = number c.from-crossed.result in
    let s-is : s ≡ c.branch_cost.result = g.met.N.Sum.converts _ _ c.from-straight.ensures in
    let r-is : r ≡ c.branch_cost-in-loop-j.result = g.met.N.Sum.converts _ _ c.from-crossed.ensures in
    let b = butterfly os x y j s r h (s-is ∙ c.branch_cost.ensures.is) (r-is ∙ c.branch_cost-in-loop-j.ensures.is) in
    let low : get_or os (2 * j) 0 ≡ number (get_or c.index-pairs-j.result 0 c.index-pairs-0.result) =
    sym (pair-at number xs _ j 0 (2 * j) _ _ _ _ 0 c.as_chunks.ensures.front (omega (arith, h, l)) (omega arith) (omega arith) (omega (arith, h, l)) c.index-pairs-j.is) in
    let high : get_or os (2 * j + 1) 0 ≡ number (get_or c.index-pairs-j.result 1 c.index-pairs-1.result) =
    sym (pair-at number xs _ j 1 (2 * j + 1) _ _ _ _ 0 c.as_chunks.ensures.front (omega (arith, h, l)) (omega arith) (omega arith) (omega (arith, h, l)) c.index-pairs-j.is) in
    let low-0 = b.low-0 ∙ ap (λ (k : ℕ). k + s) low ∙ sym (g.met.N.Sum.adds_up _ _ _ c.add.ensures) in
    let high-0 = b.high-0 ∙ ap (λ (k : ℕ). k + r) high ∙ sym (g.met.N.Sum.adds_up _ _ _ c.add-in-loop-j.ensures) in
    let low-1 = b.low-1 ∙ ap (λ (k : ℕ). k + r) low ∙ sym (g.met.N.Sum.adds_up _ _ _ c.add-in-loop-j-2.ensures) in
    let high-1 = b.high-1 ∙ ap (λ (k : ℕ). k + s) high ∙ sym (g.met.N.Sum.adds_up _ _ _ c.add-in-loop-j-3.ensures) in (
      filled_both number (cheaper os x y) c.loop-j.new j _ _ h c.loop-j.invariant.0
          (cost-is os x y j _ _ _ low-0 high-0 c.select-cost.ensures.cost)
          (cost-is os x y (j + 32) _ _ _ low-1 high-1 c.select-cost-in-loop-j.ensures.cost),
      filled_more (choice os x y) _ j _ _ h c.loop-j.invariant.1
          (choice-is os x y j _ _ _ low-0 high-0 c.select-cost.ensures.decision)
          (choice-is os x y (j + 32) _ _ _ low-1 high-1 c.select-cost-in-loop-j.ensures.decision),
    )

pub add-requires : goal.add-requires
add-requires g c =
    let small : g.N.Sum.number c.from-straight.result ≤ 510 = omega (arith, g.met.N.Sum.converts _ _ c.from-straight.ensures, c.branch_cost.ensures.small) in
    g.met.N.Sum.can_add_up _ _ (room g.N.Sum.number c.args.old.now _ c.loop-j.j 0 _ g.N.Sum.most _ _ _ _ c.told-old c.as_chunks.ensures.front c.as_chunks.ensures.front_len refl c.loop-j-test.true (omega arith) c.index-pairs-j.is c.requires small)

pub add-requires-in-loop-j : goal.add-requires-in-loop-j
add-requires-in-loop-j g c =
    let small : g.N.Sum.number c.from-crossed.result ≤ 510 = omega (arith, g.met.N.Sum.converts _ _ c.from-crossed.ensures, c.branch_cost-in-loop-j.ensures.small) in
    g.met.N.Sum.can_add_up _ _ (room g.N.Sum.number c.args.old.now _ c.loop-j.j 1 _ g.N.Sum.most _ _ _ _ c.told-old c.as_chunks.ensures.front c.as_chunks.ensures.front_len refl c.loop-j-test.true (omega arith) c.index-pairs-j.is c.requires small)

pub add-requires-in-loop-j-2 : goal.add-requires-in-loop-j-2
add-requires-in-loop-j-2 g c =
    let small : g.N.Sum.number c.from-crossed.result ≤ 510 = omega (arith, g.met.N.Sum.converts _ _ c.from-crossed.ensures, c.branch_cost-in-loop-j.ensures.small) in
    g.met.N.Sum.can_add_up _ _ (room g.N.Sum.number c.args.old.now _ c.loop-j.j 0 _ g.N.Sum.most _ _ _ _ c.told-old c.as_chunks.ensures.front c.as_chunks.ensures.front_len refl c.loop-j-test.true (omega arith) c.index-pairs-j.is c.requires small)

pub add-requires-in-loop-j-3 : goal.add-requires-in-loop-j-3
add-requires-in-loop-j-3 g c =
    let small : g.N.Sum.number c.from-straight.result ≤ 510 = omega (arith, g.met.N.Sum.converts _ _ c.from-straight.ensures, c.branch_cost.ensures.small) in
    g.met.N.Sum.can_add_up _ _ (room g.N.Sum.number c.args.old.now _ c.loop-j.j 1 _ g.N.Sum.most _ _ _ _ c.told-old c.as_chunks.ensures.front c.as_chunks.ensures.front_len refl c.loop-j-test.true (omega arith) c.index-pairs-j.is c.requires small)

pub returns : goal.returns
unfolding next_costs choices
returns g c =
    let h : 32 ≤ c.loop-j.j = omega (arith, c.loop-j-test.false, c.as_chunks.ensures.front_len, c.told-old) in
    record {
      costs = filled-all _ _ c.loop-j.j h c.loop-j.invariant.0;
      chosen = filled-all _ _ c.loop-j.j h c.loop-j.invariant.1;
    }
