use Rattle.std.proofs.Common.{◌<◌, ◌≤◌, refl, ap, ◌∙◌, ◌++◌, ◌∷◌, [], arith, length}
use Rattle.std.specs.Global.{Vec}
use Rattle.mh_grammar.specs.Plain.{production_count}
use Rattle.mh_facts.proofs.QueueRows.{adds_to_row}
use Rattle.mh_facts.proofs.IsByLeftSide.{IsByLeftSideBelow-step, known_left}
use Rattle.mh_facts.proofs.left_sides.by_left_side.Goals as goal

pub index_mut-requires : goal.index_mut-requires
index_mut-requires c =
    let p = c.loop-production.production in
    let ordinary : length c.args.table.now.grammar.starts ≤ p = (let a = c.starts-production.ensures in let b = c.loop-production.auto.production in omega arith) in
    let known : p < production_count c.args.table.now.grammar = (let a = c.productions-production-end.ensures in let b = c.loop-production-test.true in omega arith) in
    let l = known_left c.args.table.now c.facts.ensures p ordinary known in
    let e = c.lhs_of.ensures in
    let r = c.loop-production.invariant.rows in
    omega (arith, l, e, r)

pub loop-production-preserved : goal.loop-production-preserved
loop-production-preserved c =
    let p = c.loop-production.production in
    let ordinary : length c.args.table.now.grammar.starts ≤ p = (let a = c.starts-production.ensures in let b = c.loop-production.auto.production in omega arith) in
    let known : p < production_count c.args.table.now.grammar = (let a = c.productions-production-end.ensures in let b = c.loop-production-test.true in omega arith) in
    let l = known_left c.args.table.now c.facts.ensures p ordinary known in
    let e = c.lhs_of.ensures in
    let r = c.loop-production.invariant.rows in
    let lt : c.lhs_of.result < length c.loop-production.left.rows.items = omega (arith, l, e, r) in
    IsByLeftSideBelow-step c.args.table.now p c.loop-production.left _ ordinary known c.loop-production.invariant
    (rw (← e) (adds_to_row c.loop-production.left.rows.items _ c.lhs_of.result _ c.push.new.self lt refl p (c.in_ok-push.ensures.items ∙ ap (λ (v : Vec _). v.items ++ p ∷ []) c.index_mut.ensures.value)))
