use Rattle.std.proofs.Common.{sym, ◌∙◌}
use Rattle.std.proofs.lemmas.List.{take_all}
use Rattle.mh_resolve_settle.proofs.IsErrorReduction.{ranked_more, ranked_same, IsErrorReduction-untied, no_errors, none_ranked}
use Rattle.mh_resolve_settle.proofs.errors.on_error_production.Goals as goal
use Rattle.mh_resolve_settle.proofs.errors.on_error_production.Goals.{in-Some, in_default}

pub loop-item-preserved : goal.loop-item-preserved
loop-item-preserved g c =
    let h = c.loop-item-test.true in
    elim c.match-rank_of_item.branch [
      | in-Some w ↦ rw w.best-is (ranked_more c.args.grammar.now c.args.items.now c.loop-item.item-index c.item-item.result w.in-Some.rank c.loop-item.best w.better.result h c.item-item.is (sym c.rank_of_item.ensures ∙ w.in-Some.is) w.better.ensures c.loop-item.invariant)
      | in_default w ↦ rw w.best-is (ranked_same c.args.grammar.now c.args.items.now c.loop-item.item-index c.item-item.result c.loop-item.best h c.item-item.is (sym c.rank_of_item.ensures ∙ w.in_default.is) c.loop-item.invariant)
    ]

pub returns-then-found : goal.returns-then-found
returns-then-found g c =
    let whole = take_all c.loop-item.item-index c.args.items.now c.loop-item-test.false in
    let b = rw (whole, c.in-Some-best.is) at c.loop-item.invariant in
    no_errors c.args.grammar.now c.args.items.now c.requires.items c.in-Some-best.found c.if-found.true b

pub returns-else-found : goal.returns-else-found
returns-else-found g c =
    let whole = take_all c.loop-item.item-index c.args.items.now c.loop-item-test.false in
    let b = rw (whole, c.in-Some-best.is) at c.loop-item.invariant in
    IsErrorReduction-untied c.args.grammar.now c.args.items.now c.requires.items c.in-Some-best.found c.if-found.false b

pub returns-in-None : goal.returns-in-None
returns-in-None g c =
    let whole = take_all c.loop-item.item-index c.args.items.now c.loop-item-test.false in
    let b = rw (whole, c.in-None.is) at c.loop-item.invariant in
    none_ranked c.args.grammar.now c.args.items.now b
