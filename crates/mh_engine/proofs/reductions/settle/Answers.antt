use Rattle.std.proofs.Common.{◌≡◌, ◌+◌, ◌-◌, ◌<◌, ◌≤◌, length, sym, ◌∙◌, ap, arith}
use Rattle.mh_engine.proofs.SettleLoop.{SettleInvariant, SettleInvariant-start, SettleInvariant-few, progress_above, progress_below, some_tree, settles_deep}
use Rattle.mh_engine.proofs.reductions.settle.Goals as goal

pub reductions-init : goal.reductions-init
reductions-init c = SettleInvariant-start c.args.from c.saturating_sub-floor.result c.facts.ensures (omega (arith, c.saturating_sub-floor.ensures, c.depth.ensures))

pub returns-in-Err-clause-deep : goal.returns-in-Err-clause-deep
returns-in-Err-clause-deep c =
    λ e. settles_deep c.args.from c.reductions.at c.reductions.floor c.reductions.count c.in-AboutToReduce.state c.in-AboutToReduce.production c.reductions.invariant (sym c.in-AboutToReduce.ensures) (c.in-Err.ensures.deep e)

pub overflow_add-count : goal.overflow_add-count
overflow_add-count c = let few = SettleInvariant-few c.args.from c.reductions.at c.reductions.floor c.reductions.count c.reductions.invariant in omega arith

pub reductions-smaller-then-floor-depth : goal.reductions-smaller-then-floor-depth
reductions-smaller-then-floor-depth c =
    let next =
    progress_above c.args.from c.reductions.at c.in-Ok.next c.reductions.floor c.reductions.count c.in-AboutToReduce.state c.in-AboutToReduce.production c.reductions.invariant (sym c.in-AboutToReduce.ensures) c.in-Ok.ensures.value c.in-Ok.ensures.fits
    c.facts-in-AboutToReduce.ensures (omega (arith, c.if-floor-depth.true, c.depth-depth.ensures)) in
    let few : c.reductions.count + 1 ≤ 10000 = SettleInvariant-few c.args.from c.in-Ok.next c.reductions.floor (c.reductions.count + 1) next in
    omega arith

pub reductions-preserved-then-floor-depth : goal.reductions-preserved-then-floor-depth
reductions-preserved-then-floor-depth c =
    progress_above c.args.from c.reductions.at c.in-Ok.next c.reductions.floor c.reductions.count c.in-AboutToReduce.state c.in-AboutToReduce.production c.reductions.invariant (sym c.in-AboutToReduce.ensures) c.in-Ok.ensures.value c.in-Ok.ensures.fits
    c.facts-in-AboutToReduce.ensures (omega (arith, c.if-floor-depth.true, c.depth-depth.ensures))

pub reductions-smaller : goal.reductions-smaller
reductions-smaller c =
    let few : c.reductions.count ≤ 10000 = SettleInvariant-few c.args.from c.reductions.at c.reductions.floor c.reductions.count c.reductions.invariant in
    let tree =
    some_tree c.args.from c.reductions.at c.in-Ok.next c.reductions.floor c.reductions.count c.in-AboutToReduce.state c.in-AboutToReduce.production c.reductions.invariant (sym c.in-AboutToReduce.ensures) c.in-Ok.ensures.value c.in-Ok.ensures.fits
    c.facts-in-AboutToReduce.ensures in
    omega (arith, c.if-floor-depth.false, c.depth-depth.ensures, c.saturating_sub-floor-else-floor-depth.ensures)

pub reductions-preserved : goal.reductions-preserved
reductions-preserved c =
    progress_below c.args.from c.reductions.at c.in-Ok.next c.reductions.floor c.reductions.count c.in-AboutToReduce.state c.in-AboutToReduce.production c.reductions.invariant (sym c.in-AboutToReduce.ensures) c.in-Ok.ensures.value c.in-Ok.ensures.fits
    c.facts-in-AboutToReduce.ensures c.saturating_sub-floor-else-floor-depth.result (omega (arith, c.depth-depth.ensures, c.saturating_sub-floor-else-floor-depth.ensures))
