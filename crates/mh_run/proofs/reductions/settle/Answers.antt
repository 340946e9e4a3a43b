use Rattle.std.proofs.Common.{◌≡◌, ◌≤◌, ◌+◌, suc, sym, arith}
use Rattle.mh_tables_core.specs.Run.{run_move_of, top_of, Reduces}
use Rattle.mh_tables_core.specs.Halting.{look_list}
use Rattle.mh_run.proofs.Progress.{progress_from, progress_above, progress_to, progress_few, reduced_has_two}
use Rattle.mh_run.proofs.reductions.settle.Goals as goal

pub reductions-init : goal.reductions-init
reductions-init g c = progress_from g.F.RunObserver.following c.args.table.now c.args.look c.args.stack.now.items c.args.follower.now c.saturating_sub-floor.result c.requires.run (omega arith)

pub overflow_add-count : goal.overflow_add-count
overflow_add-count g c =
    let few = progress_few g.F.RunObserver.following c.args.table.now c.args.look c.args.stack.now.items c.args.follower.now c.table-rows.ensures.facts c.requires.look _ _ _ _ c.reductions.invariant in omega arith

pub reductions-preserved-then-floor-len : goal.reductions-preserved-then-floor-len
reductions-preserved-then-floor-len g c =
    let m : run_move_of c.args.table.now (top_of c.reductions.stack.items) (look_list c.args.look) ≡ Reduces c.in-Reduce.production = rw c.deref.ensures.value at (sym c.in-Reduce.ensures) in
    let e : c.reductions.count + 1 ≡ suc c.reductions.count = omega arith in
    rw (e, c.in_ok-observe_next-in-Reduce.ensures)
    (progress_above g.F.RunObserver.following c.args.table.now c.args.look c.args.stack.now.items c.args.follower.now c.reductions.stack.items c.reductions.follower c.reductions.floor c.reductions.count c.in-Reduce.production c.reductions.invariant m
    c.reduce_next.new.stack.items c.in_ok-reduce_next-in-Reduce.ensures.ok (omega arith))

pub reductions-preserved : goal.reductions-preserved
reductions-preserved g c =
    let m : run_move_of c.args.table.now (top_of c.reductions.stack.items) (look_list c.args.look) ≡ Reduces c.in-Reduce.production = rw c.deref.ensures.value at (sym c.in-Reduce.ensures) in
    rw c.in_ok-observe_next-in-Reduce.ensures
    (progress_to g.F.RunObserver.following c.args.table.now c.args.look c.args.stack.now.items c.args.follower.now c.reductions.stack.items c.reductions.follower c.reductions.floor c.reductions.count c.in-Reduce.production c.reductions.invariant m
    c.reduce_next.new.stack.items c.saturating_sub-floor-else-floor-len.result c.in_ok-reduce_next-in-Reduce.ensures.ok (omega arith))

pub reductions-smaller-then-floor-len : goal.reductions-smaller-then-floor-len
reductions-smaller-then-floor-len g c =
    let m : run_move_of c.args.table.now (top_of c.reductions.stack.items) (look_list c.args.look) ≡ Reduces c.in-Reduce.production = rw c.deref.ensures.value at (sym c.in-Reduce.ensures) in
    let next =
    progress_above g.F.RunObserver.following c.args.table.now c.args.look c.args.stack.now.items c.args.follower.now c.reductions.stack.items c.reductions.follower c.reductions.floor c.reductions.count c.in-Reduce.production c.reductions.invariant m
    c.reduce_next.new.stack.items c.in_ok-reduce_next-in-Reduce.ensures.ok (omega arith) in
    let few : suc c.reductions.count ≤ 10000 = progress_few g.F.RunObserver.following c.args.table.now c.args.look c.args.stack.now.items c.args.follower.now c.table-rows.ensures.facts c.requires.look _ _ _ _ next in
    omega arith

pub reductions-smaller : goal.reductions-smaller
reductions-smaller g c =
    let few : c.reductions.count ≤ 10000 = progress_few g.F.RunObserver.following c.args.table.now c.args.look c.args.stack.now.items c.args.follower.now c.table-rows.ensures.facts c.requires.look _ _ _ _ c.reductions.invariant in
    let two = reduced_has_two c.args.table.now c.in-Reduce.production c.reductions.stack.items c.reduce_next.new.stack.items c.in_ok-reduce_next-in-Reduce.ensures.ok in
    omega arith
