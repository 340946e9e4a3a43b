use Rattle.std.proofs.Common.{◌≡◌, ◌≤◌, ◌+◌, ◌-◌, Some, suc, length, refl, sym, ◌∙◌, arith}
use Rattle.mh_tables_core.specs.Run.{run_move_of, top_of, reduce, Reduces}
use Rattle.mh_tables_core.specs.Halting.{look_list}
use Rattle.mh_tables_core.proofs.IsPath.{IsRunStack-in_range}
use Rattle.mh_tables_core.proofs.Reductions.{reduces_from_move}
use Rattle.mh_run.proofs.ReductionsOfRun.{can_reduce}
use Rattle.mh_run.proofs.Progress.{progress_from, progress_above, progress_to, progress_few, reduced_has_two}
use Rattle.mh_expected.specs.code.Trials.{null_observer}
use Rattle.mh_expected.proofs.settle.settle.Goals as goal

pub reductions-init : goal.reductions-init
reductions-init c = (progress_from null_observer c.args.table.now c.args.look c.args.stack.now.stack tt c.saturating_sub-floor.result c.requires.run (omega arith), refl)

pub choose-requires-clause-state : goal.choose-requires-clause-state
choose-requires-clause-state c =
    let run = c.reductions.invariant.0.run in
    let begun = run.path.not_empty in
    rw (c.table.ensures.table, c.top.ensures) (IsRunStack-in_range c.args.table.now c.table-rows.ensures.facts.facts c.reductions.stack.stack run (length c.reductions.stack.stack - 1) (omega arith))

pub reduce-requires : goal.reduce-requires
reduce-requires c =
    let m : run_move_of c.args.table.now (top_of c.reductions.stack.stack) (look_list c.args.look) ≡ Reduces c.in-Reduce.production = rw (c.table.ensures.table, c.top.ensures) at (sym c.in-Reduce.ensures) in
    rw c.table-in-Reduce.ensures.table
    (can_reduce c.args.table.now c.table-rows.ensures.facts.facts c.reductions.stack.stack c.reductions.invariant.0.run c.in-Reduce.production
    (reduces_from_move c.args.table.now (top_of c.reductions.stack.stack) (look_list c.args.look) c.in-Reduce.production m))

pub overflow_add-count : goal.overflow_add-count
overflow_add-count c =
    let few = progress_few null_observer c.args.table.now c.args.look c.args.stack.now.stack tt c.table-rows.ensures.facts c.requires.look _ _ _ _ c.reductions.invariant.0 in omega arith

pub reductions-preserved-then-floor-depth : goal.reductions-preserved-then-floor-depth
reductions-preserved-then-floor-depth c =
    let m : run_move_of c.args.table.now (top_of c.reductions.stack.stack) (look_list c.args.look) ≡ Reduces c.in-Reduce.production = rw (c.table.ensures.table, c.top.ensures) at (sym c.in-Reduce.ensures) in
    let is : reduce c.args.table.now c.in-Reduce.production c.reductions.stack.stack ≡ Some c.reduce.new.stack.stack = rw c.table-in-Reduce.ensures.table at c.in_ok-reduce-in-Reduce.ensures.ok in
    let e : c.reductions.count + 1 ≡ suc c.reductions.count = omega arith in (
      rw e
          (progress_above null_observer c.args.table.now c.args.look c.args.stack.now.stack tt c.reductions.stack.stack tt c.reductions.floor c.reductions.count c.in-Reduce.production c.reductions.invariant.0 m
          c.reduce.new.stack.stack is (omega arith)),
      c.in_ok-reduce-in-Reduce.ensures.base ∙ c.reductions.invariant.1,
    )

pub reductions-preserved : goal.reductions-preserved
reductions-preserved c =
    let m : run_move_of c.args.table.now (top_of c.reductions.stack.stack) (look_list c.args.look) ≡ Reduces c.in-Reduce.production = rw (c.table.ensures.table, c.top.ensures) at (sym c.in-Reduce.ensures) in
    let is : reduce c.args.table.now c.in-Reduce.production c.reductions.stack.stack ≡ Some c.reduce.new.stack.stack = rw c.table-in-Reduce.ensures.table at c.in_ok-reduce-in-Reduce.ensures.ok in (
      progress_to null_observer c.args.table.now c.args.look c.args.stack.now.stack tt c.reductions.stack.stack tt c.reductions.floor c.reductions.count c.in-Reduce.production c.reductions.invariant.0 m
          c.reduce.new.stack.stack c.saturating_sub-floor-else-floor-depth.result is (omega arith),
      c.in_ok-reduce-in-Reduce.ensures.base ∙ c.reductions.invariant.1,
    )

pub reductions-smaller-then-floor-depth : goal.reductions-smaller-then-floor-depth
reductions-smaller-then-floor-depth c =
    let m : run_move_of c.args.table.now (top_of c.reductions.stack.stack) (look_list c.args.look) ≡ Reduces c.in-Reduce.production = rw (c.table.ensures.table, c.top.ensures) at (sym c.in-Reduce.ensures) in
    let is : reduce c.args.table.now c.in-Reduce.production c.reductions.stack.stack ≡ Some c.reduce.new.stack.stack = rw c.table-in-Reduce.ensures.table at c.in_ok-reduce-in-Reduce.ensures.ok in
    let next =
    progress_above null_observer c.args.table.now c.args.look c.args.stack.now.stack tt c.reductions.stack.stack tt c.reductions.floor c.reductions.count c.in-Reduce.production c.reductions.invariant.0 m
    c.reduce.new.stack.stack is (omega arith) in
    let few : suc c.reductions.count ≤ 10000 = progress_few null_observer c.args.table.now c.args.look c.args.stack.now.stack tt c.table-rows.ensures.facts c.requires.look _ _ _ _ next in
    omega arith

pub reductions-smaller : goal.reductions-smaller
reductions-smaller c =
    let is : reduce c.args.table.now c.in-Reduce.production c.reductions.stack.stack ≡ Some c.reduce.new.stack.stack = rw c.table-in-Reduce.ensures.table at c.in_ok-reduce-in-Reduce.ensures.ok in
    let few : c.reductions.count ≤ 10000 = progress_few null_observer c.args.table.now c.args.look c.args.stack.now.stack tt c.table-rows.ensures.facts c.requires.look _ _ _ _ c.reductions.invariant.0 in
    let two = reduced_has_two c.args.table.now c.in-Reduce.production c.reductions.stack.stack c.reduce.new.stack.stack is in
    omega arith
