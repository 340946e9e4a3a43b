use Rattle.std.proofs.Common.{◌≡◌, ◌+◌, suc, sym, ◌∙◌, ap, Some, List, ℕ, arith}
use Rattle.mh_tables_core.specs.Halting.{look_list, beginning}
use Rattle.mh_tables_core.proofs.Reductions.{reductions_none, reductions_more}
use Rattle.mh_tables.proofs.relative_runs.reduced_within.Goals as goal

pub tries-init : goal.tries-init
tries-init c = record {
  made = reductions_none c.args.table.now (look_list c.args.look) (beginning c.args.below c.args.state) ∙ ap (λ (l : List ℕ). Some l) (sym c.in_ok-begin.ensures.stack);
  begun = c.in_ok-begin.ensures.begun;
  known = c.in_ok-begin.ensures.known;
}

pub tries-preserved : goal.tries-preserved
tries-preserved c = record {
  made = (
      let e : c.tries.count + 1 ≡ suc c.tries.count = omega arith in
      rw e (reductions_more c.args.table.now (look_list c.args.look) (beginning c.args.below c.args.state) c.tries.stack.items c.reduce_once.new.stack.items c.tries.count c.tries.invariant.made
      (rw c.if-not-branch.false at c.in_ok-reduce_once.ensures.ok)));
  begun = c.in_ok-reduce_once.ensures.begun;
  known = c.in_ok-reduce_once.ensures.known;
}

pub returns-then-not-branch-clause-value : goal.returns-then-not-branch-clause-value
returns-then-not-branch-clause-value c =
    let made = rw c.if-not-branch.true at c.in_ok-reduce_once.ensures.ok in
    let few = c.tries-test.true in
    record { few = omega (arith, few); stack_is = rw made.1 c.tries.invariant.made; stops = rw made.1 made.0 }

pub returns-clause-value : goal.returns-clause-value
returns-clause-value c =
    let end = c.tries.auto.count-end in
    let e : suc c.args.most ≡ c.tries.count = omega (arith, c.tries-test.false, end) in
    rw e c.tries.invariant.made
