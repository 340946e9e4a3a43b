use Rattle.std.proofs.Common.{refl, sym, ◌∙◌, None, Some, ap, List, ℕ, ◌∷◌, [], ◌++◌}
use Rattle.mh_tables_core.specs.Halting.{look_list}
use Rattle.mh_tables.proofs.ReducedWithin.{no_reduction, by_reduce}
use Rattle.mh_tables.proofs.relative_runs.reduce_once.Goals as goal

pub returns-in-None-clause-ok : goal.returns-in-None-clause-ok
returns-in-None-clause-ok c = (no_reduction c.args.table.now (look_list c.args.look) c.args.stack.now.items (rw c.deref.ensures.value at c.in-None.ensures), refl)

pub returns-in-None-stack_reduced-clause-ok : goal.returns-in-None-stack_reduced-clause-ok
returns-in-None-stack_reduced-clause-ok c = (
  by_reduce c.args.table.now (look_list c.args.look) c.args.stack.now.items c.in-Some.production None (rw c.deref.ensures.value at c.in-Some.ensures.0)
      (rw c.deref-in-Some.ensures.value at c.in-None-stack_reduced.ensures),
  refl,
)

pub returns-in_ok-push-in-Some-stack_reduced-clause-ok : goal.returns-in_ok-push-in-Some-stack_reduced-clause-ok
returns-in_ok-push-in-Some-stack_reduced-clause-ok c =
    by_reduce c.args.table.now (look_list c.args.look) c.args.stack.now.items c.in-Some.production (Some c.push.new.self.items) (rw c.deref.ensures.value at c.in-Some.ensures.0)
    (let is = rw c.deref-in-Some.ensures.value at (c.in-Some-stack_reduced.ensures.is) in
    is ∙ ap (λ (l : List ℕ). Some l) (sym (c.in_ok-push-in-Some-stack_reduced.ensures.items ∙ ap (λ (l : List ℕ). l ++ c.in-Some-stack_reduced.target ∷ []) c.truncate.ensures.items)))
