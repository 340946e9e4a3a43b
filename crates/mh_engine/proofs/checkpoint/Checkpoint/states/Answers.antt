use Rattle.std.proofs.Common.{List, ℕ, ap, subst, sym, ◌∙◌}
use Rattle.std.proofs.lemmas.Result.{IfOk-weaker}
use Rattle.mh_tables_core.specs.Run.{IsRunStack}
use Rattle.mh_tables_core.proofs.TreesMatchStack.{IsRunStack-of_trees}
use Rattle.mh_engine.specs.Positions.{Position}
use Rattle.mh_engine.specs.code.IsSound.{IsSound}
use Rattle.mh_engine.proofs.checkpoint.Checkpoint.states.Goals as goal

pub returns-clause-states : goal.returns-clause-states
returns-clause-states c = IfOk-weaker c.states.result _ _ (λ states e. e ∙ ap (λ (p : Position). p.pairs.states) c.self.view_is) c.states.ensures

pub returns-clause-path : goal.returns-clause-path
returns-clause-path c =
    let p : Position = c.args.self.now in
    let sound = subst IsSound c.self.view_is c.self.invariant.0 in
    IfOk-weaker c.states.result _ _
    (λ states e. subst (IsRunStack p.table) (sym (e ∙ ap (λ (q : Position). q.pairs.states) c.self.view_is)) (IsRunStack-of_trees p.table p.pairs.states p.pairs.trees sound.trees_match)) c.states.ensures
