use Rattle.std.proofs.Common.{◌≡◌, ℕ, List, map, ap, subst, sym, ◌∙◌}
use Rattle.std.proofs.lemmas.Result.{IfOk-weaker}
use Rattle.mh_tables_core.specs.RunTrees.{TreesMatchStack}
use Rattle.mh_tables_core.specs.Table.{TableData}
use Rattle.mh_engine.specs.Positions.{Position}
use Rattle.mh_engine.specs.StackSymbols.{symbol_of_tree}
use Rattle.mh_engine.specs.code.IsSound.{IsSound}
use Rattle.mh_engine.proofs.checkpoint.Checkpoint.symbols.Goals as goal

pub returns : goal.returns
returns c =
    let p : Position = c.args.self.now in
    let sound = subst IsSound c.self.view_is c.self.invariant.0 in
    let table : c.table.result.now ≡ p.table = c.table.ensures.table ∙ ap (λ (q : Position). q.table) c.self.view_is in
    let states : c.as_slice.result.now ≡ p.pairs.states = c.as_slice.ensures.value ∙ c.in_ok-states.ensures.states in
    IfOk-weaker c.symbols_between.result _ _
    (λ symbols e. e p.pairs.trees (subst (λ (t : TableData). TreesMatchStack t c.as_slice.result.now p.pairs.trees) (sym table) (subst (λ (l : List ℕ). TreesMatchStack p.table l p.pairs.trees) (sym states) sound.trees_match))
    ∙ ap (λ (t : TableData). map (symbol_of_tree t.grammar) p.pairs.trees) table)
    c.symbols_between.ensures
