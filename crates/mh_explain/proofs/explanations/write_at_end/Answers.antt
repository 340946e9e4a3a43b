use Rattle.std.proofs.Common.{◌<◌, [], length, append-nil, arith, refl, rules, sym}
use Rattle.std.proofs.lemmas.Result.{on_ok_weaker}
use Rattle.mh_grammar.specs.declared.types.Look.TheVariants.{End}
use Rattle.mh_resolve_cells.proofs.AreResolved.{edges_are, edges_rise}
use Rattle.mh_explain.proofs.ChosenItems.{appends_actions}
use Rattle.mh_explain.proofs.explanations.write_at_end.Goals as goal

pub returns-in-Token : goal.returns-in-Token
returns-in-Token g c = rw c.in-Token.is ([], refl, sym (append-nil c.args.text.now.items))

pub index-requires : goal.index-requires
index-requires g c = let rows = c.requires.fit.automaton.rows in let known = c.requires.state in omega (arith, rows, known)

pub write_actions-requires : goal.write_actions-requires
write_actions-requires g c = (
  search rules,
  (
    c.requires.fits,
    (
      c.requires.items,
      (edges_rise c.args.searched.now.grammar.now c.args.searched.now.automaton.now c.requires.fit.automaton c.args.state c.as_slice-edges.result.now c.index.result.now c.requires.state c.index.ensures c.as_slice-edges.ensures, rw c.in-End.is tt),
    ),
  ),
)

pub returns-in-End : goal.returns-in-End
returns-in-End g c =
    let grammar = c.args.searched.now.grammar.now in
    let automaton = c.args.searched.now.automaton.now in
    let known : c.args.state < length automaton.edges = (let rows = c.requires.fit.automaton.rows in let state = c.requires.state in omega (arith, rows, state)) in
    let edges = edges_are automaton c.args.state c.as_slice-edges.result.now c.index.result.now known c.index.ensures c.as_slice-edges.ensures in
    on_ok_weaker c.write_actions.result
    (λ written. rw c.in-End.is (appends_actions grammar automaton c.args.state (record { items = c.args.items.now }) c.requires.items c.requires.closed c.as_slice-edges.result.now edges End c.args.text.now.items c.write_actions.new.text.items (rw (← c.in-End.is) written)))
    c.write_actions.ensures
