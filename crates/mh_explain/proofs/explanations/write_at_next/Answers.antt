use Rattle.std.proofs.Common.{◌<◌, [], length, append-nil, arith, refl, rules, subst, sym}
use Rattle.std.proofs.lemmas.Result.{on_ok_weaker}
use Rattle.mh_grammar.specs.Plain.{PlainGrammar}
use Rattle.mh_resolve_cells.proofs.AreResolved.{edges_are, edges_rise}
use Rattle.mh_explain.proofs.ChosenItems.{appends_next}
use Rattle.mh_explain.proofs.explanations.write_at_next.Goals as goal

pub returns-in-None : goal.returns-in-None
returns-in-None g c = rw c.in-None.is ([], refl, sym (append-nil c.args.text.now.items))

pub index-requires : goal.index-requires
index-requires g c = let rows = c.requires.fit.automaton.rows in let known = c.requires.state in omega (arith, rows, known)

pub write_actions-requires : goal.write_actions-requires
write_actions-requires g c = (
  search rules,
  (
    c.requires.fits,
    (
      c.requires.items,
      (edges_rise c.args.searched.now.grammar.now c.args.searched.now.automaton.now c.requires.fit.automaton c.args.state c.as_slice-edges.result.now c.index.result.now c.requires.state c.index.ensures c.as_slice-edges.ensures, rw c.in-Some.is at c.requires.next),
    ),
  ),
)

pub write_taken-requires-clause-token : goal.write_taken-requires-clause-token
write_taken-requires-clause-token g c = rw (c.table-table.ensures.table, c.table.ensures) (subst (λ (p : PlainGrammar). c.in-Some.token < p.tokens) (sym c.requires.fit.grammar) (rw c.in-Some.is at c.requires.next))

pub returns-in_ok-write_actions-in-Some : goal.returns-in_ok-write_actions-in-Some
returns-in_ok-write_actions-in-Some g c =
    let grammar = c.args.searched.now.grammar.now in
    let automaton = c.args.searched.now.automaton.now in
    let known : c.args.state < length automaton.edges = (let rows = c.requires.fit.automaton.rows in let state = c.requires.state in omega (arith, rows, state)) in
    let edges = edges_are automaton c.args.state c.as_slice-edges.result.now c.index.result.now known c.index.ensures c.as_slice-edges.ensures in
    on_ok_weaker c.write_taken.result
    (λ taken. rw c.in-Some.is
    (appends_next grammar automaton c.args.state (record { items = c.args.items.now }) c.requires.items c.requires.closed c.args.searched.now.reach.now c.as_slice-edges.result.now edges c.in-Some.token c.args.text.now.items c.write_actions.new.text.items c.write_taken.new.text.items
    c.in_ok-write_actions-in-Some.ensures taken)) (rw (c.table-table.ensures.table, c.table.ensures) at c.write_taken.ensures)
