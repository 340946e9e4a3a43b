use Rattle.std.proofs.Common.{arith, rules}
use Rattle.mh_resolve_cells.proofs.AreResolved.{kernel_is_item_list}
use Rattle.mh_explain.proofs.ChosenItems.{closed_of}
use Rattle.mh_explain.proofs.ExplanationParts.{explanation_written, next_known}
use Rattle.mh_explain.proofs.explanations.write_explanation.Goals as goal

pub first_sentence-requires : goal.first_sentence-requires
first_sentence-requires g c = let states = c.requires.fit.states in let known = c.requires.conflict.0 in omega (arith, states, known)

pub close-requires : goal.close-requires
close-requires g c = (
  search rules,
  (
    search rules,
    (c.requires.fits, (c.requires.closer, kernel_is_item_list c.args.searched.now.grammar.now c.args.searched.now.automaton.now c.requires.fit.automaton c.args.conflict.now.state c.index.result.now c.requires.conflict.0 c.index.ensures)),
  ),
)

pub write_at_end-requires : goal.write_at_end-requires
write_at_end-requires g c =
    let grammar = c.args.searched.now.grammar.now in
    let automaton = c.args.searched.now.automaton.now in
    let closed = closed_of grammar automaton c.args.conflict.now.state c.index.result.now c.in_ok-closed.closed c.requires.conflict.0 c.index.ensures c.in_ok-closed.ensures.exact in (
      search rules,
      (search rules, (c.requires.fits, (c.requires.fit, (c.requires.conflict.0, (rw c.as_slice-items.ensures c.in_ok-closed.ensures.kernel, rw c.as_slice-items.ensures closed))))),
    )

pub write_at_next-requires : goal.write_at_next-requires
write_at_next-requires g c =
    let grammar = c.args.searched.now.grammar.now in
    let automaton = c.args.searched.now.automaton.now in
    let conflict = c.args.conflict.now in
    let closed = closed_of grammar automaton conflict.state c.index.result.now c.in_ok-closed.closed c.requires.conflict.0 c.index.ensures c.in_ok-closed.ensures.exact in
    let known = next_known grammar automaton conflict.state c.in_ok-closed.closed c.in_ok-closed.ensures.kernel closed c.args.searched.now.reach.now c.requires.fit.grammar conflict.look conflict.kind c.requires.unsolved c.requires.conflict.1 c.in_ok-found.found c.in_ok-found.ensures in (
      search rules,
      (
        search rules,
        (
          c.requires.fits,
          (c.requires.fit, (c.requires.conflict.0, (rw c.next_token-next.ensures known, (rw c.as_slice-items.ensures c.in_ok-closed.ensures.kernel, rw c.as_slice-items.ensures closed)))),
        ),
      ),
    )

pub returns-clause-text : goal.returns-clause-text
returns-clause-text g c =
    let conflict = c.args.conflict.now in
    explanation_written c.args.searched.now.grammar.now c.args.searched.now.automaton.now c.args.searched.now.reach.now conflict.state conflict.look conflict.kind c.in_ok-found.found c.in_ok-found.ensures c.args.text.now.items
    c.write_conflict.new.text.items c.write_found.new.text.items c.write_at_end.new.text.items c.write_at_next.new.text.items c.push.new.self.items c.in_ok-write_conflict.ensures c.in_ok-write_found.ensures c.in_ok-write_at_end.ensures
    (rw (← c.next_token-next.ensures) c.in_ok-write_at_next.ensures) c.in_ok-push.ensures.items
