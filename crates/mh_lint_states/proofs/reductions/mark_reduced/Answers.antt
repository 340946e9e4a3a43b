use Rattle.std.proofs.Common.{◌∙◌, sym, arith}
use Rattle.mh_lint_states.proofs.Reduces.{action_is, cell_known, first_all, first_more}
use Rattle.mh_lint_states.proofs.reductions.mark_reduced.Goals as goal

pub mark_action-requires : goal.mark_action-requires
mark_action-requires c = λ p e.
    let is = action_is c.args.table.now c.args.state c.loop-token.token c.action.result c.action.ensures in
    let known = (cell_known c.args.table.now c.args.state c.loop-token.token p c.facts.ensures (sym is ∙ e)).1 in
    omega (arith, known, c.loop-token.invariant.size)

pub loop-token-preserved : goal.loop-token-preserved
loop-token-preserved c =
    let is = action_is c.args.table.now c.args.state c.loop-token.token c.action.result c.action.ensures in
    record {
      marks = first_more c.args.table.now c.args.state c.loop-token.token c.action.result c.args.reduced.now.items c.loop-token.reduced.items c.mark_action.new.reduced.items is c.loop-token.invariant.marks c.mark_action.ensures;
      size = c.mark_action.ensures.len ∙ c.loop-token.invariant.size;
    }

pub returns : goal.returns
returns c =
    let row = c.facts.ensures.ranges.each_row c.args.state c.requires.state in
    let end = c.tokens-token-end.ensures in
    let past = c.loop-token-test.false in
    first_all c.args.table.now c.args.state c.loop-token.token c.args.reduced.now.items c.loop-token.reduced.items (omega (arith, row, end, past)) c.loop-token.invariant.marks
