use Rattle.std.proofs.Common.{arith, ◌∙◌}
use Rattle.mh_lint_states.specs.Reductions.{ReducesOnErrors}
use Rattle.mh_lint_states.proofs.MarkedFlags.{marks_none}
use Rattle.mh_lint_states.proofs.ReducesOnErrors.{errors_marked, errors_none, errors_unmarked, left_known, starts_before, with_default, without_default}
use Rattle.mh_lint_states.proofs.reductions.mark_on_errors.Goals as goal

pub returns-then-is_some : goal.returns-then-is_some
returns-then-is_some g c =
    let state = c.args.state.now in
    marks_none (ReducesOnErrors c.args.grammar.now c.args.automaton.now c.args.table.now state.number) c.args.on_errors.now.items (λ n x. with_default c.args.table.now state.number c.fallback.result c.is_some.result c.fallback.ensures c.is_some.ensures c.if-is_some.true x.without_default)

pub lhs_of-requires-clause-ordinary : goal.lhs_of-requires-clause-ordinary
lhs_of-requires-clause-ordinary g c =
    let state = c.args.state.now in
    starts_before c.args.grammar.now c.args.automaton.now state.number state.closed c.requires.state c.args.table.now c.facts.ensures c.requires.table.0 c.requires.table.1 c.in-Some.production c.looks_of-looks.result (c.has_filled.ensures.0 c.if-has_filled.true)

pub index_mut-requires : goal.index_mut-requires
index_mut-requires g c =
    let state = c.args.state.now in
    let known = left_known c.args.grammar.now c.args.automaton.now state.number state.closed c.requires.state c.args.table.now c.facts.ensures c.requires.table.0 c.requires.table.1 c.in-Some.production c.from.result c.looks_of-looks.result (c.has_filled.ensures.0 c.if-has_filled.true) (c.from.ensures ∙ c.lhs_of.ensures) in
    omega (arith, known, c.requires.size, c.args.on_errors.now.ok.0)

pub returns-then-has_filled : goal.returns-then-has_filled
returns-then-has_filled g c =
    let state = c.args.state.now in
    let default = without_default c.args.table.now state.number c.fallback.result c.is_some.result c.fallback.ensures c.is_some.ensures c.if-is_some.false in
    errors_marked c.args.grammar.now c.args.automaton.now state.number state.closed c.requires.state c.args.table.now c.facts.ensures c.requires.table.0 c.requires.table.1 c.in-Some.production c.as_slice.result.now c.as_slice.ensures c.in-Some.ensures c.as_slice-in-Some.result.now c.as_slice-in-Some.ensures c.looks_of-looks.result c.looks_of-looks.ensures c.args.on_errors.now.items
    c.from.result c.requires.size default (c.has_filled.ensures.0 c.if-has_filled.true) (c.from.ensures ∙ c.lhs_of.ensures)

pub returns-else-has_filled : goal.returns-else-has_filled
returns-else-has_filled g c =
    let state = c.args.state.now in
    errors_unmarked c.args.grammar.now c.args.automaton.now state.number state.closed c.requires.state c.args.table.now c.facts.ensures c.requires.table.0 c.requires.table.1 c.in-Some.production c.as_slice.result.now c.as_slice.ensures c.in-Some.ensures c.as_slice-in-Some.result.now c.as_slice-in-Some.ensures c.looks_of-looks.result c.looks_of-looks.ensures c.args.on_errors.now.items
    (λ filled. (let yes = c.has_filled.ensures.1 filled in let not = c.if-has_filled.false in absurd cc))

pub returns-in_default : goal.returns-in_default
returns-in_default g c =
    let state = c.args.state.now in
    errors_none c.args.grammar.now c.args.automaton.now state.number state.closed c.requires.state c.args.table.now c.facts.ensures c.requires.table.0 c.requires.table.1 c.as_slice.result.now c.args.on_errors.now.items c.as_slice.ensures c.in_default.ensures
