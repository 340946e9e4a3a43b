use Rattle.std.proofs.Common.{◌<◌, ◌≤◌, length, refl, arith, rules}
use Rattle.mh_validate_valid.proofs.ValidIsAutomaton.{automaton_named}
use Rattle.mh_validate.proofs.Outcomes.{cell_fault, wrong_fault, valid_by_tests, resolved_at, named}
use Rattle.mh_validate.proofs.validation.with_table.Goals as goal

pub resolve_states-requires : goal.resolve_states-requires
resolve_states-requires g c = (search rules, (c.requires.fits, (c.requires.costs, automaton_named c.args.grammar.now c.args.raw.now c.requires.small c.args.automaton (named c.args.grammar.now c.args.raw.now c.args.automaton c.requires.states c.requires.kernels c.requires.rows))))

pub returns-then-right-len : goal.returns-then-right-len
returns-then-right-len g c =
    let told = rw c.as_slice.ensures.value at c.count_right-right.ensures in
    let lt : c.count_right-right.result < length c.in-Ok.found.states.items = (let n = c.len.ensures in omega (arith, n, c.if-right-len.true, c.in-Ok.found.states.ok.0)) in
    let n = c.in-Ok.ensures.states.count in
    let m = c.requires.kernels.count in
    wrong_fault c.args.grammar.now c.args.raw.now c.in-Ok.found.states.items c.count_right-right.result c.index.result.now c.wrong_at.result lt c.index.ensures c.wrong_at.ensures
    (cell_fault c.args.grammar.now c.args.raw.now c.requires.header c.requires.states c.args.automaton.kernels c.requires.kernels c.args.automaton.edges c.in-Ok.found.states.items c.count_right-right.result (length c.args.raw.now.states) (omega (arith, lt, n, m)) (omega arith)
    c.requires.rows.each (resolved_at c.args.grammar.now c.args.raw.now c.args.automaton c.in-Ok.found.states.items c.requires.kernels c.in-Ok.ensures.states) told.each (told.wrong lt))

pub returns : goal.returns
returns g c =
    let told = rw c.as_slice.ensures.value at c.count_right-right.ensures in
    let past : length c.in-Ok.found.states.items ≤ c.count_right-right.result = (let n = c.len.ensures in omega (arith, n, c.if-right-len.false, c.in-Ok.found.states.ok.0)) in
    let n = c.in-Ok.ensures.states.count in
    let m = c.requires.kernels.count in
    rw c.in-Ok-table_of.ensures (record {
      valid = valid_by_tests c.args.grammar.now c.args.raw.now c.args.automaton c.in-Ok.found.states.items c.requires.header c.requires.states c.requires.kernels c.requires.rows c.in-Ok.ensures.states (λ s lt. told.each s (omega (arith, lt, past, n, m)));
      table = record { grammar = refl; costs = refl; states = c.in-Ok.ensures.states };
      conflicts = c.in-Ok.ensures.conflicts;
      mode = refl;
    })
