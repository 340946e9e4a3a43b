use Rattle.std.proofs.Common.{arith, sym, ◌∙◌}
use Rattle.mh_tables_core.proofs.SymbolsInRange.{symbol_below, first_in}
use Rattle.mh_tables_core.proofs.table.Table.symbol_to.Goals as goal

pub symbol_of-requires-clause-production : goal.symbol_of-requires-clause-production
symbol_of-requires-clause-production c =
    let t = c.args.self.now in
    let inside = first_in t c.args.state c.core.result.now (record { production = 0; dot = 0 }) c.core.ensures (c.facts.ensures.filled c.args.state c.requires) in
    (c.facts.ensures.each_core c.args.state _ _ inside).0

pub symbol_of-requires-clause-place : goal.symbol_of-requires-clause-place
symbol_of-requires-clause-place c =
    let t = c.args.self.now in
    let inside = first_in t c.args.state c.core.result.now (record { production = 0; dot = 0 }) c.core.ensures (c.facts.ensures.filled c.args.state c.requires) in
    let within = (c.facts.ensures.each_core c.args.state _ _ inside).1 in
    omega (arith, within, c.if-place-eq0.false)

pub returns-then-place-eq0-clause-symbol : goal.returns-then-place-eq0-clause-symbol
returns-then-place-eq0-clause-symbol c =
    let t = c.args.self.now in
    let inside = first_in t c.args.state c.core.result.now (record { production = 0; dot = 0 }) c.core.ensures (c.facts.ensures.filled c.args.state c.requires) in
    λ r x edge. absurd (let moved = (c.facts.ensures.moved_from r x c.args.state _ _ edge inside).moved in omega (arith, moved, c.if-place-eq0.true))

pub returns-else-place-eq0-clause-symbol : goal.returns-else-place-eq0-clause-symbol
returns-else-place-eq0-clause-symbol c =
    let t = c.args.self.now in
    let inside = first_in t c.args.state c.core.result.now (record { production = 0; dot = 0 }) c.core.ensures (c.facts.ensures.filled c.args.state c.requires) in
    λ r x edge. sym c.symbol_of.ensures ∙ (c.facts.ensures.moved_from r x c.args.state _ _ edge inside).symbol

pub returns-else-place-eq0-clause-known : goal.returns-else-place-eq0-clause-known
returns-else-place-eq0-clause-known c = symbol_below c.args.self.now.grammar c.facts.ensures.ranges.grammar _ _ _ c.symbol_of.ensures
