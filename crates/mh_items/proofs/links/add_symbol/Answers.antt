use Rattle.std.proofs.Common.{◌<◌, length}
use Rattle.mh_items.proofs.IsStringFirst.{add_token, add_row, row_is_first}
use Rattle.mh_items.proofs.links.add_symbol.Goals as goal

pub returns-in-T-clause-first : goal.returns-in-T-clause-first
returns-in-T-clause-first _ c = λ g s. rw c.in-T.is (add_token g c.args.tokens.now c.insert.new.self c.in-T.token c.insert.ensures.members)

pub returns-in-N-clause-first : goal.returns-in-N-clause-first
returns-in-N-clause-first _ c = λ g s.
    let l : c.in-N.n < length c.args.sets.now.nullable = rw c.in-N.is at c.requires.symbol in
    let at = rw c.from.ensures at c.index.ensures in
    rw c.in-N.is (add_row g c.args.tokens.now c.index.result.now c.union_into.new.self c.in-N.n c.union_into.ensures.members (row_is_first g c.args.sets.now c.in-N.n c.index.result.now s c.requires.len l at))

pub returns-in-N-clause-empty : goal.returns-in-N-clause-empty
returns-in-N-clause-empty _ c = λ g s. rw (c.in-N.is, c.is_marked.ensures, c.as_slice.ensures) (s.nullable c.in-N.n)
