use Rattle.std.proofs.Common.{rules, arith}
use Rattle.mh_msgfile.specs.StartNames.{start_symbol_name}
use Rattle.mh_msgfile.proofs.AreNumbers.{start_put, none_put, all_put}
use Rattle.mh_msgfile.proofs.lexicon.number_starts.Goals as goal

pub loop-number-preserved : goal.loop-number-preserved
loop-number-preserved c =
    let lt = rw c.as_slice-start-items.ensures at c.loop-number-test.true in
    let here = rw c.as_slice-start-items.ensures at c.from.ensures in
    start_put c.args.grammar.now c.loop-number.number _ c.from.result c.index-nonterminal.result.now _ _ _ lt here c.requires.range.starts c.index-nonterminal.ensures c.as_slice.ensures (search rules) c.loop-number.invariant c.in_ok-put_name.ensures

pub loop-number-init : goal.loop-number-init
loop-number-init c = none_put (start_symbol_name c.args.grammar.now) c.args.grammar.now.starts c.args.numbers.now.entries c.requires.none

pub returns : goal.returns
returns c = all_put (start_symbol_name c.args.grammar.now) c.args.grammar.now.starts c.loop-number.number c.loop-number.numbers.entries (search (arith, rules)) c.loop-number.invariant
