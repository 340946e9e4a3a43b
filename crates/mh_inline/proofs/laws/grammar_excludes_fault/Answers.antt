use Rattle.mh_inline.proofs.UniqueGrammar.{grammar_excludes_fault}
use Rattle.mh_inline.proofs.laws.grammar_excludes_fault.Goals as goal

pub returns : goal.returns
returns c = grammar_excludes_fault c.args.expanded.now c.args.grammar.now c.args.fault.now c.requires.grammar c.requires.fault
