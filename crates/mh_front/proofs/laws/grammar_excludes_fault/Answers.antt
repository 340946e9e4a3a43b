use Rattle.mh_front.proofs.GrammarUnique.{not_grammar_and_fault}
use Rattle.mh_front.proofs.laws.grammar_excludes_fault.Goals as goal

pub returns : goal.returns
returns c = λ fault faulty. not_grammar_and_fault c.args.prelude c.args.modules.now c.args.grammar.now fault c.requires faulty
