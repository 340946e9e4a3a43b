use Rattle.std.proofs.Common.{arith}
use Rattle.std.proofs.lemmas.Grind.{common_steps}
use Rattle.mh_grammar.specs.Plain.{rhs_of}
use Rattle.mh_grammar_texts.proofs.productions.write_before.Goals as goal

pub returns-in-Some : goal.returns-in-Some
unfolding rhs_of
returns-in-Some c = grind (arith, common_steps)
