use Rattle.mh_msgfile.proofs.PrintedAgain.{printed_again}
use Rattle.mh_msgfile.proofs.laws.printed_again.Goals as goal

pub returns : goal.returns
returns c = λ has. printed_again c.args.grammar.now has
