use Rattle.mh_lex.proofs.LexesTotal.{lexes_always}
use Rattle.mh_lex.proofs.laws.lexed_always.Goals as goal

pub returns : goal.returns
returns c = λ bytes. lexes_always bytes
