use Rattle.mh_lex.proofs.LexesUnique.{LexesFrom-unique}
use Rattle.mh_lex.proofs.laws.lexemes_are_unique.Goals as goal

pub returns : goal.returns
returns c = λ bytes one two f g a b. LexesFrom-unique a b
