use Rattle.mh_lex_bytes.proofs.KeywordRows.{one_word}
use Rattle.mh_lex_bytes.proofs.laws.keywords_differ.Goals as goal

pub returns : goal.returns
returns c = λ one two keyword d e. one_word one two keyword d e
