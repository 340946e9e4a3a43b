use Rattle.std.proofs.Common.{ap}
use Rattle.mh_lex_bytes.specs.Keywords.{keywords, text_rows}
use Rattle.mh_lex_bytes.proofs.keywords.keywords.Goals as goal

pub returns : goal.returns
unfolding keywords
returns c = ap (λ rows. text_rows rows (λ word. word.now)) c.as_slice.ensures
