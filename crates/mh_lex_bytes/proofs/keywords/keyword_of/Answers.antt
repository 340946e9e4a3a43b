use Rattle.std.proofs.Common.{ap, ◌∙◌}
use Rattle.mh_lex_bytes.specs.Keywords.{keyword_among}
use Rattle.mh_lex_bytes.proofs.keywords.keyword_of.Goals as goal

pub returns : goal.returns
returns c = c.find_keyword.ensures ∙ ap (λ rows. keyword_among rows c.args.word.now) c.keywords.ensures
