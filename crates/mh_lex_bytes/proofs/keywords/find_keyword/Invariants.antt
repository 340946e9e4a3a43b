use Rattle.std.proofs.Common.{◌≡◌, drop}
use Rattle.mh_lex_bytes.specs.Keywords.{keyword_among, text_rows}
use Rattle.mh_lex_bytes.proofs.keywords.find_keyword.Given as goal

abbrev pub invariant-loop-row : goal.invariant-loop-row
invariant-loop-row l =
    keyword_among (text_rows (drop l.row-index l.rows) (λ word. word.now)) l.word
    ≡ keyword_among (text_rows l.rows (λ word. word.now)) l.word
