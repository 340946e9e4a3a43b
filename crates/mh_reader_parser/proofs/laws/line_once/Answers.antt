use Rattle.mh_reader_parser.proofs.SyntaxLine as lines
use Rattle.mh_reader_parser.proofs.laws.line_once.Goals as goal

pub returns : goal.returns
returns c = lines.syntax_line_unique
