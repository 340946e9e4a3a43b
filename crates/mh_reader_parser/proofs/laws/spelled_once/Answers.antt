use Rattle.mh_reader_parser.proofs.ParserExact as exact
use Rattle.mh_reader_parser.proofs.laws.spelled_once.Goals as goal

pub returns : goal.returns
returns c = exact.spelled_unique c.lexemes_are_unique.ensures
