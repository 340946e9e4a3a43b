use Rattle.mh_reader.proofs.SpellsOrSyntaxLine.{read_always}
use Rattle.mh_reader.proofs.laws.module_or_syntax_error.Goals as goal

pub returns : goal.returns
returns c = read_always c.lexed_always.ensures c.lexemes_are_unique.ensures
