use Rattle.std.proofs.lemmas.List.Elements.{All-from_recursion}
use Rattle.mh_lex.specs.LexemeTexts.{HasTextOfKind}
use Rattle.mh_lex.proofs.LexemesHaveText.{lexemes_spelled}
use Rattle.mh_lex.proofs.laws.lexed_texts.Goals as goal

pub returns : goal.returns
returns c = λ bytes lexemes f l. All-from_recursion (HasTextOfKind bytes) lexemes (lexemes_spelled bytes lexemes f l)
