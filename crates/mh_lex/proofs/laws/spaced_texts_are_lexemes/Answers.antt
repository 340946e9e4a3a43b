use Rattle.std.proofs.lemmas.List.Elements.{recursion_from_All}
use Rattle.mh_lex.specs.LexemeTexts.{IsText}
use Rattle.mh_lex.proofs.LaidOutTexts.{laid_out_lexes}
use Rattle.mh_lex.proofs.laws.spaced_texts_are_lexemes.Goals as goal

pub returns : goal.returns
returns c = λ texts all few. laid_out_lexes texts (recursion_from_All IsText texts all) few
