use Rattle.std.proofs.Common.{◌<◌}
use Rattle.std.proofs.lemmas.List.Elements.{All-from_recursion, recursion_from_All}
use Rattle.mh_lex.specs.InCode.{SpansCode}
use Rattle.mh_lex.proofs.SpansCode.{lexemes_span_code}
use Rattle.mh_lex.proofs.laws.lexed_code.Goals as goal

pub returns : goal.returns
returns c = λ bytes lexemes f are l. All-from_recursion (SpansCode bytes) lexemes (lexemes_span_code bytes lexemes f (recursion_from_All (λ b. b < 256) bytes are) l)
