use Rattle.std.proofs.Common.{◌<◌, ◌++◌}
use Rattle.std.proofs.lemmas.List.Elements.{recursion_from_All}
use Rattle.mh_lex.proofs.CodeScanned.{code_scanned}
use Rattle.mh_lex.proofs.laws.code_is_taken.Goals as goal

pub returns : goal.returns
returns c = λ kind text rest are h. code_scanned kind text rest (recursion_from_All (λ b. b < 256) (text ++ rest) are) h
