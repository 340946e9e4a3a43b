use Rattle.std.proofs.Common.{◌≡◌, ◌++◌, drop}
use Rattle.std.specs.List.{flat_map}
use Rattle.mh_lex.specs.LexemeTexts.{laid_out}
use Rattle.mh_reader.specs.code.Printed.{token_pieces}
use Rattle.mh_reader.proofs.printing.write_tokens.Given as goal

abbrev pub invariant-loop-token : goal.invariant-loop-token
invariant-loop-token l = l.text.items ++ laid_out (flat_map token_pieces (drop l.token-index l.tokens)) ≡ l.initial.text.items ++ laid_out (flat_map token_pieces l.tokens)
