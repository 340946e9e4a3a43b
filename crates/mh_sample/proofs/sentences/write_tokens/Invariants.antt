use Rattle.std.proofs.Common.{◌≡◌, ◌++◌, drop}
use Rattle.mh_msgfile.specs.FileTexts.{names_after}
use Rattle.mh_sample.proofs.sentences.write_tokens.Given as goal

abbrev pub invariant-loop-token : goal.invariant-loop-token
invariant-loop-token l = l.text.items ++ names_after l.grammar (drop l.token-index l.tokens) ≡ l.fn.text.items ++ names_after l.grammar l.tokens
