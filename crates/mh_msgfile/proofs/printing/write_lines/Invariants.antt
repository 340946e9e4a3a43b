use Rattle.std.proofs.Common.{◌≡◌, ◌++◌, drop}
use Rattle.mh_msgfile.specs.FileTexts.{sentence_lines}
use Rattle.mh_msgfile.proofs.printing.write_lines.Given as goal

abbrev pub invariant-loop-sentence : goal.invariant-loop-sentence
invariant-loop-sentence l = l.text.items ++ sentence_lines l.grammar (drop l.sentence-index l.sentences) ≡ l.initial.text.items ++ sentence_lines l.grammar l.sentences
