use Rattle.std.proofs.Common.{◌≡◌, ◌++◌, drop, flat_map}
use Rattle.mh_msgfile.specs.FileTexts.{sentence_lines, echo_text}
use Rattle.mh_msgfile.proofs.printing.echo.Given as goal

abbrev pub invariant-loop-entry : goal.invariant-loop-entry
invariant-loop-entry l = l.text.items ++ flat_map (λ entry. sentence_lines l.grammar entry.sentences) (drop l.entry-index l.file.entries) ≡ echo_text l.grammar l.file
