use Rattle.std.proofs.Common.{◌≡◌, ◌++◌, drop, flat_map}
use Rattle.mh_msgfile.specs.FileTexts.{entry_text, file_text}
use Rattle.mh_msgfile.proofs.printing.print_messages.Given as goal

abbrev pub invariant-loop-entry : goal.invariant-loop-entry
invariant-loop-entry l = l.text.items ++ flat_map (entry_text l.grammar) (drop l.entry-index l.file.entries) ≡ file_text l.grammar l.file
