use Rattle.std.proofs.Common.{◌≡◌, ◌++◌, drop}
use Rattle.std.specs.List.{flat_map}
use Rattle.mh_lex.specs.LexemeTexts.{laid_out}
use Rattle.mh_reader.specs.code.Printed.{rule_pieces}
use Rattle.mh_reader.proofs.printing.write_rules.Given as goal

abbrev pub invariant-loop-rule : goal.invariant-loop-rule
invariant-loop-rule l = l.text.items ++ laid_out (flat_map rule_pieces (drop l.rule-index l.rules)) ≡ l.initial.text.items ++ laid_out (flat_map rule_pieces l.rules)
