use Rattle.std.proofs.Common.{map, take, Some}
use Rattle.mh_join_names.specs.code.Numbering.{outline_by, InsertsRules}
use Rattle.mh_join_parts.proofs.numbering.add_prelude.Given as goal

abbrev pub invariant-loop-rule : goal.invariant-loop-rule
invariant-loop-rule l = InsertsRules l.initial.numbering l.numbering (map (outline_by (Some 0)) (take l.rule-index l.rules))
