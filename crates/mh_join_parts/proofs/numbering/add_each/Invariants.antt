use Rattle.std.proofs.Common.{map, take}
use Rattle.mh_join_names.specs.code.Numbering.{outline_in, InsertsRules}
use Rattle.mh_join_parts.proofs.numbering.add_each.Given as goal

abbrev pub invariant-loop-rule : goal.invariant-loop-rule
invariant-loop-rule l = InsertsRules l.initial.numbering l.numbering (map (outline_in l.starts.keys l.file l.rules) (take l.rule-index l.rules))
