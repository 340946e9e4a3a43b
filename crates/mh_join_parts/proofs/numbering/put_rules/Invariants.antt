use Rattle.std.proofs.Common.{take}
use Rattle.std.specs.List.{flat_map, enumerate_from}
use Rattle.mh_join_names.specs.code.Numbering.{outlines_in, InsertsRules}
use Rattle.mh_join_parts.proofs.numbering.put_rules.Given as goal

abbrev pub invariant-loop-at : goal.invariant-loop-at
invariant-loop-at l = InsertsRules l.initial.numbering l.numbering (flat_map (outlines_in l.starts.keys) (enumerate_from 1 (take l.at l.files)))
