use Rattle.std.proofs.Common.{take}
use Rattle.std.specs.List.{list_any}
use Rattle.mh_join_names.specs.Names.{same}
use Rattle.mh_join_names.specs.code.DefiningFiles.{AddsDefiningFile}
use Rattle.mh_join_parts.proofs.definers.add_definers.Given as goal

abbrev pub invariant-loop-rule : goal.invariant-loop-rule
invariant-loop-rule l = AddsDefiningFile l.file (λ x. list_any (λ r. same x r.name) (take l.rule-index l.rules)) l.initial.definers l.definers
