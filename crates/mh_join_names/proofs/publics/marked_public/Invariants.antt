use Rattle.std.proofs.Common.{◌≡◌, take}
use Rattle.std.specs.HashSet.{contains}
use Rattle.mh_grammar.specs.Text.{Text}
use Rattle.mh_join_names.specs.Names.{same, marks_public}
use Rattle.mh_join_names.proofs.publics.marked_public.Given as goal

abbrev pub invariant-loop-rule : goal.invariant-loop-rule
invariant-loop-rule l = (x : Text) → contains same l.marked x ≡ marks_public (take l.rule-index l.rules) x
