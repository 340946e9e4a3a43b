use Rattle.std.proofs.Common.{rules}
use Rattle.mh_lint_faults.proofs.name_faults.gives_level.Goals as goal

pub returns-then-level-file : goal.returns-then-level-file
returns-then-level-file c = search rules

pub returns-else-level-file : goal.returns-else-level-file
returns-else-level-file c = search rules
