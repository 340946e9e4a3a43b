use Rattle.std.proofs.Common.{rules}
use Rattle.mh_lint_faults.proofs.name_faults.has_shape.Goals as goal

pub returns-then-first-rule : goal.returns-then-first-rule
returns-then-first-rule c = search rules

pub returns-else-first-rule : goal.returns-else-first-rule
returns-else-first-rule c = search rules
