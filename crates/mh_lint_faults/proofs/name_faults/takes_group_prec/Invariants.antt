use Rattle.std.proofs.Common.{ℕ, ◌≤◌, ◌<◌}
use Rattle.std.specs.List.{Contains}
use Rattle.mh_lint_faults.proofs.name_faults.takes_group_prec.Given as goal

abbrev pub invariant-loop-alternative : goal.invariant-loop-alternative
invariant-loop-alternative l = (n : ℕ) → l.first ≤ n → n < l.alternative-counter → Contains l.precs.keys n
