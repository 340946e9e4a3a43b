use Rattle.std.proofs.Common.{false, length, replicate}
use Rattle.mh_lint_states.specs.code.Marks.{Marks}
use Rattle.mh_lint.proofs.Gains.{AnyOf}
use Rattle.mh_lint.proofs.UsedTokens.{RuleHasToken}
use Rattle.mh_lint.proofs.uses.used_tokens.Given as goal

abbrev pub invariant-loop-rule : goal.invariant-loop-rule
invariant-loop-rule l = Marks (AnyOf RuleHasToken l.joined.rules l.rule-index) (replicate (length l.joined.tokens) false) l.used.items
