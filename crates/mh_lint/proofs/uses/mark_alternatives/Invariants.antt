use Rattle.mh_lint_states.specs.code.Marks.{Marks}
use Rattle.mh_lint.proofs.Gains.{AnyOf}
use Rattle.mh_lint.proofs.UsedTokens.{HaveToken}
use Rattle.mh_lint.proofs.uses.mark_alternatives.Given as goal

abbrev pub invariant-loop-alternative : goal.invariant-loop-alternative
invariant-loop-alternative l = Marks (AnyOf HaveToken l.alternatives l.alternative-index) l.fn.used l.used
