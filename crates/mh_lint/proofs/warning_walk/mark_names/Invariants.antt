use Rattle.mh_lint_states.specs.code.Marks.{Marks}
use Rattle.mh_lint.proofs.NamedTokens.{IsNamedBelow}
use Rattle.mh_lint.proofs.warning_walk.mark_names.Given as goal

abbrev pub invariant-loop-token : goal.invariant-loop-token
invariant-loop-token l = Marks (IsNamedBelow l.tokens l.names l.token) l.fn.used l.used
