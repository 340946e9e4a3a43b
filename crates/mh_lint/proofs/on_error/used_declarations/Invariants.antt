use Rattle.mh_lint.proofs.UsedDeclarations.{AreUsedBelow}
use Rattle.mh_lint.proofs.on_error.used_declarations.Given as goal

abbrev pub invariant-loop-number : goal.invariant-loop-number
invariant-loop-number l = AreUsedBelow l.grammar l.reduced l.number l.used.keys
