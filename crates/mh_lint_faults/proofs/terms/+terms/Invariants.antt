use Rattle.std.proofs.Common.{◌≡◌, ◌++◌, drop, map}
use Rattle.mh_expand.specs.Terms.{term_of}
use Rattle.mh_lint_faults.specs.code.Arguments.{arguments_from, arguments_text}
use Rattle.mh_lint_faults.proofs.terms.+terms.Given as goal

abbrev pub invariant-write_arguments-loop-term : goal.invariant-write_arguments-loop-term
invariant-write_arguments-loop-term l = l.text.items ++ arguments_from l.joined l.before (map term_of (drop l.term-index l.terms)) ≡ l.fn.text.items ++ arguments_text l.joined (map term_of l.terms)
