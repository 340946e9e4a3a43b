use Rattle.std.proofs.Common.{◌≡◌, false, flat_map, take}
use Rattle.std.specs.List.{list_any}
use Rattle.mh_lint_faults.specs.Terms.{heads, is_formal}
use Rattle.mh_lint_faults.proofs.terms.+formals.Given as goal

abbrev pub invariant-have_formals-loop-term : goal.invariant-have_formals-loop-term
invariant-have_formals-loop-term l = list_any is_formal (flat_map heads (take l.term-index l.terms)) ≡ false
