use Rattle.std.proofs.Common.{◌≡◌, ℕ, List}
use Rattle.std.specs.Prelude.{nat_eq}
use Rattle.std.specs.Cmp.Lexicographic.{pointwise}
use Rattle.std.specs.List.{list_any}
use Rattle.mh_rebase.specs.ErrorLines.{is_unwritten, unwritten_line}
use Rattle.mh_lint_messages.proofs.lines.is_unwritten.Given as goal

abbrev pub invariant-loop-line : goal.invariant-loop-line
invariant-loop-line l = list_any (λ (line : List ℕ). pointwise nat_eq line unwritten_line) l.line-iterator ≡ is_unwritten l.fn.message
