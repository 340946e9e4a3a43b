use Rattle.std.proofs.Common.{◌≡◌, ◌++◌, ℕ, List, flat_map}
use Rattle.std.specs.Prelude.{codes}
use Rattle.mh_rebase.specs.RebasedText.{commented_message}
use Rattle.mh_rebase.proofs.dropping.write_commented.Given as goal

abbrev pub invariant-loop-line : goal.invariant-loop-line
invariant-loop-line l = l.text.items ++ flat_map (λ (line : List ℕ). codes "# " ++ line) l.line-iterator ≡ l.initial.text.items ++ commented_message l.fn.message
