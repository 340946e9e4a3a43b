use Rattle.std.proofs.Common.{◌≡◌, length}
use Rattle.mh_grammar.specs.Plain.{production_count}
use Rattle.mh_lint_states.specs.code.Marks.{Marks}
use Rattle.mh_lint_states.proofs.Reduces.{ReducesFirst}
use Rattle.mh_lint_states.proofs.reductions.mark_reduced.Given as goal

abbrev pub invariant-loop-token : goal.invariant-loop-token
invariant-loop-token l = record {
  marks : Marks (ReducesFirst l.table l.state l.token) l.fn.reduced.items l.reduced.items;
  size : length l.reduced.items ≡ production_count l.table.grammar;
}
