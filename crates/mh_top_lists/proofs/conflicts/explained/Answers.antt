use Rattle.std.proofs.Common.{rules}
use Rattle.mh_top_lists.proofs.conflicts.explained.Goals as goal

pub explanation_text-requires : goal.explanation_text-requires
explanation_text-requires g c = (
  search rules,
  (
    c.requires.fits,
    (
      record { automaton = c.requires.consistent.automaton; grammar = c.requires.consistent.table.grammar; states = c.requires.consistent.table.states.count },
      rw c.as_slice.ensures c.requires.consistent.conflicts,
    ),
  ),
)
