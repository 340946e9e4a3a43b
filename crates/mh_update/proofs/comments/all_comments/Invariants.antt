use Rattle.std.proofs.Common.{take, flat_map}
use Rattle.mh_update.specs.Updates.{AreComments}
use Rattle.mh_update.proofs.comments.all_comments.Given as goal

abbrev pub invariant-loop-entry : goal.invariant-loop-entry
invariant-loop-entry g l = AreComments l.commenter.expected l.commenter.grammar.now l.commenter.automaton.now l.commenter.table.now (flat_map (λ entry. entry.sentences) (take l.entry-index l.entries)) l.comments.items
