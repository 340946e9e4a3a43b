use Rattle.std.proofs.Common.{◌++◌, List, take}
use Rattle.mh_msgfile.specs.declared.messages.MsgSentence.{MsgSentence}
use Rattle.mh_update.specs.Updates.{AreComments}
use Rattle.mh_update.proofs.comments.put_comments.Given as goal

abbrev pub invariant-loop-sentence : goal.invariant-loop-sentence
invariant-loop-sentence g l =
    (done : List MsgSentence) → AreComments l.commenter.expected l.commenter.grammar.now l.commenter.automaton.now l.commenter.table.now done l.initial.comments.items
    → AreComments l.commenter.expected l.commenter.grammar.now l.commenter.automaton.now l.commenter.table.now (done ++ take l.sentence-index l.sentences) l.comments.items
