-- The definition of a session's answer to a line.
use Rattle.std.specs.Prelude.{ℕ, Vec, Result, IfOk}
use Rattle.std.specs.declared.alloc.Global.{Global}
use Rattle.mh_grammar.specs.declared.types.Grammar.{Grammar}
use Rattle.mh_grammar.specs.declared.types.Memory.{Memory}
use Rattle.mh_grammar.specs.Text.{Text}
use Rattle.mh_session.specs.SessionState.{SessionState}
use Rattle.mh_session_branches.specs.Answers.{Branches}
use Rattle.mh_session.specs.Represents.{Represents}
use Rattle.mh_session_branches.specs.Replies.{AnswersLine}

-- For all branches that the session represents, the text is the answer to the line, and then the session represents the
-- branches after the line. If memory runs out there is no text.
abbrev pub IsLineAnswered : Grammar → Text → SessionState → SessionState → Result (Vec ℕ Global) Memory → Type 0
IsLineAnswered g line old new r = (bs : Branches) → Represents old bs → (after : Branches) × Represents new after × IfOk r (λ text. AnswersLine g old.table bs line text.items after)
