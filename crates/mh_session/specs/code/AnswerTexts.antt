-- The contracts of the functions that write the answer to a line.
use Rattle.std.specs.Prelude.{◌≡◌, ◌++◌, ℕ, Vec, Result, Err, IfOk, codes}
use Rattle.std.specs.declared.alloc.Global.{Global}
use Rattle.mh_grammar.specs.declared.types.Memory.{Memory}
use Rattle.mh_session.specs.SessionState.{SessionState}
use Rattle.mh_session.specs.Represents.{Represents}
use Rattle.mh_session_branches.specs.LineForms.{LineMeaning}
use Rattle.mh_grammar.specs.declared.types.Grammar.{Grammar}
use Rattle.mh_grammar.specs.Text.{Text}
use Rattle.mh_session_branches.specs.declared.reply.SessionFault.TheVariants as faults
use Rattle.mh_session_branches.specs.declared.fault.CommandFault.{CommandFault}
use Rattle.mh_session_branches.specs.declared.fault.CommandFault.TheVariants as refusals
use Rattle.mh_session_branches.specs.Answers.{Answer, Branches}
use Rattle.mh_session_branches.specs.Replies.{answer_text, AnswersMeaning}

-- The text is the text of the answer, and memory did not run out.
abbrev pub IsAnswerText : Grammar → Text → Answer → Text → Type 0
IsAnswerText g name answer text = (text ≡ answer_text g name answer) × (answer ≡ Err faults.Memory → ⊥)

-- The text answers a line that is no command because of this fault.
abbrev pub IsCommandFaultText : CommandFault → Text → Type 0
IsCommandFaultText refusals.Unreadable text = text ≡ codes "error: unreadable\n"
IsCommandFaultText (refusals.UnknownStart name) text = text ≡ codes "error: unknown start " ++ name ++ codes "\n"
IsCommandFaultText refusals.MissingStart text = text ≡ codes "error: missing start\n"
IsCommandFaultText (refusals.UnknownToken name) text = text ≡ codes "error: unknown token " ++ name ++ codes "\n"
IsCommandFaultText refusals.Memory text = ⊥

-- For all branches that the session represents, the text is the answer to this meaning, and then the session represents
-- the branches after it.
abbrev pub IsMeaningAnswered : Grammar → LineMeaning → SessionState → SessionState → Result (Vec ℕ Global) Memory → Type 0
IsMeaningAnswered g said old new r = (bs : Branches) → Represents old bs → (after : Branches) × Represents new after × IfOk r (λ text. AnswersMeaning g old.table bs said text.items after)
