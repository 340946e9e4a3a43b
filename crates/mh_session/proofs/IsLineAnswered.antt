-- Lemmas on the answer to a session line.
use Rattle.std.proofs.Common.{◌≡◌, ℕ, Vec, Result, Ok, Err, refl, sym, ap, subst, ◌∙◌, inl, inr}
use Rattle.std.specs.Prelude.{IfOk}
use Rattle.std.specs.declared.alloc.Global.{Global}
use Rattle.mh_grammar.specs.declared.types.Grammar.{Grammar}
use Rattle.mh_grammar.specs.declared.types.Memory.{Memory}
use Rattle.mh_msgfile.specs.Sentences.{Vocabulary, vocabulary_of}
use Rattle.mh_session_branches.specs.declared.command.Command.{Command}
use Rattle.mh_session_branches.specs.declared.reply.SessionFault.TheVariants as faults
use Rattle.mh_grammar.specs.Text.{Text}
use Rattle.mh_session.specs.SessionState.{SessionState}
use Rattle.mh_session_branches.specs.Answers.{Branches, Answer}
use Rattle.mh_session.specs.Represents.{Represents}
use Rattle.mh_session.specs.Served.{IsServed}
use Rattle.mh_session_branches.specs.declared.fault.CommandFault.{CommandFault}
use Rattle.mh_session_branches.specs.declared.fault.CommandFault.TheVariants as refusals
use Rattle.mh_session_branches.specs.LineForms.{LineMeaning, Asks, NamesNoStart, LacksStart, NamesNoToken, LineMeans, ReadsCommand}
use Rattle.mh_session.proofs.AnswerAll.{answered_facts}
use Rattle.mh_session_branches.specs.Replies.{replied_name, AnswersLine}
use Rattle.mh_session.specs.LineAnswers.{IsLineAnswered}
use Rattle.mh_session.specs.code.AnswerTexts.{IsMeaningAnswered}
use Rattle.mh_session.specs.code.AnswerTexts.{IsCommandFaultText, IsAnswerText}

-- If a session represents branches before a command, it represents some branches after the command.
served_some : (old new : SessionState) (command : Command) (r : Answer) (bs : Branches) → IsServed old command new r → Represents old bs → (after : Branches) × Represents new after
served_some old new command (Ok reply) bs s all = let next = s.2 bs all in (next.0, next.2)
served_some old new command (Err faults.UnknownName) bs s all = (bs, subst (λ (m : SessionState). Represents m bs) (sym s.0) all)
served_some old new command (Err faults.NameTaken) bs s all = (bs, subst (λ (m : SessionState). Represents m bs) (sym s.0) all)
served_some old new command (Err (faults.WrongPhase phase)) bs s all = (bs, subst (λ (m : SessionState). Represents m bs) (sym s.0) all)
served_some old new command (Err faults.TooDeep) bs s all = (bs, subst (λ (m : SessionState). Represents m bs) (sym s.0) all)
served_some old new command (Err faults.Memory) bs s all = (bs, subst (λ (m : SessionState). Represents m bs) (sym s) all)

pub meaning_answered : (g : Grammar) (old new : SessionState) (command : Command) (r : Answer) (text : Result (Vec ℕ Global) Memory) → IsServed old command new r → IfOk text (λ v. IsAnswerText g (replied_name command) r v.items) → IsMeaningAnswered g (Asks command) old new text
meaning_answered g old new command r (Ok v) s answered = λ bs all. let w = answered_facts old new command r bs s answered.1 all in (w.after, w.represented, (r, w.answer_is, answered.0, w.after_is))
meaning_answered g old new command r (Err e) s answered = λ bs all. let after = served_some old new command r bs s all in (after.0, after.1, tt)

-- The answer to the meaning of a line is the answer to the line.
pub line_answered : (g : Grammar) (line : Text) (old new : SessionState) (said : LineMeaning) (r : Result (Vec ℕ Global) Memory) → LineMeans (vocabulary_of g) line said → IsMeaningAnswered g said old new r → IsLineAnswered g line old new r
line_answered g line old new said (Ok v) says answered = λ bs all. let t = answered bs all in (t.0, t.1, inl (said, says, t.2))
line_answered g line old new said (Err e) says answered = λ bs all. let t = answered bs all in (t.0, t.1, tt)

-- A line that is no command changes nothing, and its answer is the text of the fault.
module _ (g : Grammar) (line : Text) (old : SessionState) where
  refused : (fault : CommandFault) (text : Text) → ReadsCommand (vocabulary_of g) line (Err fault) → IsCommandFaultText fault text → (bs : Branches) → AnswersLine g old.table bs line text bs
  refused refusals.Unreadable text none is bs = inr (none, is, refl)
  refused (refusals.UnknownStart name) text says is bs = inl (NamesNoStart name, says, (is, refl))
  refused refusals.MissingStart text says is bs = inl (LacksStart, says, (is, refl))
  refused (refusals.UnknownToken name) text says is bs = inl (NamesNoToken name, says, (is, refl))
  refused refusals.Memory text says is bs = absurd is

  pub refusal_answered : (fault : CommandFault) (r : Result (Vec ℕ Global) Memory) → ReadsCommand (vocabulary_of g) line (Err fault) → IfOk r (λ v. IsCommandFaultText fault v.items) → IsLineAnswered g line old old r
  refusal_answered fault (Ok v) reads is = λ bs all. (bs, all, refused fault v.items reads is bs)
  refusal_answered fault (Err e) reads is = λ bs all. (bs, all, tt)

-- Reading by an equal vocabulary gives the same result.
pub reads_of : (g : Grammar) (v : Vocabulary) (line : Text) (r : Result Command CommandFault) → v ≡ vocabulary_of g → ReadsCommand v line r → ReadsCommand (vocabulary_of g) line r
reads_of g v line r e reads = subst (λ (u : Vocabulary). ReadsCommand u line r) e reads

pub says_of : (g : Grammar) (v : Vocabulary) (line : Text) (said : LineMeaning) → v ≡ vocabulary_of g → LineMeans v line said → LineMeans (vocabulary_of g) line said
says_of g v line said e says = subst (λ (u : Vocabulary). LineMeans u line said) e says
