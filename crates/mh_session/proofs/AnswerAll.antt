-- Lemmas on the loop that answers a list of commands.
use Rattle.std.proofs.Common.{◌≡◌, ℕ, ◌+◌, ◌<◌, ◌≤◌, List, [], ◌∷◌, ◌++◌, length, drop, get_or, None, Ok, Err, refl, sym, ap, subst, ◌∙◌, append_assoc, append-nil}
use Rattle.std.proofs.Math.ListN.{drop_of_length-le}
use Rattle.std.proofs.lemmas.List.{drop_more}
use Rattle.mh_tables_core.specs.Table.{TableData}
use Rattle.mh_session_branches.specs.declared.command.Command.{Command}
use Rattle.mh_session_branches.specs.declared.reply.SessionFault.{SessionFault}
use Rattle.mh_session_branches.specs.declared.reply.SessionFault.TheVariants as faults
use Rattle.mh_session.specs.SessionState.{SessionState}
use Rattle.mh_engine.specs.Positions.{Position}
use Rattle.mh_grammar.specs.Text.{Text}
use Rattle.mh_session_branches.specs.Names.{at_name}
use Rattle.mh_session_branches.specs.Answers.{Branches, Answer, IsAnswer, AreAnswers, AreBranchesAfterAnswer}
use Rattle.mh_session.specs.Represents.{FitsBranch, Represents}
use Rattle.mh_session.specs.Served.{IsServed, IsAnswerOfBranches}

-- The invariant of the loop: the answers so far, followed by answers to the remaining commands, are answers to all
-- commands.
pub record AnswersSoFar (t : TableData) (commands : List Command) (i : ℕ) (session : SessionState) (so_far : List Answer) : Type 0 where
  pub branches : Branches
  pub represented : Represents session branches
  pub table : session.table ≡ t
  pub rest : (more : List Answer) → AreAnswers t branches (drop i commands) more → AreAnswers t [] commands (so_far ++ more)

-- The invariant holds at the beginning, with no names and no answers.
pub answers_begin : (commands : List Command) (session : SessionState) (so_far : List Answer) → session.held ≡ [] → so_far ≡ [] → AnswersSoFar session.table commands 0 session so_far
answers_begin commands session so_far none empty = record {
  branches = [];
  represented = λ name. subst (λ (held : List (Text × Position)). FitsBranch session.table None (at_name name held)) (sym none) tt;
  table = refl;
  rest = λ more h. rw empty h;
}

-- If no command remains, the answers so far are answers to all commands.
pub answers_whole : (t : TableData) (commands : List Command) (i : ℕ) (session : SessionState) (so_far : List Answer) → AnswersSoFar t commands i session so_far → length commands ≤ i → AreAnswers t [] commands so_far
answers_whole t commands i session so_far before le =
    subst (AreAnswers t [] commands) (append-nil so_far) (before.rest [] (subst (λ (l : List Command). AreAnswers t before.branches l []) (sym (drop_of_length-le commands le)) refl))

-- The facts after a command for which memory did not run out.
pub record AnsweredFacts (old : SessionState) (command : Command) (new : SessionState) (r : Answer) (bs : Branches) : Type 0 where
  pub table_stays : new.table ≡ old.table
  pub answer_is : IsAnswer old.table bs command r
  pub after : Branches
  pub after_is : AreBranchesAfterAnswer old.table r bs command after
  pub represented : Represents new after

refused_goes : (old new : SessionState) (command : Command) (f : SessionFault) (bs : Branches) → new ≡ old → IsAnswerOfBranches old command (Err f) → Represents old bs → AnsweredFacts old command new (Err f) bs
refused_goes old new command f bs same theirs all = record {
  table_stays = ap (λ (m : SessionState). m.table) same;
  answer_is = theirs bs all;
  after = bs;
  after_is = refl;
  represented = subst (λ (m : SessionState). Represents m bs) (sym same) all;
}

pub answered_facts : (old new : SessionState) (command : Command) (r : Answer) (bs : Branches) → IsServed old command new r → (r ≡ Err faults.Memory → ⊥) → Represents old bs → AnsweredFacts old command new r bs
answered_facts old new command (Ok reply) bs s free all = let next = s.2 bs all in record { table_stays = s.0; answer_is = s.1 bs all; after = next.0; after_is = next.1; represented = next.2 }
answered_facts old new command (Err faults.UnknownName) bs s free all = refused_goes old new command faults.UnknownName bs s.0 s.1 all
answered_facts old new command (Err faults.NameTaken) bs s free all = refused_goes old new command faults.NameTaken bs s.0 s.1 all
answered_facts old new command (Err (faults.WrongPhase phase)) bs s free all = refused_goes old new command (faults.WrongPhase phase) bs s.0 s.1 all
answered_facts old new command (Err faults.TooDeep) bs s free all = refused_goes old new command faults.TooDeep bs s.0 s.1 all
answered_facts old new command (Err faults.Memory) bs s free all = absurd (free refl)

pub answers_more : (t : TableData) (commands : List Command) (i : ℕ) (old new : SessionState) (so_far more : List Answer) (command : Command) (r : Answer) → AnswersSoFar t commands i old so_far → i < length commands → command ≡ get_or commands i command → IsServed old command new r
    → (r ≡ Err faults.Memory → ⊥) → more ≡ so_far ++ r ∷ [] → AnswersSoFar t commands (i + 1) new more
answers_more t commands i old new so_far more command r before lt is s free e =
    let g = answered_facts old new command r before.branches s free before.represented in
    let theirs : IsAnswer t before.branches command r = subst (λ (u : TableData). IsAnswer u before.branches command r) before.table g.answer_is in
    let changed : AreBranchesAfterAnswer t r before.branches command g.after = subst (λ (u : TableData). AreBranchesAfterAnswer u r before.branches command g.after) before.table g.after_is in
    let left : drop i commands ≡ command ∷ drop (i + 1) commands = drop_more commands i command lt ∙ ap (λ (c : Command). c ∷ drop (i + 1) commands) (sym is) in
    record {
      branches = g.after;
      represented = g.represented;
      table = g.table_stays ∙ before.table;
      rest = λ last h.
          let all = before.rest (r ∷ last) (subst (λ (l : List Command). AreAnswers t before.branches l (r ∷ last)) (sym left) (theirs, (g.after, changed, h))) in
          subst (AreAnswers t [] commands) (sym (ap (λ (l : List Answer). l ++ last) e ∙ append_assoc so_far (r ∷ []) last)) all;
    }
