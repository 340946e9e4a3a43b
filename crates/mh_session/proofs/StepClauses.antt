-- Derives each clause of `step` from `IsServed`.
use Rattle.std.proofs.Common.{◌≡◌, ◌⊎◌, inl, inr, Result, Ok, Err, refl, ap}
use Rattle.std.specs.Prelude.{IfOk, IfErr, OnOk, OnErr}
use Rattle.mh_session_branches.specs.declared.command.Command.{Command}
use Rattle.mh_session_branches.specs.declared.reply.SessionFault.{SessionFault}
use Rattle.mh_session_branches.specs.declared.reply.SessionFault.TheVariants as faults
use Rattle.mh_session.specs.SessionState.{SessionState}
use Rattle.mh_session_branches.specs.Answers.{Branches, Answer, IsAnswer, AreBranchesAfter}
use Rattle.mh_session.specs.Represents.{Represents}
use Rattle.mh_session.specs.Served.{IsServed, IsRefusedWith, IsAnswerOfBranches}

module _ (old new : SessionState) (command : Command) where
  refused_same : (f : SessionFault) → IsRefusedWith old command new f → new ≡ old
  refused_same faults.UnknownName s = s.0
  refused_same faults.NameTaken s = s.0
  refused_same (faults.WrongPhase phase) s = s.0
  refused_same faults.TooDeep s = s.0
  refused_same faults.Memory s = s

  refused_theirs : (f : SessionFault) → IsRefusedWith old command new f → (f ≡ faults.Memory) ⊎ IsAnswerOfBranches old command (Err f)
  refused_theirs faults.UnknownName s = inr s.1
  refused_theirs faults.NameTaken s = inr s.1
  refused_theirs (faults.WrongPhase phase) s = inr s.1
  refused_theirs faults.TooDeep s = inr s.1
  refused_theirs faults.Memory s = inl refl

  pub served_reply : (r : Answer) → IsServed old command new r → IfOk r (λ x. (bs : Branches) → Represents old bs → IsAnswer old.table bs command (Ok x))
  served_reply (Ok reply) s = s.1
  served_reply (Err fault) s = tt

  pub served_next : (r : Answer) → IsServed old command new r → OnOk r ((bs : Branches) → Represents old bs → (after : Branches) × AreBranchesAfter old.table bs command after × Represents new after)
  served_next (Ok reply) s = s.2
  served_next (Err fault) s = tt

  pub served_same : (r : Answer) → IsServed old command new r → OnErr r (new ≡ old)
  served_same (Ok reply) s = tt
  served_same (Err fault) s = refused_same fault s

  pub served_fault : (r : Answer) → IsServed old command new r → IfErr r (λ f. (f ≡ faults.Memory) ⊎ ((bs : Branches) → Represents old bs → IsAnswer old.table bs command (Err f)))
  served_fault (Ok reply) s = tt
  served_fault (Err fault) s = refused_theirs fault s

  pub served_table : (r : Answer) → IsServed old command new r → new.table ≡ old.table
  served_table (Ok reply) s = s.0
  served_table (Err fault) s = ap (λ (m : SessionState). m.table) (refused_same fault s)
