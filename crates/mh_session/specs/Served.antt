-- The definition of a session's answer to a command: it is computed from the histories of the branches.
use Rattle.std.specs.Prelude.{◌≡◌, Result, Ok, Err}
use Rattle.mh_engine.specs.declared.phase.Phase.{Phase}
use Rattle.mh_session_branches.specs.declared.command.Command.{Command}
use Rattle.mh_session_branches.specs.declared.reply.SessionFault.{SessionFault}
use Rattle.mh_session_branches.specs.declared.reply.SessionFault.TheVariants as faults
use Rattle.mh_session.specs.SessionState.{SessionState}
use Rattle.mh_session_branches.specs.Answers.{Answer, Branches, IsAnswer, AreBranchesAfter}
use Rattle.mh_session.specs.Represents.{Represents}

-- For all branches that the session represents, this is the answer to the command.
abbrev pub IsAnswerOfBranches : SessionState → Command → Answer → Type 0
IsAnswerOfBranches old command r = (bs : Branches) → Represents old bs → IsAnswer old.table bs command r

-- The command is refused with this fault and changes nothing. If memory runs out the branches do not determine the
-- fault.
abbrev pub IsRefusedWith : SessionState → Command → SessionState → SessionFault → Type 0
IsRefusedWith old command new faults.UnknownName = (new ≡ old) × IsAnswerOfBranches old command (Err faults.UnknownName)
IsRefusedWith old command new faults.NameTaken = (new ≡ old) × IsAnswerOfBranches old command (Err faults.NameTaken)
IsRefusedWith old command new (faults.WrongPhase phase) = (new ≡ old) × IsAnswerOfBranches old command (Err (faults.WrongPhase phase))
IsRefusedWith old command new faults.TooDeep = (new ≡ old) × IsAnswerOfBranches old command (Err faults.TooDeep)
IsRefusedWith old command new faults.Memory = new ≡ old

abbrev pub IsServed : SessionState → Command → SessionState → Answer → Type 0
IsServed old command new (Ok reply) = (new.table ≡ old.table) × IsAnswerOfBranches old command (Ok reply) × ((bs : Branches) → Represents old bs → (after : Branches) × AreBranchesAfter old.table bs command after × Represents new after)
IsServed old command new (Err fault) = IsRefusedWith old command new fault
