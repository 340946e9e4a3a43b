use Rattle.mh_session_branches.proofs.OthersStay.{others_after_command, others_after_line}
use Rattle.mh_session_branches.proofs.laws.others_stay.Goals as goal

pub returns-clause-command : goal.returns-clause-command
returns-clause-command c = λ t branches after command a other h n. others_after_command t a branches after command other h n

pub returns-clause-line : goal.returns-clause-line
returns-clause-line c = λ g t branches line text after other h n. others_after_line g t branches line text after other n h
