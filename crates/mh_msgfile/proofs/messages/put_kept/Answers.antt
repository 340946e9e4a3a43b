use Rattle.std.proofs.Common.{rules}
use Rattle.mh_msgfile.proofs.messages.put_kept.Goals as goal

pub returns-in_ok-push : goal.returns-in_ok-push
returns-in_ok-push c = search rules

pub returns-else-is_kept : goal.returns-else-is_kept
returns-else-is_kept c = search rules
