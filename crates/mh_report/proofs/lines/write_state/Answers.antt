use Rattle.mh_report.specs.Comments.{state_comment}
use Rattle.mh_report.proofs.lines.write_state.Goals as goal

pub returns : goal.returns
unfolding state_comment
returns c = c.write_between.ensures
