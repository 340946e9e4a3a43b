use Rattle.mh_report.specs.Comments.{message_placeholder}
use Rattle.mh_report.proofs.lines.write_message_place.Goals as goal

pub returns : goal.returns
unfolding message_placeholder
returns c = c.in_ok-extend_from_slice.ensures.items
