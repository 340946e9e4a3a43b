use Rattle.mh_grammar.specs.Plain.{plain_of}
use Rattle.mh_items_kernels.specs.Kernels.{IsKernelItem}
use Rattle.mh_report.proofs.HasFarthestDot.{farthest_among}
use Rattle.mh_report.proofs.CommentParts.{pieces}
use Rattle.mh_report.proofs.lines.write_comments.Goals as goal

pub write_suffix-requires : goal.write_suffix-requires
write_suffix-requires g c = (farthest_among (IsKernelItem (plain_of c.args.grammar.now)) c.args.items.now c.farthest-item.result.now c.requires.items c.farthest-item.ensures).dot

pub returns : goal.returns
returns g c = (
  c.farthest-item.result.now,
  c.farthest-item.ensures,
  pieces c.args.text.now.items _ _ _ _ c.write_state.new.text.items c.write_item_lines.new.text.items c.write_suffix.new.text.items c.write_all_reduced.new.text.items
      c.in_ok-write_state.ensures c.in_ok-write_item_lines.ensures c.in_ok-write_suffix.ensures c.in_ok-write_all_reduced.ensures,
)
