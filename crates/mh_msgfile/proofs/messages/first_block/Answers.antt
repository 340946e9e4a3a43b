use Rattle.std.proofs.Common.{arith}
use Rattle.mh_msgfile.specs.Lines.{is_blank_line}
use Rattle.mh_msgfile.proofs.Runs.{first_none, first_some}
use Rattle.mh_msgfile.proofs.messages.first_block.Goals as goal

pub returns-in-0 : goal.returns-in-0
returns-in-0 c = first_none (is_blank_line c.args.lines.now) c.args.numbers.now _ _ _ c.count_blank_lines.ensures.value c.split_at.ensures.back c.size_of_block.ensures.value c.in-0.is

pub returns-in_default : goal.returns-in_default
returns-in_default c = first_some (is_blank_line c.args.lines.now) c.args.numbers.now _ _ _ _ _ c.count_blank_lines.ensures.value c.split_at.ensures.back c.size_of_block.ensures.value (omega arith) c.size_of_block.ensures.within c.split_at-in_default.ensures.front c.split_at-in_default.ensures.back
